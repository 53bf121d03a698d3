use Rattle.std.proofs.Common.{◌≡◌, take}
use Rattle.std.specs.List.{flat_map}
use Rattle.quotient.specs.Plans.{plan_nodes, node_lines}
use Rattle.quotient.specs.Layings.{filled, SameTables, lay_all}
use Rattle.quotient.proofs.plan.Division.put_nodes.Given as goal

abbrev pub invariant-loop-node : goal.invariant-loop-node
invariant-loop-node g l =
    let R = g.S.System.meaning l.self.system.now in
    record { same : SameTables l.initial.out l.out; wrote : filled l.out ≡ lay_all (filled l.initial.out) (flat_map (node_lines R l.self.plan) (take l.node-index (plan_nodes l.self.plan))) }
