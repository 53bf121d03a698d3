use Rattle.std.proofs.Common.{◌≡◌, map}
use Rattle.std.specs.List.{range_with_len}
use Rattle.quotient.specs.Plans.{node_line}
use Rattle.quotient.specs.Layings.{filled, SameTables, lay_all}
use Rattle.quotient.proofs.plan.Division.put_plain.Given as goal

abbrev pub invariant-loop-p : goal.invariant-loop-p
invariant-loop-p g l =
    let R = g.S.System.meaning l.self.system.now in
    record { same : SameTables l.initial.out l.out; wrote : filled l.out ≡ lay_all (filled l.initial.out) (map (node_line R l.self.plan l.node) (range_with_len 0 l.p)) }
