use Rattle.std.proofs.Common.{ap, ◌∙◌}
use Rattle.quotient.specs.Layings.{filled, lay_all}
use Rattle.quotient.proofs.Dividing.{quotient_by_nodes}
use Rattle.quotient.proofs.plan.Division.put_nodes.Goals as goal

pub returns-clause-wrote : goal.returns-clause-wrote
returns-clause-wrote g c =
    let R = g.S.System.meaning c.args.self.now.system.now in
    let h = c.loop-node.invariant in
    h.wrote ∙ ap (lay_all (filled c.args.out.now)) (quotient_by_nodes R c.args.self.now.plan c.loop-node.node-index c.loop-node-test.false)
