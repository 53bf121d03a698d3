use Rattle.quotient.specs.Plans.{targets_from}
use Rattle.quotient.proofs.Needing.{topped-next}
use Rattle.quotient.proofs.need.all_targets.Goals as goal

pub loop-p-preserved : goal.loop-p-preserved
loop-p-preserved g c =
    let R = g.S.System.meaning c.args.system.now in
    topped-next (targets_from R) R.states c.loop-p.p _ _ _ c.loop-p.invariant c.targets_from.ensures c.saturating_add-sum.ensures
