use Rattle.quotient.specs.Plans.{targets_on}
use Rattle.quotient.proofs.Needing.{topped-next}
use Rattle.quotient.proofs.need.targets_from.Goals as goal

pub loop-action-preserved : goal.loop-action-preserved
loop-action-preserved g c =
    topped-next (targets_on (g.S.System.meaning c.args.system.now) c.args.state) 0 c.loop-action.action _ _ _ c.loop-action.invariant c.targets_on.ensures c.saturating_add-sum.ensures
