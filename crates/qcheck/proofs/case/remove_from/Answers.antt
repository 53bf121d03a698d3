use Rattle.std.proofs.Common.{subst}
use Rattle.formulas.specs.declared.refusal.Refusal.TheVariants.{Short}
use Rattle.qcheck.specs.Cases.{Removal}
use Rattle.qcheck.proofs.Cases.{again}
use Rattle.qcheck.proofs.case.remove_from.Goals as goal

pub returns-in-Err-default-Short-clause-step : goal.returns-in-Err-default-Short-clause-step
returns-in-Err-default-Short-clause-step g c =
    let R = g.S.System.meaning c.args.system.now in
    again R c.args.case c.in-Err-default-Short.case Short _ (subst (Removal R c.args.case) c.in-Err-default-Short.is c.in_ok-removed.ensures.step) c.remove_into-in-Err-default-Short.ensures.step
