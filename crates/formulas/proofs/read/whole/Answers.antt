use Rattle.std.proofs.Common.{refl, rules}
use Rattle.formulas.proofs.Whole.{same_store, whole-refused, parse-stopped, parse-stray, whole-done}
use Rattle.formulas.proofs.read.whole.Goals as goal

pub returns-in_err-root-clause-read : goal.returns-in_err-root-clause-read
returns-in_err-root-clause-read c =
    whole-refused _ _ _ _ (parse-stopped _ c.new.ensures.0 c.new.ensures.1 c.in_err-root.ensures.took) c.from_residual.ensures

pub returns-in_err-end-clause-read : goal.returns-in_err-end-clause-read
returns-in_err-end-clause-read c =
    whole-refused _ _ _ _
    (parse-stray _ c.new.ensures.0 c.new.ensures.1 c.in_ok-root.ensures.took c.in_err-end.ensures)
    c.from_residual-in_err-end.ensures

pub returns-clause-read : goal.returns-clause-read
returns-clause-read c =
    whole-done _ c.new.ensures.0 c.new.ensures.1 c.in_ok-root.ensures.took refl
    (same_store (search rules) refl (search rules) refl (search rules) refl) c.in_ok-end.ensures
