use Rattle.std.proofs.Common.{arith}
use Rattle.std.proofs.lemmas.Grind.{common_steps}
use Rattle.formulas.proofs.Digits.{more}
use Rattle.formulas.proofs.tokens.numeral.Goals as goal

pub loop-b-preserved : goal.loop-b-preserved
loop-b-preserved c = more _ _ _ c.loop-b.invariant c.loop-b-test.true _ (cc) (grind (arith, common_steps)) (grind (arith, common_steps))
