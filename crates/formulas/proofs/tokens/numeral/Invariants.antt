use Rattle.formulas.proofs.Digits.{Sofar}
use Rattle.formulas.proofs.tokens.numeral.Given as goal

abbrev pub invariant-loop-b : goal.invariant-loop-b
invariant-loop-b l = Sofar l.word l.b-index l.value
