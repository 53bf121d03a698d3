-- The worked examples: each row is computed.
use Rattle.std.proofs.Common.{refl}
use Rattle.systems.specs.Piles.{cross, moves_over, pile_moves}
use Rattle.formulas.specs.Truths.{truths}
use Rattle.quotient.specs.Quotient.{rows, first_row, place, new_line}
use Rattle.claims.specs.Examples.{WorkedExamples}

pub examples : WorkedExamples
unfolding cross moves_over pile_moves truths rows first_row place new_line
examples = (refl, (refl, (refl, (refl, (refl, (refl, (refl, (refl, (refl, (refl, (refl, (refl, (refl, (refl, (refl, (refl, (refl, (refl, (refl, tt)))))))))))))))))))
