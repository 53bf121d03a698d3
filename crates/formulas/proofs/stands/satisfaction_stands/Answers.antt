use Rattle.formulas.proofs.Laws.{formed-law}
use Rattle.formulas.proofs.Satisfied.{in_law, of-law}
use Rattle.formulas.proofs.stands.satisfaction_stands.Goals as goal

pub returns : goal.returns
returns c = record { formed = formed-law; states = in_law; moves = of-law }
