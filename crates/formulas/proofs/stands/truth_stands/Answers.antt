use Rattle.formulas.proofs.Laws.{truth-law}
use Rattle.formulas.proofs.stands.truth_stands.Goals as goal

pub returns : goal.returns
returns c = truth-law
