use Rattle.formulas.proofs.Layouts.{layout_law, lines-law}
use Rattle.formulas.proofs.stands.layout_stands.Goals as goal

pub returns : goal.returns
returns c = record { tables = layout_law; lines = lines-law }
