use Rattle.formulas.proofs.Held.{held-law}
use Rattle.formulas.proofs.Laid.{laid-law}
use Rattle.formulas.proofs.stands.tables_stand.Goals as goal

pub returns : goal.returns
returns c = record { held = held-law; laid = laid-law }
