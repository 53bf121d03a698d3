use Rattle.simplification.proofs.Reached.{reach}
use Rattle.simplification.proofs.reach_stands.Goals as goal

pub returns : goal.returns
returns c = reach
