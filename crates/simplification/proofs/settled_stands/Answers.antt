use Rattle.simplification.proofs.Settled.{settles}
use Rattle.simplification.proofs.settled_stands.Goals as goal

pub returns : goal.returns
returns c = settles
