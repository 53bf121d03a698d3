use Rattle.systems.proofs.PileLaw.{law}
use Rattle.systems.proofs.pile.pile_stands.Goals as goal

pub returns : goal.returns
returns c = law
