use Rattle.formulas.proofs.ReadingLaw.{law}
use Rattle.formulas.proofs.read.read.Goals as goal

pub returns : goal.returns
returns c = record { lent = c.read_twice.ensures.lent; reads = c.read_twice.ensures.reads; law = law }
