use Rattle.quotient.proofs.quotient_stands.Goals as goal
use Rattle.quotient.proofs.Bounds.{bounds_law}
use Rattle.quotient.proofs.Quotients.{quotient-law, quotient-at}

pub returns : goal.returns
returns c = record { whole = quotient-law c.course_stands.ensures; lines = quotient-at c.course_stands.ensures; bounds = bounds_law }
