use Rattle.quotient.proofs.stack_stands.Goals as goal
use Rattle.quotient.proofs.Order.{order_law}
use Rattle.quotient.proofs.Rules.{shape-law}

pub returns : goal.returns
returns c = record { order = order_law c.course_stands.ensures; shape = shape-law }
