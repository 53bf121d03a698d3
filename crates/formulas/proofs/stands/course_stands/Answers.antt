use Rattle.formulas.proofs.Laws.{course_law}
use Rattle.formulas.proofs.stands.course_stands.Goals as goal

pub returns : goal.returns
returns c = course_law
