use Rattle.simplification.proofs.Keeps.{weighed, keeps_truth}
use Rattle.simplification.proofs.truth_kept_stands.Goals as goal

pub returns : goal.returns
returns c = record { ruled = weighed; kept = keeps_truth c.course_stands.ensures }
