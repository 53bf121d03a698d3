use Rattle.simplification.proofs.Puts.{Moving}
use Rattle.simplification.proofs.runs.move_run.Given as goal

abbrev pub invariant-loop-k : goal.invariant-loop-k
invariant-loop-k g l = Moving (goal.F-post g l.left) l.initial.table l.table l.first l.start l.k l.end
