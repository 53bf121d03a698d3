use Rattle.simplification.specs.Settling.{glance_of}
use Rattle.simplification.proofs.Keeping.{Weighing}
use Rattle.simplification.proofs.settle.weigh.Given as goal

abbrev pub invariant-loop-t : goal.invariant-loop-t
invariant-loop-t l = Weighing (glance_of l.before) l.threshold l.terms l.t-index l.rest.threshold l.rest.lack
