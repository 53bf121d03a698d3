use Rattle.std.proofs.Common.{◌≡◌, length, take, sum_by}
use Rattle.quotient.specs.Plans.{topped}
use Rattle.quotient.proofs.need.targets_on.Given as goal

abbrev pub invariant-loop-k : goal.invariant-loop-k
invariant-loop-k g l = l.sum ≡ topped (sum_by length (take l.k ((g.S.System.meaning l.system).moves l.state l.action)))
