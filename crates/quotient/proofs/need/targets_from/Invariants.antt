use Rattle.std.proofs.Common.{◌≡◌, ◌+◌, sum_by}
use Rattle.std.specs.List.{range_with_len}
use Rattle.quotient.specs.Plans.{topped, targets_on}
use Rattle.quotient.proofs.need.targets_from.Given as goal

abbrev pub invariant-loop-action : goal.invariant-loop-action
invariant-loop-action g l = l.sum ≡ topped (0 + sum_by (targets_on (g.S.System.meaning l.system) l.state) (range_with_len 0 l.action))
