use Rattle.std.proofs.Common.{◌≡◌, ◌+◌, sum_by}
use Rattle.std.specs.List.{range_with_len}
use Rattle.quotient.specs.Plans.{topped, targets_from}
use Rattle.quotient.proofs.need.all_targets.Given as goal

abbrev pub invariant-loop-p : goal.invariant-loop-p
invariant-loop-p g l =
    let R = g.S.System.meaning l.system in
    l.sum ≡ topped (R.states + sum_by (targets_from R) (range_with_len 0 l.p))
