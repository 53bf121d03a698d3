use Rattle.std.proofs.Common.{◌≡◌, ◌+◌, length, sum_by}
use Rattle.std.specs.List.{range_with_len}
use Rattle.quotient.specs.Plans.{topped, step_need}
use Rattle.quotient.proofs.need.steps_need.Given as goal

abbrev pub invariant-loop-p : goal.invariant-loop-p
invariant-loop-p g l =
    let R = g.S.System.meaning l.system in
    l.sum ≡ topped (0 + sum_by (λ p. step_need l.shared l.m l.h (length (R.moves p l.action))) (range_with_len 0 l.p))
