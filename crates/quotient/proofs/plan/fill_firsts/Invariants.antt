use Rattle.std.proofs.Common.{◌≡◌, ◌+◌, ◌*◌, ◌/◌, ◌%◌, ◌≤◌}
use Rattle.quotient.specs.Quotient.{first_row}
use Rattle.quotient.specs.Plans.{Firsts}
use Rattle.quotient.proofs.plan.fill_firsts.Given as goal

abbrev pub invariant-loop-i : goal.invariant-loop-i
invariant-loop-i g l =
    let R = g.S.System.meaning l.system in
    (l.next ≡ first_row R (l.i / 32) (l.i % 32)) × (l.next ≤ 4096 + l.i * 4096) × Firsts R l.first-items l.i
