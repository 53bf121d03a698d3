use Rattle.std.proofs.Common.{◌≡◌, ◌<◌, ◌≤◌, take}
use Rattle.std.specs.List.{AllByRecursion}
use Rattle.claims.specs.Rows.{marked}
use Rattle.claims.proofs.row.mark.Given as goal

abbrev pub invariant-loop-d : goal.invariant-loop-d
invariant-loop-d l =
    (l.row ≡ marked l.initial.row (take l.d-index l.wanted))
    × AllByRecursion (λ d. (l.low ≤ d) × (d < l.high)) (take l.d-index l.wanted)
    × (l.high ≤ l.upto)
