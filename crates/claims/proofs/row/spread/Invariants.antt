use Rattle.std.proofs.Common.{◌≤◌}
use Rattle.claims.specs.Rows.{Spread}
use Rattle.claims.proofs.row.spread.Given as goal

abbrev pub invariant-loop-low : goal.invariant-loop-low
invariant-loop-low l = Spread l.nodes l.j l.initial.low l.low l.initial.j l.initial.row l.row × (l.j ≤ l.initial.j)

abbrev pub decreases-loop-low : goal.decreases-loop-low
decreases-loop-low l = l.j
