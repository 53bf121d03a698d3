use Rattle.std.proofs.Common.{map, vec_items}
use Rattle.systems.specs.Index.{Grouped}
use Rattle.systems.proofs.component.grouped.Given as goal

abbrev pub invariant-loop-r : goal.invariant-loop-r
invariant-loop-r l = Grouped l.states l.rows l.r-index (map vec_items (vec_items l.cells))
