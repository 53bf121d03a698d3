use Rattle.std.proofs.Common.{◌≡◌, ◌≤◌, [], ◌∷◌, length, take, drop}
use Rattle.formulas.specs.Tables.{contents}
use Rattle.simplification.specs.Packed.{all_lines}
use Rattle.simplification.specs.Simplify.{reached}
use Rattle.simplification.specs.Reaching.{Ticks}
use Rattle.simplification.proofs.reach.reach.Given as goal

-- the nodes that are still to come are the first ones
abbrev pub invariant-loop-i : goal.invariant-loop-i
invariant-loop-i l =
    let rest = l.i-iterator.iter.iter.rest.now in
    (l.i-iterator.iter.count ≡ 0)
    × (length rest ≤ length l.tables.nodes.now)
    × (rest ≡ take (length rest) l.tables.nodes.now)
    × Ticks l.ticks (reached (length rest) (drop (length rest) (all_lines (contents l.tables))) (l.root ∷ []))
