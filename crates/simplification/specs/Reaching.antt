-- The second pass: ticks for what the root reaches.
use Rattle.std.specs.Prelude.{◌≡◌, ℕ, ◌<◌, cond, List, length, fold, slice_index, slice_set}
use Rattle.simplification.specs.Simplify.{member}

-- these ticked too
abbrev pub ticked : List ℕ → List ℕ → List ℕ
ticked to ks = fold (λ r k. slice_set r k 1) to ks

-- a tick for each number that is among these
abbrev pub Ticks : List ℕ → List ℕ → Type 0
Ticks to r = (j : ℕ) → j < length to → slice_index to j ≡ cond (member j r) 1 0
