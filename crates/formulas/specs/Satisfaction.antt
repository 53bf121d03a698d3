-- Satisfaction, kind by kind: when a line of a formula holds in a state, and of a move or point.
use Rattle.std.specs.Prelude.{◌≡◌, ℕ, ◌*◌, ◌<◌, ◌≤◌, true, false, ◌⊎◌, List, [], length, sum_by, slice_index_or}
use Rattle.systems.specs.Meaning.{Meaning, Move, point}
use Rattle.formulas.specs.Lines.{state, dist, Line, constant, both, non, step, sum}
use Rattle.formulas.specs.Truths.{truths, at_node, of_node, weigh}

-- each follows from the other
abbrev pub Iff : Type 0 → Type 0 → Type 0
Iff A B = (A → B) × (B → A)

-- P holds of an entry of the list, the one at the place k; d stands for no entry
abbrev pub Some : {X : Type 0} → X → List X → (X → Type 0) → Type 0
Some d xs P = (k : ℕ) × (k < length xs) × P (slice_index_or xs k d)

-- line i of a formula holds in the state s
abbrev pub HoldsIn : Meaning → List Line → ℕ → ℕ → Type 0
HoldsIn S ls i s = at_node (truths S ls) i s ≡ true

-- line i of a formula holds of the move or point mv
abbrev pub HoldsOf : Meaning → List Line → ℕ → Move → Type 0
HoldsOf S ls i mv = of_node (truths S ls) i mv ≡ true

-- the weight of the targets whose state satisfies line i
abbrev pub weight : Meaning → List Line → ℕ → Move → ℕ
weight S ls i mv = weigh (at_node (truths S ls) i) mv

-- what it takes for a line to hold in the state s: one of the distribution sort holds in none
abbrev pub SatisfiedIn : Meaning → List Line → ℕ → Line → Type 0
SatisfiedIn S ls s (constant state true) = Unit {0}
SatisfiedIn S ls s (constant state false) = ⊥
SatisfiedIn S ls s (constant dist b) = ⊥
SatisfiedIn S ls s (both state i j) = HoldsIn S ls i s × HoldsIn S ls j s
SatisfiedIn S ls s (both dist i j) = ⊥
SatisfiedIn S ls s (non state i) = HoldsIn S ls i s → ⊥
SatisfiedIn S ls s (non dist i) = ⊥
SatisfiedIn S ls s (step a ms hs) =
    Some [] (S.moves s a) (λ mv. Some 0 ms (λ d. HoldsOf S ls d mv)) ⊎ Some 0 hs (λ d. HoldsOf S ls d (point S s))
SatisfiedIn S ls s (sum t ks) = ⊥

-- what it takes for a line to hold of the move or point mv: one of the state sort holds of none
abbrev pub SatisfiedOf : Meaning → List Line → Move → Line → Type 0
SatisfiedOf S ls mv (constant dist true) = Unit {0}
SatisfiedOf S ls mv (constant dist false) = ⊥
SatisfiedOf S ls mv (constant state b) = ⊥
SatisfiedOf S ls mv (both dist i j) = HoldsOf S ls i mv × HoldsOf S ls j mv
SatisfiedOf S ls mv (both state i j) = ⊥
SatisfiedOf S ls mv (non dist i) = HoldsOf S ls i mv → ⊥
SatisfiedOf S ls mv (non state i) = ⊥
SatisfiedOf S ls mv (step a ms hs) = ⊥
SatisfiedOf S ls mv (sum t ks) = t * S.mass ≤ sum_by (λ k. k.coefficient * weight S ls k.node mv) ks
