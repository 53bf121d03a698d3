-- What is proved of quotients and stacks.
use Rattle.std.specs.Prelude.{◌≡◌, ℕ, ◌+◌, ◌*◌, ◌<◌, Bool, List, length}
use mathlib.Core.List.{Permᴰ}
use Rattle.std.specs.List.{AllByRecursion}
use Rattle.systems.specs.Meaning.{Meaning, Move, Shaped, Ruled}
use Rattle.systems.specs.Piles.{pile, pair}
use Rattle.formulas.specs.Lines.{state, dist, Formula}
use Rattle.formulas.specs.Truths.{truths, at_node, of_node, holds}
use Rattle.quotient.specs.Quotient.{rows, row, place, quotient}
use Rattle.systems.specs.Stacks.{stack}
use Rattle.formulas.specs.WellFormed.{Part, WellFormed, Bounded}

-- every target is one of n states
abbrev pub Into : ℕ → Move → Type 0
Into n mv = AllByRecursion (λ t. t.state < n) mv

-- a quotient holds of a system exactly if the formula holds of the removed system piled over it
abbrev pub QuotientLaw : Type 0
QuotientLaw =
    (A : ℕ → Bool) (R S : Meaning) (F : Formula) →
    Shaped R →
    Shaped S →
    WellFormed F →
    WellFormed (quotient A R F) × (holds S (quotient A R F) ≡ holds (pile A R S) F)

-- so it is line by line: in p over v, and of row r with a move or point below it
abbrev pub QuotientAt : Type 0
QuotientAt =
    (A : ℕ → Bool) (R S : Meaning) (F : Formula) →
    Shaped R →
    Shaped S →
    WellFormed F →
    ((i p v : ℕ) → Part F.lines (length F.lines) state i → p < R.states → v < S.states →
    at_node (truths S (quotient A R F).lines) (place R F.lines i p) v ≡ at_node (truths (pile A R S) F.lines) i (p * S.states + v))
    × ((i r : ℕ) (mv : Move) → Part F.lines (length F.lines) dist i → r < length (rows R) → Into S.states mv →
    of_node (truths S (quotient A R F).lines) (place R F.lines i r) mv ≡ of_node (truths (pile A R S) F.lines) i (pair S.states (row R r) mv))

-- sums that keep to their bounds keep to them in the quotient, whose removed mass is multiplied
abbrev pub BoundsLaw : Type 0
BoundsLaw =
    (A : ℕ → Bool) (R : Meaning) (F : Formula) (m : ℕ) →
    Ruled R →
    AllByRecursion (Bounded m) F.lines →
    AllByRecursion (Bounded (m * R.mass)) (quotient A R F).lines

-- the order of the systems in a stack does not matter
abbrev pub OrderLaw : Type 0
OrderLaw =
    (A : ℕ → Bool) (S : Meaning) (rs rs' : List Meaning) (F : Formula) →
    Shaped S →
    AllByRecursion Shaped rs →
    Permᴰ rs rs' →
    WellFormed F →
    holds (stack A rs S) F ≡ holds (stack A rs' S) F

-- systems that keep the rules are in shape
abbrev pub ShapeLaw : Type 0
ShapeLaw = (S : Meaning) → Ruled S → Shaped S
