-- The laws of simplification.
use Rattle.std.specs.Prelude.{◌≡◌, ℕ, ◌<◌, ◌≤◌, Bool, true, false, ◌⊎◌, [], ◌∷◌, length}
use Rattle.std.specs.List.{AllByRecursion}
use Rattle.systems.specs.Meaning.{Meaning, Move, Ruled, total}
use Rattle.formulas.specs.declared.node.Fills.{Fills}
use Rattle.formulas.specs.Lines.{state, Line, constant, both, non, step, sum, Formula}
use Rattle.formulas.specs.Truths.{truths, at_node}
use Rattle.formulas.specs.Layout.{fills}
use Rattle.formulas.specs.Satisfaction.{Iff}
use Rattle.formulas.specs.WellFormed.{WellFormed, Bounded, line_at}
use Rattle.simplification.specs.Simplify.{parts, member, kept, simplify}

-- the weights of a move add up to the mass
abbrev pub Whole : Meaning → Move → Type 0
Whole S mv = total mv ≡ S.mass

-- what simplification asks of a system
pub record Weighed (S : Meaning) : Type 0 where
  pub heavy : 1 ≤ S.mass
  pub whole : (s a : ℕ) → AllByRecursion (Whole S) (S.moves s a)

abbrev pub WeighedLaw : Type 0
WeighedLaw = (S : Meaning) → Ruled S → Weighed S

-- whether a formula holds in a state
abbrev pub holds_in : Meaning → Formula → ℕ → Bool
holds_in S F s = at_node (truths S F.lines) F.root s

-- a simplified formula holds in the same states, and so of the same systems
abbrev pub KeepsTruthLaw : Type 0
KeepsTruthLaw = (S : Meaning) → Weighed S → (F : Formula) → WellFormed F → (s : ℕ) → holds_in S (simplify F) s ≡ holds_in S F s

abbrev pub KeepsFormLaw : Type 0
KeepsFormLaw = (F : Formula) → WellFormed F → WellFormed (simplify F)

abbrev pub KeepsBoundsLaw : Type 0
KeepsBoundsLaw = (m : ℕ) (F : Formula) → WellFormed F → AllByRecursion (Bounded m) F.lines → AllByRecursion (Bounded m) (simplify F).lines

-- line j is the root, or a part of a line that the root reaches
pub data Reach (F : Formula) : ℕ → Type 0 where
  itself : Reach F F.root
  part : {i j : ℕ} → Reach F i → i < length F.lines → member j (parts (line_at F.lines i)) ≡ true → Reach F j

-- the lines that are kept are just those that the root reaches
abbrev pub ReachLaw : Type 0
ReachLaw = (F : Formula) → WellFormed F → (i : ℕ) → Iff (kept F i ≡ true) (Reach F i)

-- whether a line is a step with a move alternative
abbrev pub moving : Line → Bool
moving (constant σ b) = false
moving (both σ i j) = false
moving (non σ i) = false
moving (step a [] hs) = false
moving (step a (m ∷ ms) hs) = true
moving (sum t ks) = false

-- no line of a formula is a step with a move alternative
abbrev pub Still : Formula → Type 0
Still F = (i : ℕ) → i < length F.lines → moving (line_at F.lines i) ≡ false

-- the formula of one constant
abbrev pub only : Bool → Formula
only b = record { lines = constant state b ∷ []; root = 0 }

-- without move alternatives, the formula is one line, yes or no
abbrev pub Settles : Formula → Type 0
Settles F = Still F → (F ≡ only true) ⊎ (F ≡ only false)

abbrev pub SettlesLaw : Type 0
SettlesLaw = (F : Formula) → WellFormed F → Settles (simplify F)

-- no more nodes, no more terms, no more alternatives
pub record Fewer (new old : Fills) : Type 0 where
  pub nodes : new.nodes ≤ old.nodes
  pub terms : new.terms ≤ old.terms
  pub alternatives : new.alternatives ≤ old.alternatives

abbrev pub FillsLaw : Type 0
FillsLaw = (F : Formula) → WellFormed F → Fewer (fills (simplify F).lines) (fills F.lines)
