-- The lines that are kept are those that the root reaches.
use Rattle.std.proofs.Common.{◌≡◌, ℕ, ◌<◌, Bool, true, ◌||◌, eqb, List, [], ◌∷◌, refl, ap, ◌∙◌}
use mathlib.Core.Bool.{or-true}
use Rattle.std.specs.List.{AllByRecursion}
use Rattle.std.proofs.lemmas.Bool.{eq-eqb}
use Rattle.formulas.specs.Lines.{Formula}
use Rattle.formulas.specs.WellFormed.{line_at}
use Rattle.simplification.specs.Simplify.{parts, member, kept}
use Rattle.simplification.specs.Laws.{Reach, itself, part, ReachLaw}
use Rattle.simplification.proofs.Outcomes.{Ordered}
use Rattle.simplification.proofs.Prune.{member_get, kept-only, kept-root, kept-parts}
use Rattle.simplification.proofs.Forms.{fitting_ordered}

all_members : (P : ℕ → Type 0) (xs : List ℕ) → ((j : ℕ) → member j xs ≡ true → P j) → AllByRecursion P xs
all_members P [] f = tt
all_members P (x ∷ xs) f = (
  f x (ap (λ (b : Bool). b || member x xs) (eq-eqb x x refl)),
  all_members P xs (λ j h. f j (ap (λ (b : Bool). eqb x j || b) h ∙ or-true (eqb x j))),
)

module _ (F : Formula) (o : Ordered F.lines) where
  reach-kept : (j : ℕ) → Reach F j → kept F j ≡ true
  reach-kept j itself = kept-root F
  reach-kept j (part {i} r h m) = (member_get (λ j. (kept F j ≡ true) × (j < i)) (parts (line_at F.lines i)) j (kept-parts F o i h (reach-kept i r)) m).0

pub reach : ReachLaw
reach F w i = (
  kept-only (Reach F) F itself (λ i h r. all_members (Reach F) (parts (line_at F.lines i)) (λ j m. part r h m)) i,
  reach-kept F (fitting_ordered F.lines w.lines) i,
)
