-- The law of runs: no list of calls talks a claim out of the truth.
use Rattle.std.specs.Prelude.{◌≡◌, ℕ, List, [], ◌∷◌, is_err, Ok, Err, Result}
use mathlib.Core.List.{Permᴰ}
use Rattle.systems.specs.declared.actions.ActionSet.{ActionSet}
use Rattle.systems.specs.Actions.{has}
use Rattle.systems.specs.Meaning.{Meaning, Ruled, Sound}
use Rattle.systems.specs.PileLaw.{PileLaw}
use Rattle.formulas.specs.declared.node.Fills.{Fills}
use Rattle.formulas.specs.Tables.{Slots, contents}
use Rattle.formulas.specs.Truths.{holds}
use Rattle.systems.specs.Stacks.{stack}
use Rattle.simplification.specs.Laws.{Settles}
use Rattle.simplification.specs.Tables.{Desk, desk}
use Rattle.claims.specs.declared.claim.Claim.{Claim}
use Rattle.formulas.specs.declared.refusal.Refusal.{Refusal}
use Rattle.formulas.specs.declared.tables.Tables.{Tables}
use Rattle.claims.specs.declared.verdict.Verdict.{Verdict}
use Rattle.claims.specs.Books.{removing, simplifying, judging, entry, Book, fed, Stage, stage, formula_on, stacked, Stands}
use Rattle.claims.specs.Removals.{Answer, Removes}
use Rattle.claims.specs.Runs.{onward, Run, New}
use Rattle.claims.specs.Simplifications.{Simplifies}
use Rattle.claims.specs.Verdicts.{verdict, judged}

-- after an accepted simplify, a formula without move alternatives is plain yes or plain no
abbrev pub LeftSettled : Result Fills Refusal → Claim → Slots → Type 0
LeftSettled (Ok f) c s = Settles (formula_on (stage c s))
LeftSettled (Err why) c s = Unit {0}

-- two systems that no question tells apart
pub record Alike (M N : Meaning) : Type 0 where
  pub states : M.states ≡ N.states
  pub mass : M.mass ≡ N.mass
  pub breadth : M.breadth ≡ N.breadth
  pub moves : (k a : ℕ) → M.moves k a ≡ N.moves k a

abbrev pub AllAlike : List Meaning → List Meaning → Type 0
AllAlike [] [] = Unit {0}
AllAlike [] (n ∷ ns) = ⊥
AllAlike (m ∷ ms) [] = ⊥
AllAlike (m ∷ ms) (n ∷ ns) = Alike m n × AllAlike ms ns

-- the same systems in another order
abbrev pub Reordered : List Meaning → List Meaning → Type 0
Reordered ms ns = (os : List Meaning) × Permᴰ ms os × AllAlike os ns

-- what holds after a run from a new claim with the shared actions A
pub record After (A : ActionSet) (g h : Stage) (k : Book) : Type 0 where
  -- the formula then standing says of a system what the first formula says of the stack over it
  pub truth : (S : Meaning) → Ruled S → holds S (formula_on h) ≡ holds (stack (has A) k.removed S) (formula_on g)
  -- and so does every verdict
  pub verdicts : (S : Meaning) (t : Tables) (size len : ℕ) (v : Verdict) → Sound S → contents t ≡ h.tables → judged S h.claim t size len ≡ Ok v
      → v ≡ verdict (holds (stack (has A) k.removed S) (formula_on g))
  -- and an accepted simplify settles a formula that it leaves without move alternatives
  pub settled : (map : List ℕ) (r : Result Fills Refusal) (c : Claim) (d : Desk) → Simplifies h.claim (desk h.tables map) r c d → LeftSettled r c d.tables

-- two runs from the same formula, with the same systems removed in any order
pub record Agreement (h h' : Stage) : Type 0 where
  pub truth : (S : Meaning) → Ruled S → holds S (formula_on h) ≡ holds S (formula_on h')
  pub verdicts : (S : Meaning) (t t' : Tables) (size len size' len' : ℕ) (v v' : Verdict) → Sound S
      → contents t ≡ h.tables → judged S h.claim t size len ≡ Ok v → contents t' ≡ h'.tables → judged S h'.claim t' size' len' ≡ Ok v' → v ≡ v'

pub record LawOfRuns : Type 0 where
  pub piles : PileLaw
  pub runs : (A : ActionSet) (g h : Stage) (k : Book) → New A g → Run g k h → After A g h k
  pub orders : (A : ActionSet) (g h g' h' : Stage) (k k' : Book)
      → New A g → Run g k h → New A g' → Run g' k' h' → formula_on g ≡ formula_on g' → Reordered k.removed k'.removed → Agreement h h'

-- each call keeps every book that is right about its claim
abbrev pub RemoveKeeps : Type 0
RemoveKeeps =
    (R : Meaning) (c : Claim) (s second after : Slots) (r : Answer) → Sound R → Removes R c s second r after →
    (k : Book) → Stands k (stage c s) → Stands (fed k (entry (removing R) (is_err r))) (onward s r after)

abbrev pub SimplifyKeeps : Type 0
SimplifyKeeps =
    (c new : Claim) (s s' : Slots) (map map' : List ℕ) (r : Result Fills Refusal) → Simplifies c (desk s map) r new (desk s' map') →
    (k : Book) → Stands k (stage c s) → Stands (fed k (entry simplifying (is_err r))) (stage new s')

-- a verdict is what the first formula of the book says of the stack over the system S
abbrev pub Said : Book → Claim → Meaning → Result Verdict Refusal → Type 0
Said k c S (Ok v) = v ≡ verdict (holds (stacked c k S) k.first)
Said k c S (Err why) = Unit {0}

abbrev pub JudgeKeeps : Type 0
JudgeKeeps =
    (S : Meaning) (c : Claim) (t : Tables) (size len : ℕ) → Sound S →
    (k : Book) → Stands k (stage c (contents t)) → Said k c S (judged S c t size len) × Stands (fed k (entry (judging S) (is_err (judged S c t size len)))) (stage c (contents t))
