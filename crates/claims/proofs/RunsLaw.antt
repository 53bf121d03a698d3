-- The law of runs.
use Rattle.std.proofs.Common.{◌≡◌, ℕ, List, [], ◌∷◌, is_ok, Ok, Err, Result, sym, refl, ap, ◌∙◌, subst, ap₂}
use mathlib.Core.Path.{fun_ext}
use Rattle.std.specs.List.{AllByRecursion}
use Rattle.std.proofs.ByRecursion.{All-append, All-weaker}
use Rattle.systems.specs.declared.actions.ActionSet.{ActionSet}
use Rattle.systems.specs.Actions.{has}
use Rattle.systems.specs.Meaning.{Meaning, Move, Shaped, Ruled}
use Rattle.systems.specs.PileLaw.{PileLaw}
use Rattle.formulas.specs.declared.node.Fills.{Fills}
use Rattle.formulas.specs.Laws.{HeldLaw, LinesLaw}
use Rattle.formulas.specs.Tables.{stands_in, contents}
use Rattle.formulas.specs.Truths.{holds}
use Rattle.formulas.specs.WellFormed.{WellFormed}
use Rattle.systems.specs.Stacks.{stack}
use Rattle.quotient.specs.Theorems.{QuotientLaw, OrderLaw, ShapeLaw}
use Rattle.simplification.specs.Laws.{KeepsTruthLaw, WeighedLaw, SettlesLaw, Settles}
use Rattle.simplification.specs.Simplify.{simplify as simpler}
use Rattle.simplification.specs.Tables.{Desk, desk}
use Rattle.claims.specs.declared.claim.Claim.{Claim}
use Rattle.formulas.specs.declared.refusal.Refusal.{Refusal}
use Rattle.formulas.specs.declared.tables.Tables.{Tables}
use Rattle.claims.specs.declared.verdict.Verdict.{Verdict}
use Rattle.claims.specs.Books.{Entry, Book, fed, Stage, stage, formula_on, Stands}
use Rattle.claims.specs.Law.{Alike, AllAlike, Reordered, LeftSettled, After, Agreement, LawOfRuns}
use Rattle.claims.specs.Runs.{Step, remove, simplify, judge, Run, begin, call, New}
use Rattle.claims.specs.Simplifications.{Simplifies}
use Rattle.claims.specs.Verdicts.{verdict, judged}
use Rattle.claims.proofs.Keeping.{tested-desk, well_formed, remove-keeps, simplified-formula, simplify-keeps, judged-holds}

-- what no question tells apart is the same
alike_same : (M N : Meaning) → Alike M N → M ≡ N
alike_same M N e =
    ap₂ (λ (n : ℕ) (m : ℕ). record { states = n; mass = m; breadth = M.breadth; moves = M.moves }) e.states e.mass
    ∙ ap₂ (λ (b : ℕ) (f : ℕ → ℕ → List Move). record { states = N.states; mass = N.mass; breadth = b; moves = f }) e.breadth (fun_ext (λ k. fun_ext (λ a. e.moves k a)))

all_same : (ms ns : List Meaning) → AllAlike ms ns → ms ≡ ns
all_same [] [] e = refl
all_same [] (n ∷ ns) e = absurd e
all_same (m ∷ ms) [] e = absurd e
all_same (m ∷ ms) (n ∷ ns) e = ap₂ ◌∷◌ (alike_same m n e.0) (all_same ms ns e.1)

-- the verdict on the claim at h, in lent tables that hold what stands there
told : (S : Meaning) (h : Stage) (t : Tables) → contents t ≡ h.tables → (size len : ℕ) (v : Verdict) → judged S h.claim t size len ≡ Ok v → v ≡ verdict (holds S (formula_on h))
told S h t same size len v e = judged-holds S h.claim t size len v e ∙ ap (λ s. verdict (holds S (formula_on (stage h.claim s)))) same

module _
    (held : HeldLaw) (back : LinesLaw) (quotients : QuotientLaw) (order : OrderLaw) (shape : ShapeLaw) (piles : PileLaw)
    (keeps : KeepsTruthLaw) (weighed : WeighedLaw) (settles : SettlesLaw)
  where
    module _ (A : ActionSet) (g : Stage) where
      -- the book is kept of the claim at g, and is right
      record Faithful (k : Book) (h : Stage) : Type 0 where
        first : k.first ≡ formula_on g
        shared : h.claim.shared ≡ A
        ruled : AllByRecursion Ruled k.removed
        stands : Stands k h

      step_faithful : {k : Book} {e : Entry} {h i : Stage} → Faithful k h → Step h e i → Faithful (fed k e) i
      step_faithful {k} {h} p (remove R second after (Ok x) sound q) = record {
        first = p.first;
        shared = q.shared ∙ p.shared;
        ruled = All-append Ruled k.removed (R ∷ []) p.ruled (sound.ruled, tt);
        stands = remove-keeps held back quotients shape piles R h.claim h.tables second after (Ok x) sound q k p.stands;
      }
      step_faithful {k} {h} p (remove R second after (Err e) sound q) = record {
        first = p.first;
        shared = ap (λ c. c.shared) q.claim ∙ p.shared;
        ruled = p.ruled;
        stands = remove-keeps held back quotients shape piles R h.claim h.tables second after (Err e) sound q k p.stands;
      }
      step_faithful {k} {h} p (simplify map map' s c (Ok f) q) = record {
        first = p.first;
        shared = q.shared ∙ p.shared;
        ruled = p.ruled;
        stands = simplify-keeps held back keeps weighed h.claim c h.tables s map map' (Ok f) q k p.stands;
      }
      step_faithful {k} {h} p (simplify map map' s c (Err e) q) = record {
        first = p.first;
        shared = ap (λ d. d.shared) q.claim ∙ p.shared;
        ruled = p.ruled;
        stands = simplify-keeps held back keeps weighed h.claim c h.tables s map map' (Err e) q k p.stands;
      }
      step_faithful p (judge S t truth row r sound same q) = p

      run_faithful : {k : Book} {h : Stage} → New A g → Run g k h → Faithful k h
      run_faithful new begin = record { first = refl; shared = new.opened.shared; ruled = tt; stands = λ S ruled. refl }
      run_faithful new (call run step) = step_faithful (run_faithful new run) step

      module _ {k : Book} {h : Stage} (p : Faithful k h) where
        truth-after : (S : Meaning) → Ruled S → holds S (formula_on h) ≡ holds (stack (has A) k.removed S) (formula_on g)
        truth-after S ruled = p.stands S ruled ∙ ap₂ (λ B F. holds (stack (has B) k.removed S) F) p.shared p.first

    settled-after : (h : Stage) (map : List ℕ) (r : Result Fills Refusal) (c : Claim) (d : Desk) → Simplifies h.claim (desk h.tables map) r c d → LeftSettled r c d.tables
    settled-after h map (Err why) c d p = tt
    settled-after h map (Ok f) c d p =
        let same : formula_on (stage c d.tables) ≡ simpler (formula_on h) = simplified-formula held back keeps weighed h.claim c h.tables d.tables map d.map f p in
        let formed = well_formed held h.claim.fills h.claim.root h.claim.mass h.tables (tested-desk _ _ _ _ (ap (λ o. is_ok o.answer) p.accepted)) in
        subst Settles (sym same) (settles (formula_on h) formed)

    runs : (A : ActionSet) (g h : Stage) (k : Book) → New A g → Run g k h → After A g h k
    runs A g h k new run =
        let p = run_faithful A g new run in
        record {
          truth = truth-after A g p;
          verdicts = λ S t size len v sound same e. told S h t same size len v e ∙ ap verdict (truth-after A g p S sound.ruled);
          settled = settled-after h;
        }

    new-formed : (A : ActionSet) (g : Stage) → New A g → WellFormed (formula_on g)
    new-formed A g new = well_formed held _ _ 1 g.tables (ap₂ (λ f r. stands_in f r 1 g.tables) new.opened.fills new.opened.root ∙ new.held)

    orders : (A : ActionSet) (g h g' h' : Stage) (k k' : Book)
        → New A g → Run g k h → New A g' → Run g' k' h' → formula_on g ≡ formula_on g' → Reordered k.removed k'.removed → Agreement h h'
    orders A g h g' h' k k' new run new' run' same other =
        let p = run_faithful A g new run in
        let p' = run_faithful A g' new' run' in
        let agree : (S : Meaning) → Ruled S → holds S (formula_on h) ≡ holds S (formula_on h') = λ S ruled.
        truth-after A g p S ruled
        ∙ order (has A) S k.removed other.0 (formula_on g) (shape S ruled) (All-weaker Ruled Shaped shape k.removed p.ruled) other.1 (new-formed A g new)
        ∙ ap₂ (λ rs F. holds (stack (has A) rs S) F) (all_same other.0 k'.removed other.2) same
        ∙ sym (truth-after A g' p' S ruled) in
        record {
          truth = agree;
          verdicts = λ S t t' size len size' len' v v' sound same-t e same-t' e'.
              told S h t same-t size len v e ∙ ap verdict (agree S sound.ruled) ∙ sym (told S h' t' same-t' size' len' v' e');
        }

    pub law : LawOfRuns
    law = record { piles = piles; runs = runs; orders = orders }
