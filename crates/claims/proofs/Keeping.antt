-- Each call keeps every book that is right about its claim.
use Rattle.std.proofs.Common.{◌≡◌, ℕ, ◌*◌, Bool, true, false, cond, not, ◌&&◌, ◌||◌, ltb, leb, List, [], ◌∷◌, ◌++◌, length, take, is_ok, Ok, Err, Result, sym, refl, ap, ◌∙◌, subst, ap₂, subst₂, true≢false}
use Rattle.std.proofs.lemmas.Bool.{and_parts}
use Rattle.systems.specs.Actions.{has}
use Rattle.systems.specs.Meaning.{Meaning}
use Rattle.systems.specs.PileLaw.{PileLaw}
use Rattle.systems.specs.Piles.{pile}
use Rattle.formulas.specs.declared.node.Fills.{Fills}
use Rattle.formulas.specs.declared.refusal.Refusal.{Refusal}
use Rattle.formulas.specs.Laws.{HeldLaw, LinesLaw}
use Rattle.formulas.specs.Stands.{stands}
use Rattle.formulas.specs.Tables.{Slots, stands_in, formula_at, contents}
use Rattle.formulas.specs.Truths.{holds}
use Rattle.formulas.specs.WellFormed.{WellFormed}
use Rattle.systems.specs.Stacks.{stack}
use Rattle.quotient.specs.Theorems.{QuotientLaw, ShapeLaw}
use Rattle.simplification.specs.Laws.{KeepsTruthLaw, WeighedLaw}
use Rattle.simplification.specs.Simplify.{simplify}
use Rattle.simplification.specs.Tables.{Done, desk}
use Rattle.claims.specs.declared.claim.Claim.{Claim}
use Rattle.formulas.specs.declared.tables.Tables.{Tables}
use Rattle.claims.specs.declared.verdict.Verdict.{Verdict}
use Rattle.claims.specs.Books.{stage, formula_on, Stands}
use Rattle.claims.specs.Law.{RemoveKeeps, SimplifyKeeps, Said, JudgeKeeps}
use Rattle.claims.specs.Removals.{rest, Removed}
use Rattle.claims.specs.Simplifications.{Simplified}
use Rattle.claims.specs.Verdicts.{verdict, judged}
use Rattle.claims.proofs.Fronts.{laid-back, taken_back}

-- what is chosen where a test fails is an error, so an Ok was chosen by a test that holds
tested : {T : Type 0} (b : Bool) (why : Refusal) (other : Result T Refusal) → is_ok (cond (not b) (Err why) other) ≡ true → b ≡ true
tested true why other e = refl
tested false why other e = absurd (true≢false (sym e))

-- past a test that an Ok has passed
pub past : {T E : Type 0} {v : T} (b : Bool) (why : E) (other : Result T E) → cond b (Err why) other ≡ Ok v → other ≡ Ok v
past true why other e = absurd (true≢false (sym (ap is_ok e)))
past false why other e = e

pub tested-desk : (b : Bool) (why : Refusal) (d : _) (other : Done) → is_ok (cond (not b) (record { answer = Err why; left = d }) other).answer ≡ true → b ≡ true
tested-desk true why d other e = refl
tested-desk false why d other e = absurd (true≢false (sym e))

pub well_formed : HeldLaw → (f : Fills) (root m : ℕ) (s : Slots) → stands_in f root m s ≡ true → WellFormed (formula_at f root s)
well_formed held f root m s e =
    (held (take f.nodes s.nodes) (take f.terms s.terms) (take f.alternatives s.alternatives) root m
    (and_parts (leb f.nodes (length s.nodes) && (leb f.terms (length s.terms) && leb f.alternatives (length s.alternatives))) (stands (take f.nodes s.nodes) (take f.terms s.terms) (take f.alternatives s.alternatives) root m) e).1
    ).0

stood : {f g : Fills} {r q : ℕ} {s t : Slots} → f ≡ g → r ≡ q → s ≡ t → formula_at f r s ≡ formula_at g q t
stood {f} {q} {t} ef er es = ap₂ (formula_at f) er es ∙ ap (λ x. formula_at x q t) ef

-- one more system at the end of a stack lies right over what is below
pub stack_more : (A : ℕ → Bool) (rs : List Meaning) (R S : Meaning) → stack A (rs ++ (R ∷ [])) S ≡ stack A rs (pile A R S)
stack_more A [] R S = refl
stack_more A (r ∷ rs) R S = ap (pile A r) (stack_more A rs R S)

module _ (held : HeldLaw) (back : LinesLaw) where
  module _ (quotient-law : QuotientLaw) (shape : ShapeLaw) (piles : PileLaw) where
    -- the formula of the new claim
    removed-formula : (R : Meaning) (c : Claim) (s second : Slots) (new : Claim) (f : Fills) (after : Slots) → Removed R c s second new f after → formula_on (stage new after) ≡ rest R c s
    removed-formula R c s second new f after p =
        stood p.fills p.root p.tables ∙ laid-back back (rest R c s) second

    pub remove-keeps : RemoveKeeps
    remove-keeps R c s second after (Ok x) sound p k right S ruled =
        let A = has c.shared in
        let formed = well_formed held c.fills c.root c.mass s (tested _ _ _ (ap is_ok p.accepted)) in
        ap (holds S) (removed-formula R c s second x.0 x.1 after p)
        ∙ (quotient-law A R S (formula_on (stage c s)) (shape R sound.ruled) (shape S ruled) formed).1
        ∙ right (pile A R S) (piles.ruled A R S sound.ruled ruled)
        ∙ ap (λ M. holds M k.first) (sym (stack_more A k.removed R S) ∙ ap (λ B. stack (has B) (k.removed ++ (R ∷ [])) S) (sym p.shared))
    remove-keeps R c s second after (Err e) sound p k right S ruled = subst (λ d. Stands k (stage d s)) (sym p.claim) right S ruled

  module _ (keeps : KeepsTruthLaw) (weighed : WeighedLaw) where
    pub simplified-formula : (c new : Claim) (s s' : Slots) (map map' : List ℕ) (f : Fills) → Simplified c (desk s map) f new (desk s' map') → formula_on (stage new s') ≡ simplify (formula_on (stage c s))
    simplified-formula c new s s' map map' f p =
        stood p.fills p.root (ap (λ d. d.tables) p.tables) ∙ taken_back back (simplify (formula_on (stage c s))) c.fills (desk s map)

    pub simplify-keeps : SimplifyKeeps
    simplify-keeps c new s s' map map' (Ok f) p k right S ruled =
        let formed = well_formed held c.fills c.root c.mass s (tested-desk _ _ _ _ (ap (λ d. is_ok d.answer) p.accepted)) in
        ap (holds S) (simplified-formula c new s s' map map' f p)
        ∙ keeps S (weighed S ruled) (formula_on (stage c s)) formed 0
        ∙ right S ruled
        ∙ ap (λ B. holds (stack (has B) k.removed S) k.first) (sym p.shared)
    simplify-keeps c new s s' map map' (Err e) p k right S ruled =
        subst₂ (λ d t. Stands k (stage d t)) (sym p.claim) (sym (ap (λ d. d.tables) p.tables)) right S ruled

value : Verdict → Result Verdict Refusal → Verdict
value d (Ok v) = v
value d (Err e) = d

-- the verdict on a claim that passes the tests
pub judged-holds : (S : Meaning) (c : Claim) (t : Tables) (size len : ℕ) (v : Verdict) → judged S c t size len ≡ Ok v → v ≡ verdict (holds S (formula_on (stage c (contents t))))
unfolding value
judged-holds S c t size len v e =
    ap (value v)
    (sym (past (ltb size (c.fills.nodes * S.states) || ltb len c.fills.nodes) _ _
    (past (ltb 1000000000000000 (c.mass * S.mass)) _ _ (past (not (stands_in c.fills c.root c.mass (contents t))) _ _ e))))

pub judge_keeps : JudgeKeeps
judge_keeps S c t size len sound k right = (go (judged S c t size len) refl, right)
  where
    go : (r : Result Verdict Refusal) → judged S c t size len ≡ r → Said k c S r
    go (Ok v) e = judged-holds S c t size len v e ∙ ap verdict (right S sound.ruled)
    go (Err why) e = tt
