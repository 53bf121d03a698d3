-- From what dividing answers to what remove answers.
use Rattle.std.proofs.Common.{◌≡◌, ℕ, ◌*◌, ◌≤◌, Bool, true, false, cond, not, ◌||◌, ltb, is_ok, Ok, Err, Result, sym, refl, ap, ◌∙◌, ap₂, true≢false}
use Rattle.std.proofs.lemmas.Bool.{ltb-false}
use Rattle.systems.specs.declared.actions.ActionSet.{ActionSet}
use Rattle.systems.specs.Meaning.{Meaning}
use Rattle.formulas.specs.declared.node.Fills.{Fills}
use Rattle.formulas.specs.declared.refusal.Refusal.{Refusal}
use Rattle.formulas.specs.declared.refusal.Refusal.TheVariants.{NoFormula, Large, Heavy, Short}
use Rattle.formulas.specs.declared.tables.Standing.{Standing}
use Rattle.formulas.specs.Layout.{fills as fills_of}
use Rattle.formulas.specs.Tables.{Slots, fits, laid, stands_in, standing}
use Rattle.quotient.specs.Divisions.{remainder, divided}
use Rattle.claims.specs.declared.claim.Claim.{Claim}
use Rattle.claims.specs.Removals.{rest, removal, Removed}
use Rattle.claims.proofs.Keeping.{past}

failed : {T : Type 0} {v : T} (b : Bool) (why : Refusal) (other : Result T Refusal) → cond b (Err why) other ≡ Ok v → b ≡ false
failed true why other e = absurd (true≢false (sym (ap is_ok e)))
failed false why other e = refl

had_room : (b : Bool) (x y : Standing) → cond b (Ok y) (Err Short) ≡ Ok x → b ≡ true
had_room true x y e = refl
had_room false x y e = absurd (true≢false (sym (ap is_ok e)))

-- a quotient that was made: the tests that came before
module _ (R : Meaning) (c : Claim) (s second : Slots) (x : Standing) (e : removal R c s second ≡ Ok x) where
  weighed : cond (ltb 1000000000000000 (c.mass * R.mass)) (Err Heavy) (cond (fits (fills_of (rest R c s).lines) second) (Ok (standing (rest R c s))) (Err Short)) ≡ Ok x
  weighed = past (ltb 4096 R.states || ltb 4096 R.breadth) Large _ (past (not (stands_in c.fills c.root c.mass s)) NoFormula _ e)

  pub light : c.mass * R.mass ≤ 1000000000000000
  light = ltb-false _ _ (failed (ltb 1000000000000000 (c.mass * R.mass)) Heavy _ weighed)

  roomy : fits (fills_of (rest R c s).lines) second ≡ true
  roomy = had_room (fits (fills_of (rest R c s).lines) second) x (standing (rest R c s)) (past (ltb 1000000000000000 (c.mass * R.mass)) Heavy _ weighed)

  pub made : removal R c s second ≡ Ok (standing (rest R c s))
  made = e ∙ sym (past (ltb 1000000000000000 (c.mass * R.mass)) Heavy _ weighed) ∙ ap (λ b. cond b (Ok (standing (rest R c s))) (Err Short)) roomy

  standing_of : Result Standing Refusal → Standing
  standing_of (Ok y) = y
  standing_of (Err why) = x

  pub is : x ≡ standing (rest R c s)
  unfolding standing_of
  is = ap standing_of (sym e ∙ made)

-- what the parts of the claim were asked for
module _ (R : Meaning) (c : Claim) (s second : Slots) (f : Fills) (root m : ℕ) (A : ActionSet) (ef : f ≡ c.fills) (er : root ≡ c.root) (em : m ≡ c.mass) (eA : A ≡ c.shared) where
  pub as_claimed : divided A R f root m s second ≡ removal R c s second
  as_claimed = ap₂ (λ x y. divided A R x y m s second) ef er ∙ ap₂ (λ x B. divided B R c.fills c.root x s second) em eA

  pub rest_claimed : remainder A R f root s ≡ rest R c s
  rest_claimed = ap₂ (λ x y. remainder A R x y s) ef er ∙ ap (λ B. remainder B R c.fills c.root s) eA

  pub removes : (x : Standing) (new : Claim) (last : Slots) → Ok x ≡ divided A R f root m s second → last ≡ laid (remainder A R f root s).lines second
      → new.fills ≡ x.fills → new.root ≡ x.root → new.mass ≡ c.mass * R.mass → new.shared ≡ A → Removed R c s second new x.fills last
  removes x new last e tables fills root mass shared =
      let done = sym as_claimed ∙ sym e in
      let same = is R c s second x done in
      record {
        accepted = made R c s second x done;
        answer = ap (λ y. y.fills) same;
        fills = fills ∙ ap (λ y. y.fills) same;
        root = root ∙ ap (λ y. y.root) same;
        mass = mass;
        shared = shared ∙ eA;
        tables = tables ∙ ap (λ F. laid F.lines second) rest_claimed;
      }
