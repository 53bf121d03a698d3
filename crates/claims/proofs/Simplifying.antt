-- From what simplification in place answers to what simplify answers.
use Rattle.std.proofs.Common.{◌≡◌, ℕ, ◌≤◌, Bool, true, false, cond, not, ltb, length, is_ok, Ok, Err, Result, refl, ap, ◌∙◌, ap₂, true≢false, arith}
use Rattle.formulas.specs.declared.node.Fills.{Fills}
use Rattle.formulas.specs.declared.refusal.Refusal.{Refusal}
use Rattle.formulas.specs.declared.refusal.Refusal.TheVariants.{NoFormula, Short}
use Rattle.formulas.specs.declared.tables.Standing.{Standing}
use Rattle.formulas.specs.Tables.{stands_in, standing}
use Rattle.simplification.specs.Laws.{Fewer}
use Rattle.simplification.specs.Tables.{Desk, Done, done, taken_up, simplified}
use Rattle.claims.specs.declared.claim.Claim.{Claim}
use Rattle.claims.specs.Simplifications.{simpler, outcome, Simplified}

-- an Ok comes from where both tests pass
module _ (y : Standing) (d z : Desk) where
  abbrev tests : Bool → Bool → Done
  tests a b = cond (not a) (done (Err NoFormula) d) (cond b (done (Err Short) d) (done (Ok y) z))

  chosen_ok : (a b : Bool) (x : Standing) (e : Desk) → done (Ok x) e ≡ tests a b → tests a b ≡ done (Ok y) z
  chosen_ok true false x e h = refl
  chosen_ok true true x e h = absurd (true≢false (ap (λ o. is_ok o.answer) h))
  chosen_ok false b x e h = absurd (true≢false (ap (λ o. is_ok o.answer) h))

-- a formula that uses no more of its tables than one that uses few uses few
pub few-left : (new old few : Fills) → Fewer new old → old ≡ few
    → (few.nodes ≤ 1048576) × (few.terms ≤ 1048576) × (few.alternatives ≤ 1048576) → (new.nodes ≤ 1048576) × (new.terms ≤ 1048576) × (new.alternatives ≤ 1048576)
few-left new old few fewer same h = (
  omega (arith, fewer.nodes, ap (λ f. f.nodes) same, h.0),
  omega (arith, fewer.terms, ap (λ f. f.terms) same, h.1),
  omega (arith, fewer.alternatives, ap (λ f. f.alternatives) same, h.2),
)

standing_in : Standing → Result Standing Refusal → Standing
standing_in x (Ok y) = y
standing_in x (Err e) = x

module _ (c : Claim) (d after : Desk) (f : Fills) (root m : ℕ) (ef : f ≡ c.fills) (er : root ≡ c.root) (em : m ≡ c.mass) where
  as_claimed : simplified f root m d ≡ outcome c d
  as_claimed = ap₂ (λ x y. simplified x y m d) ef er ∙ ap (λ x. simplified c.fills c.root x d) em

  pub accepts : (new : Standing) (claim : Claim) → done (Ok new) after ≡ simplified f root m d
      → claim.fills ≡ new.fills → claim.root ≡ new.root → claim.mass ≡ c.mass → claim.shared ≡ c.shared → Simplified c d new.fills claim after
  unfolding standing_in
  accepts new claim e fills root mass shared =
      let taken = chosen_ok (standing (simpler c d)) d (taken_up (simpler c d) c.fills d) (stands_in c.fills c.root c.mass d.tables) (ltb (length d.map) c.fills.nodes) new after (e ∙ as_claimed) in
      let same : done (Ok new) after ≡ done (Ok (standing (simpler c d))) (taken_up (simpler c d) c.fills d) = e ∙ as_claimed ∙ taken in
      let is : new ≡ standing (simpler c d) = ap (λ o. standing_in new o.answer) same in
      record {
        accepted = taken;
        answer = ap (λ s. s.fills) is;
        fills = fills ∙ ap (λ s. s.fills) is;
        root = root ∙ ap (λ s. s.root) is;
        mass = mass;
        shared = shared;
        tables = ap (λ o. o.left) same;
      }
