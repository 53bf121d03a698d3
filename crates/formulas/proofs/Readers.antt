-- Every reader answers rightly for its language.
use Rattle.std.proofs.Common.{ℕ, zero, suc, List, [], ◌∷◌, Some, Err, refl, inl, inr}
use Rattle.formulas.specs.declared.fault.GrammarFault.TheVariants.{TooMany}
use Rattle.formulas.specs.declared.token.Token.TheVariants.{Open}
use Rattle.formulas.specs.Grammar.{Item, term, sum, quantity, element}
use Rattle.formulas.specs.Lines.{Sort, state}
use Rattle.formulas.proofs.Outcomes.{Right, right-behind, right-next, right-too_many}
use Rattle.formulas.proofs.Languages.{Said, said_proper, Body, body_proper, said_shallow, said_opens, Summed, summed_proper, Sum-body, sum-body_proper, summed-opens, summed-shallow, ProbSaid}
use Rattle.formulas.proofs.ReadSums.{RightElement, right-sum_begun, right-sum_headed, quantity_closed, quantity_opened, element_opened}
use Rattle.formulas.proofs.ReadTerms.{right-begun, right-headed}

-- where the text ends at stop, and room more parentheses may open
pub record Readings (stop room : ℕ) : Type 0 where
  pub terms : (σ : Sort) (ws : List Item) → Right stop (Said room σ) (term stop room σ ws) ws
  pub sums : (ws : List Item) → Right stop (Summed room) (sum stop room ws) ws
  pub quantities : (ws : List Item) → Right stop (ProbSaid room) (quantity stop room ws) ws
  pub elements : RightElement stop room (λ z left l. element stop room z left l)

pub readings : (stop room : ℕ) → Readings stop room
unfolding term sum quantity element
readings stop zero = record {
  terms = λ σ ws. right-next stop (Said 0 σ) (said_proper 0 σ) _ (λ p t rest. right-begun stop 0 σ (Err (TooMany p)) p t rest
      (right-too_many stop (Said 0 σ) (said_proper 0 σ) p rest (said_opens 0 σ) (said_shallow σ))) ws;
  sums = λ ws. right-next stop (Summed 0) (summed_proper 0) _ (λ p t rest. right-sum_begun stop 0 (Err (TooMany p)) p t rest
      (right-too_many stop (Summed 0) (summed_proper 0) p rest (summed-opens 0) summed-shallow)) ws;
  quantities = λ ws. quantity_closed stop ws;
  elements = λ p left rest. inl (refl, refl);
}
readings stop (suc room) =
    let before = readings stop room in
    record {
      terms = λ σ ws. right-next stop (Said (suc room) σ) (said_proper (suc room) σ) _ (λ p t rest. right-begun stop (suc room) σ _ p t rest
          (right-behind stop (Body room σ) (Said (suc room) σ) ((p, Some Open) ∷ []) rest _ (λ w b u v h. h) (λ w b u v h. h)
          (right-next stop (Body room σ) (body_proper room σ) _ (right-headed stop room (λ τ l. term stop room τ l) (λ l. sum stop room l) before.terms before.sums σ) rest))) ws;
      sums = λ ws. right-next stop (Summed (suc room)) (summed_proper (suc room)) _ (λ p t rest. right-sum_begun stop (suc room) _ p t rest
          (right-behind stop (Sum-body room) (Summed (suc room)) ((p, Some Open) ∷ []) rest _ (λ w b u v h. h) (λ w b u v h. h)
          (right-next stop (Sum-body room) (sum-body_proper room) _
          (right-sum_headed stop room (λ l. quantity stop room l) (λ z left l. element stop room z left l) before.quantities before.elements) rest))) ws;
      quantities = λ ws. quantity_opened stop room (λ l. term stop room state l) (before.terms state) ws;
      elements = λ p left rest. inr (room, refl, element_opened stop room left (λ l. quantity stop room l) before.quantities rest);
    }
