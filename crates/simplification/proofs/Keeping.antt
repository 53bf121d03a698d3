-- What a sum is left with.
use Rattle.std.proofs.Common.{◌≡◌, ℕ, ◌+◌, ◌-◌, ◌<◌, Bool, true, false, cond, List, [], ◌∷◌, map, length, get_or, take, sum_by, filter, sym, refl, ap, ◌∙◌, arith}
use Rattle.std.proofs.lemmas.List.Elements.{filter_more}
use Rattle.std.proofs.lemmas.List.Sums.{sum_by-cons, sum_by-append}
use Rattle.formulas.specs.declared.node.Term.{Term}
use Rattle.simplification.specs.Simplify.{Tone, yes, no, neither, Outcome, tone_of, is_yes, is_no, is_neither, coefficients, retarget, terms_left, yes_part}

-- sums over what is kept
module _ {X : Type 0} (f : X → Bool) (c : X → ℕ) where
  one : (b : Bool) (x : X) → sum_by c (cond b (x ∷ []) []) ≡ cond b (c x) 0
  one true x = omega (arith, sum_by-cons c x [])
  one false x = refl

  kept_sum_more : (xs : List X) (i : ℕ) (d : X) → i < length xs
      → sum_by c (filter f (take (i + 1) xs)) ≡ sum_by c (filter f (take i xs)) + cond (f (get_or xs i d)) (c (get_or xs i d)) 0
  kept_sum_more xs i d h =
      ap (sum_by c) (filter_more f xs i d h)
      ∙ (sum_by-append c (filter f (take i xs)) (cond (f (get_or xs i d)) (get_or xs i d ∷ []) [])
      ∙ ap (λ n. sum_by c (filter f (take i xs)) + n) (one (f (get_or xs i d)) (get_or xs i d)))

sum_by_map : {X Y : Type 0} (c : Y → ℕ) (g : X → Y) (xs : List X) → sum_by c (map g xs) ≡ sum_by (λ x. c (g x)) xs
sum_by_map c g [] = refl
sum_by_map c g (x ∷ xs) =
    sum_by-cons c (g x) (map g xs) ∙ (ap (λ n. c (g x) + n) (sum_by_map c g xs) ∙ sym (sum_by-cons (λ x. c (g x)) x xs))

-- what a sum is left with, after the first i terms: its threshold, and how far it falls short of that
pub record Weighing (E : ℕ → Outcome) (t : ℕ) (ks : List Term) (i low short : ℕ) : Type 0 where
  pub threshold : low ≡ t - yes_part E (take i ks)
  pub lack : short ≡ low - coefficients (terms_left E (take i ks))

lacking : (o : Tone) (c low low' lack lack' sum sum' : ℕ) → lack ≡ low - sum → low' ≡ low - cond (is_yes o) c 0
    → lack' ≡ lack - cond (is_no o) 0 c → sum' ≡ sum + cond (is_neither o) c 0 → lack' ≡ low' - sum'
lacking yes c low low' lack lack' sum sum' e p q r = omega arith
lacking no c low low' lack lack' sum sum' e p q r = omega arith
lacking neither c low low' lack lack' sum sum' e p q r = omega arith

module _ (E : ℕ → Outcome) (t : ℕ) (ks : List Term) (i low lack : ℕ) (w : Weighing E t ks i low lack) (d : Term) (h : i < length ks) where
  left_is : (n : ℕ) → coefficients (terms_left E (take n ks)) ≡ sum_by (λ k. k.coefficient) (filter (λ k. is_neither (tone_of E k.node)) (take n ks))
  left_is n = sum_by_map (λ k. k.coefficient) (retarget (λ j. (E j).to)) (filter (λ k. is_neither (tone_of E k.node)) (take n ks))

  pub weighing_more : (low' lack' : ℕ) → low' ≡ low - cond (is_yes (tone_of E (get_or ks i d).node)) (get_or ks i d).coefficient 0
      → lack' ≡ lack - cond (is_no (tone_of E (get_or ks i d).node)) 0 (get_or ks i d).coefficient → Weighing E t ks (i + 1) low' lack'
  weighing_more low' lack' p q = record {
    threshold = omega (arith, p, w.threshold, kept_sum_more (λ k. is_yes (tone_of E k.node)) (λ k. k.coefficient) ks i d h);
    lack =
        lacking (tone_of E (get_or ks i d).node) (get_or ks i d).coefficient low low' lack lack'
        (coefficients (terms_left E (take i ks))) (coefficients (terms_left E (take (i + 1) ks))) w.lack p q
        (omega (arith, left_is i, left_is (i + 1), kept_sum_more (λ k. is_neither (tone_of E k.node)) (λ k. k.coefficient) ks i d h));
  }
