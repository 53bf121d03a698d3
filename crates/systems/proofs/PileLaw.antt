-- The law of piles.
use Rattle.std.proofs.Common.{◌≡◌, ℕ, ◌+◌, ◌*◌, ◌/◌, ◌%◌, ◌<◌, Bool, true, false, cond, ◌||◌, ltb, [], length, get_or, is_some, Some, None, refl, ap, ◌∙◌, ap₂, true≢false, arith}
use lib.Arith.{digits_lt}
use Rattle.std.proofs.lemmas.Nat.{div-mul-add, mod-mul-add}
use Rattle.std.proofs.lemmas.Bool.{ltb-false, or_parts}
use Rattle.systems.specs.declared.fault.Fault.TheVariants.{Size, Mass}
use Rattle.systems.specs.declared.system.Target.{Target}
use Rattle.systems.specs.Meaning.{Meaning, Move, Limited, point}
use Rattle.systems.specs.Piles.{over, pair, moves_over, pile, refusal}
use Rattle.systems.specs.PileLaw.{Composed, Paired, PileLaw}
use Rattle.systems.specs.Cross.{length_cross, get_or_cross}
use Rattle.systems.specs.Piled.{inside_moves, shared_count, apart_count, shared_move, upper_move, lower_move}
use Rattle.systems.specs.PiledSound.{ruled_pile}

-- the quotient and the remainder of a pair of digits
first-digit : (i j n : ℕ) → j < n → (i * n + j) / n ≡ i
first-digit i j n h = div-mul-add i n j h

second_digit : (i j n : ℕ) → j < n → (i * n + j) % n ≡ j
second_digit i j n h = mod-mul-add i n j h

module _ (A : ℕ → Bool) (U L : Meaning) (u v a : ℕ) (hu : u < U.states) (hv : v < L.states) where
  at_pair : (pile A U L).moves (u * L.states + v) a ≡ moves_over A U L u v a
  at_pair =
      inside_moves A U L (u * L.states + v) a (digits_lt hu hv)
      ∙ ap₂ (λ (x y : ℕ). moves_over A U L x y a) (first-digit u v L.states hv) (second_digit u v L.states hv)

composed : (A : ℕ → Bool) (U L : Meaning) → Composed A U L (pile A U L)
composed A U L = record {
  states = refl;
  mass = refl;
  breadth = refl;
  together_count = λ u v a hu hv e. ap length (at_pair A U L u v a hu hv) ∙ shared_count A U L u v a e;
  together = λ u v a i j hu hv e hi hj.
      ap (λ ms. get_or ms (i * length (L.moves v a) + j) []) (at_pair A U L u v a hu hv)
      ∙ shared_move A U L u v a (i * length (L.moves v a) + j) e (omega arith)
      ∙ ap₂ (λ (x y : ℕ). pair L.states (get_or (U.moves u a) x []) (get_or (L.moves v a) y [])) (first-digit i j (length (L.moves v a)) hj) (second_digit i j (length (L.moves v a)) hj);
  apart_count = λ u v a hu hv e. ap length (at_pair A U L u v a hu hv) ∙ apart_count A U L u v a e;
  upper_moves = λ u v a i hu hv e hi. ap (λ ms. get_or ms i []) (at_pair A U L u v a hu hv) ∙ upper_move A U L u v a i e hi;
  lower_moves = λ u v a j hu hv e hj.
      ap (λ ms. get_or ms (length (U.moves u a) + j) []) (at_pair A U L u v a hu hv)
      ∙ lower_move A U L u v a (length (U.moves u a) + j) e (omega arith)
      ∙ ap (λ (x : ℕ). pair L.states (point U u) (get_or (L.moves v a) x [])) (omega arith);
}

paired : (k : ℕ) (mu ml : Move) (no_target : Target) → Paired k mu ml no_target
paired k mu ml d = record {
  count = length_cross (over k) mu ml;
  each = λ i j hi hj.
      get_or_cross (over k) mu ml (i * length ml + j) d d d (digits_lt hi hj)
      ∙ ap₂ (λ (x y : ℕ). over k (get_or mu x d) (get_or ml y d)) (first-digit i j (length ml) hj) (second_digit i j (length ml) hj);
}

-- a choice that is None was made by two tests that fail
none_chosen : (x y : Bool) → cond x (Some Size) (cond y (Some Mass) None) ≡ None → (x ≡ false) × (y ≡ false)
none_chosen true y e = absurd (true≢false (ap is_some e))
none_chosen false true e = absurd (true≢false (ap is_some e))
none_chosen false false e = (refl, refl)

limited : (A : ℕ → Bool) (U L : Meaning) → refusal U L ≡ None → Limited (pile A U L)
limited A U L e =
    let p = none_chosen (ltb 1073741824 (U.states * L.states) || ltb 1073741824 (U.breadth * L.breadth)) (ltb 1000000000000000 (U.mass * L.mass)) e in
    let q = or_parts (ltb 1073741824 (U.states * L.states)) (ltb 1073741824 (U.breadth * L.breadth)) p.0 in
    record { states_high = ltb-false _ _ q.0; mass_high = ltb-false _ _ p.1; breadth_high = ltb-false _ _ q.1 }

pub law : PileLaw
law = record {
  composed = composed;
  paired = paired;
  ruled = ruled_pile;
  sound = λ A U L u l e. record { ruled = ruled_pile A U L u.ruled l.ruled; limited = limited A U L e };
}
