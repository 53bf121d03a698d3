-- A pile of two systems that keep the rules keeps them.
use Rattle.std.specs.Prelude.{◌≡◌, ℕ, ◌+◌, ◌*◌, ◌/◌, ◌%◌, ◌<◌, ◌≤◌, Bool, true, false, ◌⊎◌, List, [], map, length, refl}
use Rattle.std.proofs.Common.{sym, ap₂, subst, ◌∙◌, inl, inr, arith, mul-le-mul}
use Rattle.std.proofs.Math.Nat.{one-le-mul}
use Rattle.std.proofs.Math.Arith.{digits_lt}
use Rattle.std.specs.List.{AllByRecursion}
use Rattle.std.proofs.lemmas.Bool.{cases_lt, cases_Bool}
use Rattle.std.proofs.lemmas.Nat.{div_below, mod_below}
use Rattle.std.proofs.ByRecursion.{All-append, All-map, All-weaker}
use Rattle.systems.specs.declared.system.Target.{Target}
use Rattle.systems.specs.Meaning.{Meaning, Move, Ruled, Good, Aimed, point}
use Rattle.systems.specs.Piles.{over, pair, moves_over, pile_moves, pile}
use Rattle.systems.specs.Cross.{length_cross, all_cross, sum_cross}
use Rattle.systems.specs.Piled.{inside_moves, outside_moves, shared_moves, apart_moves, shared_count, apart_count, nil_cross}

pub sum_le_product : (a b x y : ℕ) → 2 ≤ a → 2 ≤ b → x ≤ a → y ≤ b → x + y ≤ a * b
sum_le_product a b x y ha hb hx hy =
    let p : 2 * b ≤ a * b = mul-le-mul ha (omega arith) in
    let q : a * 2 ≤ a * b = mul-le-mul (omega arith) hb in
    omega arith

pub good_point : (S : Meaning) → Ruled S → (k : ℕ) → k < S.states → Good S.states S.mass S.breadth (point S k)
good_point S s k h = record {
  short = omega (arith, s.breadth_low);
  aimed = (record { inside = h; heavy = s.mass_low }, tt);
  whole = omega arith;
}

module _ (U L : Meaning) where
  pub good_pair : (mu ml : Move) → Good U.states U.mass U.breadth mu → Good L.states L.mass L.breadth ml → Good (U.states * L.states) (U.mass * L.mass) (U.breadth * L.breadth) (pair L.states mu ml)
  good_pair mu ml g h = record {
    short = subst (λ (n : ℕ). n ≤ U.breadth * L.breadth) (sym (length_cross (over L.states) mu ml)) (mul-le-mul g.short h.short);
    aimed =
        all_cross (over L.states) (Aimed U.states) (Aimed L.states) (Aimed (U.states * L.states))
        (λ x y p q. record { inside = digits_lt p.inside q.inside; heavy = one-le-mul p.heavy q.heavy })
        mu ml g.aimed h.aimed;
    whole =
        sum_cross (over L.states) (λ (t : Target). t.weight) (λ (t : Target). t.weight) (λ (t : Target). t.weight) (λ x y. refl) mu ml
        ∙ ap₂ ◌*◌ g.whole h.whole;
  }

module _ (A : ℕ → Bool) (U L : Meaning) (su : Ruled U) (sl : Ruled L) where
  no_moves : (u v a : ℕ) → 32 ≤ a → moves_over A U L u v a ≡ []
  no_moves u v a h = go (cases_Bool (A a))
    where
      go : (A a ≡ true) ⊎ (A a ≡ false) → moves_over A U L u v a ≡ []
      go (inl e) = rw (shared_moves A U L u v a e, su.past_actions u a h) (nil_cross (pair L.states) (L.moves v a))
      go (inr e) = rw (apart_moves A U L u v a e, su.past_actions u a h, sl.past_actions v a h) refl

  few_moves : (u v a : ℕ) → length (moves_over A U L u v a) ≤ U.breadth * L.breadth
  few_moves u v a = go (cases_Bool (A a))
    where
      go : (A a ≡ true) ⊎ (A a ≡ false) → length (moves_over A U L u v a) ≤ U.breadth * L.breadth
      go (inl e) = rw (shared_count A U L u v a e) (mul-le-mul (su.few u a) (sl.few v a))
      go (inr e) = rw (apart_count A U L u v a e) (sum_le_product U.breadth L.breadth (length (U.moves u a)) (length (L.moves v a)) su.breadth_low sl.breadth_low (su.few u a) (sl.few v a))

  good_moves : (u v a : ℕ) → u < U.states → v < L.states → AllByRecursion (Good (U.states * L.states) (U.mass * L.mass) (U.breadth * L.breadth)) (moves_over A U L u v a)
  good_moves u v a hu hv = go (cases_Bool (A a))
    where
      go : (A a ≡ true) ⊎ (A a ≡ false) → AllByRecursion (Good (U.states * L.states) (U.mass * L.mass) (U.breadth * L.breadth)) (moves_over A U L u v a)
      go (inl e) =
          rw (shared_moves A U L u v a e)
          (all_cross (pair L.states) (Good U.states U.mass U.breadth) (Good L.states L.mass L.breadth) (Good (U.states * L.states) (U.mass * L.mass) (U.breadth * L.breadth))
          (good_pair U L) (U.moves u a) (L.moves v a) (su.each u a) (sl.each v a))
      go (inr e) =
          rw (apart_moves A U L u v a e)
          (All-append (Good (U.states * L.states) (U.mass * L.mass) (U.breadth * L.breadth))
          (map (λ mu. pair L.states mu (point L v)) (U.moves u a)) (map (pair L.states (point U u)) (L.moves v a))
          (All-map (Good (U.states * L.states) (U.mass * L.mass) (U.breadth * L.breadth)) (λ mu. pair L.states mu (point L v)) (U.moves u a)
          (All-weaker (Good U.states U.mass U.breadth) (λ mu. Good (U.states * L.states) (U.mass * L.mass) (U.breadth * L.breadth) (pair L.states mu (point L v))) (λ mu g. good_pair U L mu (point L v) g (good_point L sl v hv)) (U.moves u a) (su.each u a)))
          (All-map (Good (U.states * L.states) (U.mass * L.mass) (U.breadth * L.breadth)) (pair L.states (point U u)) (L.moves v a)
          (All-weaker (Good L.states L.mass L.breadth) (λ ml. Good (U.states * L.states) (U.mass * L.mass) (U.breadth * L.breadth) (pair L.states (point U u) ml)) (λ ml g. good_pair U L (point U u) ml (good_point U su u hu) g) (L.moves v a) (sl.each v a))))

  pub lower_some : 0 < L.states
  lower_some = omega (arith, sl.states_low)

  pub upper_below : (k : ℕ) → k < U.states * L.states → k / L.states < U.states
  upper_below k h = div_below k L.states U.states lower_some h

  pub lower_below : (k : ℕ) → k % L.states < L.states
  lower_below k = mod_below k L.states lower_some

  -- a fact of moves that holds inside and of none
  by_range : (P : List Move → Type 0) (k a : ℕ) → (k < U.states * L.states → P (moves_over A U L (k / L.states) (k % L.states) a)) → P [] → P (pile_moves A U L k a)
  by_range P k a inside outside = go (cases_lt k (U.states * L.states))
    where
      go : (k < U.states * L.states) ⊎ (U.states * L.states ≤ k) → P (pile_moves A U L k a)
      go (inl l) = subst P (sym (inside_moves A U L k a l)) (inside l)
      go (inr g) = subst P (sym (outside_moves A U L k a g)) outside

  pub ruled_pile : Ruled (pile A U L)
  ruled_pile = record {
    states_low = one-le-mul su.states_low sl.states_low;
    mass_low = one-le-mul su.mass_low sl.mass_low;
    breadth_low = sum_le_product U.breadth L.breadth 0 2 su.breadth_low sl.breadth_low (omega arith) sl.breadth_low;
    past_states = outside_moves A U L;
    past_actions = λ k a h. by_range (λ ms. ms ≡ []) k a (λ _. no_moves (k / L.states) (k % L.states) a h) refl;
    few = λ k a. by_range (λ ms. length ms ≤ U.breadth * L.breadth) k a (λ _. few_moves (k / L.states) (k % L.states) a) (omega arith);
    each = λ k a. by_range (AllByRecursion (Good (U.states * L.states) (U.mass * L.mass) (U.breadth * L.breadth))) k a (λ h. good_moves (k / L.states) (k % L.states) a (upper_below k h) (lower_below k)) tt;
  }
