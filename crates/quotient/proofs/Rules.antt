-- Piles and stacks of systems in shape are in shape, and so is a system that keeps the rules.
use Rattle.std.proofs.Common.{ℕ, ◌*◌, ◌/◌, ◌%◌, ◌<◌, ◌≤◌, Bool, ltb, List, [], ◌∷◌, ◌++◌, map, length, get_or, arith}
use native.Mathlib.Nat.{one-le-mul}
use Rattle.std.specs.List.{AllByRecursion}
use Rattle.std.proofs.ByRecursion.{All-append, All-map, All-weaker, All-get_or}
use Rattle.std.proofs.lemmas.Bool.{ltb-true, cond_both}
use Rattle.std.proofs.lemmas.Nat.{div_below, mod_below}
use Rattle.systems.specs.Meaning.{Meaning, Move, Shaped, Aimed, Good, Ruled, point}
use Rattle.systems.specs.Piles.{cross, pair, moves_over, pile_moves, pile}
use Rattle.systems.specs.Stacks.{stack}
use Rattle.quotient.specs.Theorems.{Into, ShapeLaw}
use Rattle.quotient.proofs.Lists.{all_cross}
use Rattle.quotient.proofs.Piles.{pair_into}

module _ (A : ℕ → Bool) (U L : Meaning) (some : 1 ≤ L.states) where
  -- what holds of the moves of each state over each, and of none
  by-states : (P : List Move → Type 0) (k a : ℕ) → ((u v : ℕ) → u < U.states → v < L.states → P (moves_over A U L u v a)) → P [] → P ((pile A U L).moves k a)
  unfolding pile_moves
  by-states P k a inside outside =
      cond_both (ltb k (U.states * L.states)) (moves_over A U L (k / L.states) (k % L.states) a) [] P
      (λ e. inside (k / L.states) (k % L.states) (div_below k L.states U.states some (ltb-true k (U.states * L.states) e)) (mod_below k L.states some))
      (λ _. outside)

  -- what holds of the pairs of what holds of upper and of lower moves and points
  by_pairs : (G H Q : Move → Type 0)
      → ((u a : ℕ) → AllByRecursion G (U.moves u a)) → ((u : ℕ) → u < U.states → G (point U u))
      → ((v a : ℕ) → AllByRecursion H (L.moves v a)) → ((v : ℕ) → v < L.states → H (point L v))
      → ((mu ml : Move) → G mu → H ml → Q (pair L.states mu ml)) → (k a : ℕ) → AllByRecursion Q ((pile A U L).moves k a)
  unfolding moves_over
  by_pairs G H Q mg pg mh ph q k a = by-states (AllByRecursion Q) k a (λ u v hu hv.
      cond_both (A a) (cross (pair L.states) (U.moves u a) (L.moves v a)) (map (λ mu. pair L.states mu (point L v)) (U.moves u a) ++ map (pair L.states (point U u)) (L.moves v a)) (AllByRecursion Q)
      (λ _. all_cross (pair L.states) Q (U.moves u a) (L.moves v a) (mg u a) (mh v a) q)
      (λ _. All-append Q (map (λ mu. pair L.states mu (point L v)) (U.moves u a)) (map (pair L.states (point U u)) (L.moves v a))
      (All-map Q (λ mu. pair L.states mu (point L v)) (U.moves u a) (All-weaker G (λ mu. Q (pair L.states mu (point L v))) (λ mu g. q mu (point L v) g (ph v hv)) (U.moves u a) (mg u a)))
      (All-map Q (pair L.states (point U u)) (L.moves v a) (All-weaker H (λ ml. Q (pair L.states (point U u) ml)) (λ ml h. q (point U u) ml (pg u hu) h) (L.moves v a) (mh v a))))) tt

pub pile_shaped : (A : ℕ → Bool) (U L : Meaning) → Shaped U → Shaped L → Shaped (pile A U L)
pile_shaped A U L hU hL = record {
  some = one-le-mul hU.some hL.some;
  closed =
      by_pairs A U L hL.some (Into U.states) (Into L.states) (Into (U.states * L.states))
      hU.closed (λ u l. (l, tt)) hL.closed (λ v l. (l, tt)) (pair_into U.states L.states);
}

pub stack_shaped : (A : ℕ → Bool) (rs : List Meaning) (S : Meaning) → AllByRecursion Shaped rs → Shaped S → Shaped (stack A rs S)
stack_shaped A [] S hs h = h
stack_shaped A (r ∷ rs) S hs h = pile_shaped A r (stack A rs S) hs.0 (stack_shaped A rs S hs.1 h)

pub shape-law : ShapeLaw
shape-law S h = record {
  some = h.states_low;
  closed = λ k a. All-weaker (Good S.states S.mass S.breadth) (Into S.states) (λ mv g. All-weaker (Aimed S.states) (λ t. t.state < S.states) (λ t i. i.inside) mv g.aimed) (S.moves k a) (h.each k a);
}

abbrev pub GoodIn : Meaning → Move → Type 0
GoodIn S mv = Good S.states S.mass S.breadth mv

pub move-good : (S : Meaning) → Ruled S → (k a j : ℕ) → j < length (S.moves k a) → GoodIn S (get_or (S.moves k a) j [])
move-good S h k a j l = All-get_or (GoodIn S) (S.moves k a) j [] l (h.each k a)

pub point-good : (S : Meaning) → Ruled S → (k : ℕ) → k < S.states → GoodIn S (point S k)
point-good S h k l = record {
  short = omega (arith, h.breadth_low);
  aimed = (record { inside = l; heavy = h.mass_low }, tt);
  whole = omega arith;
}
