-- The law of piles, state by state and move by move.
use Rattle.std.specs.Prelude.{◌≡◌, ℕ, ◌+◌, ◌*◌, ◌<◌, Bool, true, false, [], length, None, slice_index_or}
use Rattle.systems.specs.declared.system.Target.{Target}
use Rattle.systems.specs.Meaning.{Meaning, Move, Ruled, Sound, point}
use Rattle.systems.specs.Piles.{over, pair, pile, refusal}

-- U over L takes part in an action of A by an upper move with a lower one, and in any other by one of the two, the other standing still;
-- u over v is the state u × (states of L) + v
pub record Composed (A : ℕ → Bool) (U L P : Meaning) : Type 0 where
  pub states : P.states ≡ U.states * L.states
  pub mass : P.mass ≡ U.mass * L.mass
  pub breadth : P.breadth ≡ U.breadth * L.breadth
  pub together_count : (u v a : ℕ) → u < U.states → v < L.states → A a ≡ true
      → length (P.moves (u * L.states + v) a) ≡ length (U.moves u a) * length (L.moves v a)
  -- upper moves are counted slowest
  pub together : (u v a i j : ℕ) → u < U.states → v < L.states → A a ≡ true → i < length (U.moves u a) → j < length (L.moves v a)
      → slice_index_or (P.moves (u * L.states + v) a) (i * length (L.moves v a) + j) [] ≡ pair L.states (slice_index_or (U.moves u a) i []) (slice_index_or (L.moves v a) j [])
  pub apart_count : (u v a : ℕ) → u < U.states → v < L.states → A a ≡ false
      → length (P.moves (u * L.states + v) a) ≡ length (U.moves u a) + length (L.moves v a)
  -- upper moves come first
  pub upper_moves : (u v a i : ℕ) → u < U.states → v < L.states → A a ≡ false → i < length (U.moves u a)
      → slice_index_or (P.moves (u * L.states + v) a) i [] ≡ pair L.states (slice_index_or (U.moves u a) i []) (point L v)
  pub lower_moves : (u v a j : ℕ) → u < U.states → v < L.states → A a ≡ false → j < length (L.moves v a)
      → slice_index_or (P.moves (u * L.states + v) a) (length (U.moves u a) + j) [] ≡ pair L.states (point U u) (slice_index_or (L.moves v a) j [])

-- the targets of two moves pair in the same way, and their weights multiply
pub record Paired (k : ℕ) (mu ml : Move) (no_target : Target) : Type 0 where
  pub count : length (pair k mu ml) ≡ length mu * length ml
  pub each : (i j : ℕ) → i < length mu → j < length ml
      → slice_index_or (pair k mu ml) (i * length ml + j) no_target ≡ over k (slice_index_or mu i no_target) (slice_index_or ml j no_target)

pub record PileLaw : Type 0 where
  pub composed : (A : ℕ → Bool) (U L : Meaning) → Composed A U L (pile A U L)
  pub paired : (k : ℕ) (mu ml : Move) (no_target : Target) → Paired k mu ml no_target
  -- limits set aside, a pile of systems that keep the rules keeps them
  pub ruled : (A : ℕ → Bool) (U L : Meaning) → Ruled U → Ruled L → Ruled (pile A U L)
  -- one that is accepted keeps to the limits too
  pub sound : (A : ℕ → Bool) (U L : Meaning) → Sound U → Sound L → refusal U L ≡ None → Sound (pile A U L)
