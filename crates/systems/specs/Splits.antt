-- A state of a pile is a state of the upper system over one of the lower.
use Rattle.std.specs.Prelude.{◌≡◌, ℕ, ◌*◌, ◌/◌, ◌%◌, ◌<◌, Bool}
use Rattle.systems.specs.Meaning.{Meaning, Ruled, Limited}
use Rattle.systems.specs.Piles.{pile}

-- the state s of a pile within the limits is u over v
pub record Split (A : ℕ → Bool) (U L : Meaning) (s u v : ℕ) : Type 0 where
  pub within : s < U.states * L.states
  pub upper_at : u ≡ s / L.states
  pub lower_at : v ≡ s % L.states
  pub upper_ruled : Ruled U
  pub lower_ruled : Ruled L
  pub limited : Limited (pile A U L)
