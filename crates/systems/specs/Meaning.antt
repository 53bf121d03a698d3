-- What a system means: its numbers and its lists of moves, and the rules that they keep.
use Rattle.std.specs.Prelude.{◌≡◌, ℕ, ◌<◌, ◌≤◌, List, [], ◌∷◌, length, sum_by}
use Rattle.std.specs.List.{AllByRecursion}
use Rattle.systems.specs.declared.system.Target.{Target}

abbrev pub Move : Type 0
Move = List Target

pub record Meaning : Type 0 where
  pub states : ℕ
  pub mass : ℕ
  pub breadth : ℕ
  -- by state and action, in order
  pub moves : ℕ → ℕ → List Move

abbrev pub total : Move → ℕ
total mv = sum_by (λ t. t.weight) mv

-- at least one state, and no target past the last
pub record Shaped (s : Meaning) : Type 0 where
  pub some : 1 ≤ s.states
  pub closed : (k a : ℕ) → AllByRecursion (AllByRecursion (λ t. t.state < s.states)) (s.moves k a)

-- a target that goes to one of n states, with some weight
pub record Aimed (n : ℕ) (t : Target) : Type 0 where
  pub inside : t.state < n
  pub heavy : 1 ≤ t.weight

-- a move of a system with n states, mass m and breadth b
pub record Good (n m b : ℕ) (mv : Move) : Type 0 where
  pub short : length mv ≤ b
  pub aimed : AllByRecursion (Aimed n) mv
  pub whole : total mv ≡ m

-- the rules that every system keeps
pub record Ruled (s : Meaning) : Type 0 where
  pub states_low : 1 ≤ s.states
  pub mass_low : 1 ≤ s.mass
  pub breadth_low : 2 ≤ s.breadth
  pub past_states : (k a : ℕ) → s.states ≤ k → s.moves k a ≡ []
  pub past_actions : (k a : ℕ) → 32 ≤ a → s.moves k a ≡ []
  pub few : (k a : ℕ) → length (s.moves k a) ≤ s.breadth
  pub each : (k a : ℕ) → AllByRecursion (Good s.states s.mass s.breadth) (s.moves k a)

-- the largest states and breadth are 2 ^ 30, the largest mass is 10 ^ 15
pub record Limited (s : Meaning) : Type 0 where
  pub states_high : s.states ≤ 1073741824
  pub mass_high : s.mass ≤ 1000000000000000
  pub breadth_high : s.breadth ≤ 1073741824

pub record Sound (s : Meaning) : Type 0 where
  pub ruled : Ruled s
  pub limited : Limited s

abbrev pub Between : ℕ → ℕ → ℕ → Type 0
Between low high n = (low ≤ n) × (n ≤ high)

-- standing still
abbrev pub point : Meaning → ℕ → Move
point s k = record { state = k; weight = s.mass } ∷ []
