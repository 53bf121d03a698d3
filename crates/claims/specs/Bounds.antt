-- How much mass may be removed from a claim.
use Rattle.std.specs.Prelude.{ℕ, ◌≤◌}

-- some mass, and no more than any system may have
abbrev pub Weighed : ℕ → Type 0
Weighed m = (1 ≤ m) × (m ≤ 1000000000000000)
