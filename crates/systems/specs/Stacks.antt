-- Systems piled over a system, the first of them on top.
use Rattle.std.specs.Prelude.{ℕ, Bool, List, [], ◌∷◌}
use Rattle.systems.specs.Meaning.{Meaning}
use Rattle.systems.specs.Piles.{pile}

-- limits are set aside: a stack may pass those of a pile
abbrev pub stack : (ℕ → Bool) → List Meaning → Meaning → Meaning
stack A [] S = S
stack A (r ∷ rs) S = pile A r (stack A rs S)
