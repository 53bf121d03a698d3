-- What a pile means: one system over another, with a shared set of actions A.
use Rattle.std.specs.Prelude.{ℕ, ◌+◌, ◌*◌, ◌/◌, ◌%◌, Bool, cond, ◌||◌, List, [], ◌∷◌, ◌++◌, map, Some, None, Option, nat_lt}
use Rattle.systems.specs.declared.fault.Fault.{Fault}
use Rattle.systems.specs.declared.fault.Fault.TheVariants.{Size, Mass}
use Rattle.systems.specs.declared.system.Target.{Target}
use Rattle.systems.specs.Meaning.{Meaning, Move, point}

-- f of each of the first with each of the second, the first counted slowest
unfoldable pub cross : {X Y Z : Type 0} → (X → Y → Z) → List X → List Y → List Z
cross f [] ys = []
cross f (x ∷ xs) ys = map (f x) ys ++ cross f xs ys

-- an upper target over a lower one, where the lower system has k states
abbrev pub over : ℕ → Target → Target → Target
over k t u = record { state = t.state * k + u.state; weight = t.weight * u.weight }

abbrev pub pair : ℕ → Move → Move → Move
pair k mu ml = cross (over k) mu ml

-- the moves of u over v
unfoldable pub moves_over : (ℕ → Bool) → Meaning → Meaning → ℕ → ℕ → ℕ → List Move
moves_over A U L u v a =
    cond (A a)
    (cross (pair L.states) (U.moves u a) (L.moves v a))
    (map (λ mu. pair L.states mu (point L v)) (U.moves u a) ++ map (pair L.states (point U u)) (L.moves v a))

unfoldable pub pile_moves : (ℕ → Bool) → Meaning → Meaning → ℕ → ℕ → List Move
pile_moves A U L k a =
    cond (nat_lt k (U.states * L.states)) (moves_over A U L (k / L.states) (k % L.states) a) []

abbrev pub pile : (ℕ → Bool) → Meaning → Meaning → Meaning
pile A U L = record {
  states = U.states * L.states;
  mass = U.mass * L.mass;
  breadth = U.breadth * L.breadth;
  moves = pile_moves A U L;
}

-- why a pile of these is refused
abbrev pub refusal : Meaning → Meaning → Option Fault
refusal U L =
    cond (nat_lt 1073741824 (U.states * L.states) || nat_lt 1073741824 (U.breadth * L.breadth)) (Some Size)
    (cond (nat_lt 1000000000000000 (U.mass * L.mass)) (Some Mass) None)
