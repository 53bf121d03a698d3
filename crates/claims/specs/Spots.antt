-- A move of a system, or the point of a state.
use Rattle.std.specs.Prelude.{◌<◌, [], slice_index_or}
use Rattle.systems.specs.Meaning.{Meaning, Move, point}
use Rattle.claims.specs.declared.spot.Spot.{Spot}
use Rattle.claims.specs.declared.spot.Spot.TheVariants.{Along, Here}

abbrev pub spot_of : Meaning → Spot → Move
spot_of M (Along s a k) = slice_index_or (M.moves s a) k []
spot_of M (Here s) = point M s

-- a point is that of a state
abbrev pub Placed : Meaning → Spot → Type 0
Placed M (Along s a k) = Unit {0}
Placed M (Here s) = s < M.states
