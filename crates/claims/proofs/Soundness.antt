-- What is used of a sound system: some state, some mass, and moves and points that stay within the states and weigh no more than the mass.
use Rattle.std.proofs.Common.{◌<◌, ◌≤◌, [], length, get_or, sum_by, sym, subst, ⊎_elim, arith}
use Rattle.std.specs.List.{AllByRecursion}
use Rattle.std.proofs.lemmas.List.{get_or_past}
use Rattle.std.proofs.ByRecursion.{All-get_or, All-weaker}
use Rattle.std.proofs.lemmas.Bool.{cases_lt}
use Rattle.systems.specs.Meaning.{Meaning, Move, Sound, Good, Aimed}
use Rattle.claims.specs.declared.spot.Spot.{Spot}
use Rattle.claims.specs.declared.spot.Spot.TheVariants.{Along, Here}
use Rattle.claims.specs.Spots.{spot_of, Placed}

module _ (M : Meaning) (sound : Sound M) where
  pub some-state : 1 ≤ M.states
  some-state = sound.ruled.states_low

  pub some-mass : 1 ≤ M.mass
  some-mass = sound.ruled.mass_low

pub record Light (M : Meaning) (mv : Move) : Type 0 where
  pub whole : sum_by (λ t. t.weight) mv ≤ M.mass
  pub within : AllByRecursion (λ t. t.state < M.states) mv

good-light : (M : Meaning) (mv : Move) → Good M.states M.mass M.breadth mv → Light M mv
good-light M mv g = record {
  whole = omega (arith, g.whole);
  within = All-weaker (Aimed M.states) (λ t. t.state < M.states) (λ t a. a.inside) mv g.aimed;
}

pub light : (M : Meaning) → Sound M → (sp : Spot) → Placed M sp → Light M (spot_of M sp)
light M sound (Along s a k) p =
    ⊎_elim
    (λ h. good-light M (get_or (M.moves s a) k []) (All-get_or (Good M.states M.mass M.breadth) (M.moves s a) k [] h (sound.ruled.each s a)))
    (λ h. subst (Light M) (sym (get_or_past (M.moves s a) k [] h)) (record { whole = omega arith; within = tt }))
    (cases_lt k (length (M.moves s a)))
light M sound (Here s) p = record { whole = omega arith; within = (p, tt) }
