use Rattle.std.proofs.Common.{◌≡◌, map, take}
use Rattle.quotient.specs.Plans.{place_in}
use Rattle.formulas.specs.Append.{table}
use Rattle.quotient.specs.Layings.{extended}
use Rattle.quotient.proofs.plan.Division.put_places.Given as goal

abbrev pub invariant-loop-d : goal.invariant-loop-d
invariant-loop-d g l =
    record { same : l.out.slots.ghost_name ≡ l.initial.out.slots.ghost_name; wrote : table l.out ≡ extended (table l.initial.out) (map (λ d. place_in l.self.plan d l.p) (take l.d-index l.parts)) }
