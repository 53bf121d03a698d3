use Rattle.std.proofs.Common.{◌≡◌, take}
use Rattle.systems.specs.Piles.{cross}
use Rattle.quotient.specs.Plans.{term_at}
use Rattle.formulas.specs.Append.{table}
use Rattle.quotient.specs.Layings.{extended}
use Rattle.quotient.proofs.plan.Division.put_terms.Given as goal

abbrev pub invariant-loop-t : goal.invariant-loop-t
invariant-loop-t g l =
    record { same : l.out.slots.ghost_name ≡ l.initial.out.slots.ghost_name; wrote : table l.out ≡ extended (table l.initial.out) (cross (term_at l.self.plan) (take l.t-index l.parts) l.targets) }
