use Rattle.std.proofs.Common.{◌≡◌, map, take}
use Rattle.quotient.specs.Plans.{term_at}
use Rattle.formulas.specs.Append.{table}
use Rattle.quotient.specs.Layings.{extended}
use Rattle.quotient.proofs.plan.Division.put_targets.Given as goal

abbrev pub invariant-loop-t : goal.invariant-loop-t
invariant-loop-t g l =
    record { same : l.out.slots.ghost_name ≡ l.initial.out.slots.ghost_name; wrote : table l.out ≡ extended (table l.initial.out) (map (term_at l.self.plan l.term) (take l.t-index l.targets)) }
