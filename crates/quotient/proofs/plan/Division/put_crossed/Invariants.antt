use Rattle.std.proofs.Common.{◌≡◌, take}
use Rattle.std.specs.List.{range_with_len}
use Rattle.systems.specs.Piles.{cross}
use Rattle.quotient.specs.Plans.{place_in}
use Rattle.formulas.specs.Append.{table}
use Rattle.quotient.specs.Layings.{extended}
use Rattle.quotient.proofs.plan.Division.put_crossed.Given as goal

abbrev pub invariant-loop-d : goal.invariant-loop-d
invariant-loop-d g l =
    record { same : l.out.slots.ghost_name ≡ l.initial.out.slots.ghost_name; wrote : table l.out ≡ extended (table l.initial.out) (cross (place_in l.self.plan) (take l.d-index l.parts) (range_with_len l.rows.first l.rows.count)) }
