use Rattle.std.proofs.Common.{◌≡◌, ◌-◌, map}
use Rattle.std.specs.List.{range_with_len}
use Rattle.quotient.specs.Plans.{place_in}
use Rattle.formulas.specs.Append.{table}
use Rattle.quotient.specs.Layings.{extended}
use Rattle.quotient.proofs.plan.Division.put_rows.Given as goal

abbrev pub invariant-loop-row : goal.invariant-loop-row
invariant-loop-row g l =
    record { same : l.out.slots.ghost_name ≡ l.initial.out.slots.ghost_name; wrote : table l.out ≡ extended (table l.initial.out) (map (place_in l.self.plan l.d) (range_with_len l.fn.rows.first (l.row - l.fn.rows.first))) }
