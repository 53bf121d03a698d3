use Rattle.std.proofs.Common.{◌≡◌, map}
use Rattle.std.specs.List.{range_with_len, flat_map}
use Rattle.quotient.specs.Plans.{sum_at}
use Rattle.quotient.specs.Layings.{filled, SameTables, lay_all}
use Rattle.quotient.proofs.plan.Division.put_sums_from.Given as goal

abbrev pub invariant-loop-action : goal.invariant-loop-action
invariant-loop-action g l =
    let R = g.S.System.meaning l.self.system.now in
    record { same : SameTables l.initial.out l.out; wrote : filled l.out ≡ lay_all (filled l.initial.out) (map (sum_at l.self.plan l.sum) (flat_map (R.moves l.state) (range_with_len 0 l.action))) }
