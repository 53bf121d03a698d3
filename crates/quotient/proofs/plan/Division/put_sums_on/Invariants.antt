use Rattle.std.proofs.Common.{◌≡◌, map, take}
use Rattle.quotient.specs.Plans.{sum_at}
use Rattle.quotient.specs.Layings.{filled, SameTables, lay_all}
use Rattle.quotient.proofs.plan.Division.put_sums_on.Given as goal

abbrev pub invariant-loop-k : goal.invariant-loop-k
invariant-loop-k g l =
    let R = g.S.System.meaning l.self.system.now in
    record { same : SameTables l.initial.out l.out; wrote : filled l.out ≡ lay_all (filled l.initial.out) (map (sum_at l.self.plan l.sum) (take l.k (R.moves l.state l.action))) }
