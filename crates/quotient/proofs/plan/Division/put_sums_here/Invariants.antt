use Rattle.std.proofs.Common.{◌≡◌, map}
use Rattle.std.specs.List.{range_with_len}
use Rattle.systems.specs.Meaning.{point}
use Rattle.quotient.specs.Plans.{sum_at}
use Rattle.quotient.specs.Layings.{filled, SameTables, lay_all}
use Rattle.quotient.proofs.plan.Division.put_sums_here.Given as goal

abbrev pub invariant-loop-p : goal.invariant-loop-p
invariant-loop-p g l =
    let R = g.S.System.meaning l.self.system.now in
    record { same : SameTables l.initial.out l.out; wrote : filled l.out ≡ lay_all (filled l.initial.out) (map (λ p. sum_at l.self.plan l.sum (point R p)) (range_with_len 0 l.p)) }
