use Rattle.quotient.specs.Layings.{filled}
use Rattle.quotient.specs.Plans.{sum_at}
use Rattle.quotient.specs.Quotient.{moves_of}
use Rattle.quotient.proofs.Laying.{lay-joined, same-on}
use Rattle.quotient.proofs.plan.Division.put_sums_along.Goals as goal

pub loop-p-preserved : goal.loop-p-preserved
loop-p-preserved g c =
    let R = g.S.System.meaning c.args.self.now.system.now in
    let h = c.loop-p.invariant in
    record {
      same = same-on c.args.out.now c.loop-p.out c.put_sums_from.new.out h.same c.put_sums_from.ensures.same;
      wrote = lay-joined (filled c.args.out.now) (filled c.loop-p.out) (filled c.put_sums_from.new.out) (sum_at c.args.self.now.plan c.args.sum) (moves_of R) c.loop-p.p h.wrote c.put_sums_from.ensures.wrote;
    }
