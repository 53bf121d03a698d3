use Rattle.quotient.specs.Layings.{filled}
use Rattle.quotient.specs.Plans.{sum_at}
use Rattle.quotient.proofs.Laying.{lay-joined, same-on}
use Rattle.quotient.proofs.plan.Division.put_sums_from.Goals as goal

pub loop-action-preserved : goal.loop-action-preserved
loop-action-preserved g c =
    let R = g.S.System.meaning c.args.self.now.system.now in
    let h = c.loop-action.invariant in
    record {
      same = same-on c.args.out.now c.loop-action.out c.put_sums_on.new.out h.same c.put_sums_on.ensures.same;
      wrote = lay-joined (filled c.args.out.now) (filled c.loop-action.out) (filled c.put_sums_on.new.out) (sum_at c.args.self.now.plan c.args.sum) (R.moves c.args.state) c.loop-action.action h.wrote c.put_sums_on.ensures.wrote;
    }
