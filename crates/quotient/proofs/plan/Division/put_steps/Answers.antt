use Rattle.quotient.specs.Layings.{filled}
use Rattle.quotient.specs.Plans.{node_line, step_node}
use Rattle.quotient.proofs.Laying.{lay-next, same-on}
use Rattle.quotient.proofs.plan.Division.put_steps.Goals as goal

pub loop-p-preserved : goal.loop-p-preserved
loop-p-preserved g c =
    let f = node_line (g.S.System.meaning c.args.self.now.system.now) c.args.self.now.plan (step_node c.args.step) in
    let h = c.loop-p.invariant in
    record {
      same = same-on c.args.out.now c.loop-p.out c.put_step.new.out h.same c.put_step.ensures.same;
      wrote = lay-next f (filled c.args.out.now) (filled c.loop-p.out) (filled c.put_step.new.out) c.loop-p.p h.wrote c.put_step.ensures.wrote;
    }
