use Rattle.std.proofs.Common.{◌∙◌}
use Rattle.formulas.specs.Append.{table}
use Rattle.quotient.specs.Layings.{filled}
use Rattle.quotient.specs.Plans.{node_line}
use Rattle.quotient.proofs.Laying.{put_is, lay-next}
use Rattle.quotient.proofs.Dividing.{lay-plain}
use Rattle.quotient.proofs.plan.Division.put_plain.Goals as goal

pub loop-p-preserved : goal.loop-p-preserved
loop-p-preserved g c =
    let R = g.S.System.meaning c.args.self.now.system.now in
    let x = c.args.self.now.plan in
    let h = c.loop-p.invariant in
    let k = c.loop-p.p in
    let put = put_is (table c.loop-p.out.nodes.now) (table c.put.new.self) _ _ _ c.node_at.ensures c.put.ensures.puts in
    record {
      same = ((h.same.0.0, c.put.ensures.same ∙ h.same.0.1), h.same.1, h.same.2);
      wrote = lay-next (node_line R x c.args.node) (filled c.args.out.now) (filled c.loop-p.out) _ k h.wrote (lay-plain R x c.args.self.now.planned c.args.node k c.requires.plain _ _ put (table c.loop-p.out.terms.now) (table c.loop-p.out.alternatives.now));
    }
