use Rattle.std.proofs.Common.{◌<◌, [], length, sym, ap, ◌∙◌, subst, arith}
use Rattle.std.specs.List.{AllByRecursion}
use Rattle.systems.specs.Meaning.{Move}
use Rattle.quotient.specs.Layings.{filled, lay}
use Rattle.quotient.specs.Plans.{LightTarget, sum_at}
use Rattle.quotient.proofs.Dividing.{light_targets}
use Rattle.quotient.proofs.Laying.{lay-each, same-on}
use Rattle.quotient.proofs.Rules.{move-good}
use Rattle.quotient.proofs.plan.Division.put_sums_on.Goals as goal

pub put_sum-requires-clause-targets : goal.put_sum-requires-clause-targets
put_sum-requires-clause-targets g c =
    let R = g.S.System.meaning c.args.self.now.system.now in
    let within : c.loop-k.k < length (R.moves c.args.state c.args.action) = omega (arith, c.moves-k-end.ensures, c.loop-k-test.true) in
    let good = move-good R (g.met.S.System.sound c.args.self.now.system.now).ruled c.args.state c.args.action c.loop-k.k within in
    let Light : Move → Type 0 = λ mv. AllByRecursion (LightTarget c.args.self.now.plan) mv in
    subst Light (sym c.read_targets-targets.ensures) (light_targets R c.args.self.now.plan c.args.self.now.planned _ good)

pub loop-k-preserved : goal.loop-k-preserved
loop-k-preserved g c =
    let mvs = (g.S.System.meaning c.args.self.now.system.now).moves c.args.state c.args.action in
    let h = c.loop-k.invariant in
    let within : c.loop-k.k < length mvs = omega (arith, c.moves-k-end.ensures, c.loop-k-test.true) in
    record {
      same = same-on c.args.out.now c.loop-k.out c.put_sum.new.out h.same c.put_sum.ensures.same;
      wrote =
          lay-each (filled c.args.out.now) (filled c.loop-k.out) (filled c.put_sum.new.out) (sum_at c.args.self.now.plan c.args.sum) mvs c.loop-k.k [] within h.wrote
          (c.put_sum.ensures.wrote ∙ ap (λ mv. lay (filled c.loop-k.out) (sum_at c.args.self.now.plan c.args.sum mv)) c.read_targets-targets.ensures);
    }
