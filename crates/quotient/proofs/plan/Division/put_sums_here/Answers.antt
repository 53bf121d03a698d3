use Rattle.std.proofs.Common.{ℕ, [], ◌∷◌, ap, ◌∙◌}
use Rattle.systems.specs.Meaning.{point}
use Rattle.formulas.specs.Lines.{Line}
use Rattle.quotient.specs.Layings.{filled, lay}
use Rattle.quotient.specs.Plans.{sum_at}
use Rattle.quotient.proofs.Laying.{lay-next, same-on}
use Rattle.quotient.proofs.plan.Division.put_sums_here.Goals as goal

pub loop-p-preserved : goal.loop-p-preserved
loop-p-preserved g c =
    let f = sum_at c.args.self.now.plan c.args.sum in
    let here : ℕ → Line = λ p. f (point (g.S.System.meaning c.args.self.now.system.now) p) in
    let h = c.loop-p.invariant in
    let k = c.loop-p.p in
    let put = c.put_sum.ensures.wrote ∙ ap (λ m. lay (filled c.loop-p.out) (f (record { state = k; weight = m } ∷ []))) c.args.self.now.planned.mass in
    record {
      same = same-on c.args.out.now c.loop-p.out c.put_sum.new.out h.same c.put_sum.ensures.same;
      wrote = lay-next here (filled c.args.out.now) (filled c.loop-p.out) (filled c.put_sum.new.out) k h.wrote put;
    }
