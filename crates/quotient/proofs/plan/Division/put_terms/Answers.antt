use Rattle.std.proofs.Common.{sym, refl, ap, ◌∙◌}
use Rattle.formulas.specs.Append.{table}
use Rattle.quotient.specs.Layings.{extended}
use Rattle.quotient.specs.Plans.{term_at}
use Rattle.quotient.proofs.Countings.{cross-none}
use Rattle.quotient.proofs.Dividing.{no-term}
use Rattle.quotient.proofs.Laying.{put-cross}
use Rattle.quotient.proofs.plan.Division.put_terms.Goals as goal

pub loop-t-init : goal.loop-t-init
loop-t-init g c = record { same = refl; wrote = ap (extended (table c.args.out.now)) (sym (cross-none (term_at c.args.self.now.plan) c.args.targets.now)) }

pub loop-t-preserved : goal.loop-t-preserved
loop-t-preserved g c = record {
  same = c.put_targets.ensures.same ∙ c.loop-t.invariant.same;
  wrote = put-cross (term_at c.args.self.now.plan) (table c.args.out.now) (table c.loop-t.out) (table c.put_targets.new.out) c.args.parts.now c.loop-t.t-index no-term _ c.loop-t-test.true c.loop-t.invariant.wrote c.put_targets.ensures.wrote;
}
