use Rattle.std.proofs.Common.{sym, refl, ap, ◌∙◌}
use Rattle.std.specs.List.{range_with_len}
use Rattle.formulas.specs.Append.{table}
use Rattle.quotient.specs.Layings.{extended}
use Rattle.quotient.specs.Plans.{place_in}
use Rattle.quotient.proofs.Countings.{cross-none}
use Rattle.quotient.proofs.Laying.{put-cross}
use Rattle.quotient.proofs.plan.Division.put_crossed.Goals as goal

pub loop-d-init : goal.loop-d-init
loop-d-init g c = record { same = refl; wrote = ap (extended (table c.args.out.now)) (sym (cross-none (place_in c.args.self.now.plan) (range_with_len c.args.rows.first c.args.rows.count))) }

pub loop-d-preserved : goal.loop-d-preserved
loop-d-preserved g c = record {
  same = c.put_rows.ensures.same ∙ c.loop-d.invariant.same;
  wrote = put-cross (place_in c.args.self.now.plan) (table c.args.out.now) (table c.loop-d.out) (table c.put_rows.new.out) c.args.parts.now c.loop-d.d-index 0 _ c.loop-d-test.true c.loop-d.invariant.wrote c.put_rows.ensures.wrote;
}
