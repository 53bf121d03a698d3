use Rattle.std.proofs.Common.{◌≡◌, ◌+◌, ◌-◌, map, ap, ◌∙◌, arith}
use Rattle.std.specs.List.{range_with_len}
use Rattle.formulas.specs.Append.{table}
use Rattle.quotient.specs.Layings.{extended}
use Rattle.quotient.specs.Plans.{place_in}
use Rattle.quotient.proofs.Laying.{put-next}
use Rattle.quotient.proofs.plan.Division.put_rows.Goals as goal

pub loop-row-preserved : goal.loop-row-preserved
loop-row-preserved g c =
    let f = place_in c.args.self.now.plan c.args.d in
    let first = c.args.rows.first in
    let k = c.loop-row.row - first in
    let value : c.offset-before.result + c.loop-row.row ≡ f (first + k) = omega (arith, c.offset-before.ensures.value, c.loop-row.auto.row) in
    let next : k + 1 ≡ c.loop-row.row + 1 - first = omega (arith, c.loop-row.auto.row) in
    record {
      same = c.put.ensures.same ∙ c.loop-row.invariant.same;
      wrote = put-next f (table c.args.out.now) (table c.loop-row.out) (table c.put.new.self) first k _ _ c.loop-row.invariant.wrote value c.put.ensures.puts ∙ ap (λ n. extended (table c.args.out.now) (map f (range_with_len first n))) next;
    }
