use Rattle.std.proofs.Common.{map}
use Rattle.std.specs.List.{range_with_len, flat_map}
use Rattle.systems.specs.Meaning.{point}
use Rattle.quotient.specs.Layings.{filled}
use Rattle.quotient.specs.Plans.{sum_at}
use Rattle.quotient.specs.Quotient.{moves_of}
use Rattle.quotient.proofs.Laying.{lay_more, same-on}
use Rattle.quotient.proofs.Dividing.{sum_lines_are}
use Rattle.quotient.proofs.plan.Division.put_sums.Goals as goal

pub returns : goal.returns
returns g c =
    let R = g.S.System.meaning c.args.self.now.system.now in
    let x = c.args.self.now.plan in
    let f = sum_at x c.args.sum in
    let h = c.put_sums_here.ensures in
    let q = c.put_sums_along.ensures in
    record {
      same = same-on c.args.out.now c.put_sums_here.new.out c.put_sums_along.new.out h.same q.same;
      wrote = lay_more (filled c.args.out.now) _ _ (map (λ p. f (point R p)) (range_with_len 0 R.states)) (map f (flat_map (moves_of R) (range_with_len 0 R.states))) _ h.wrote q.wrote (sum_lines_are R x c.args.self.now.planned c.args.sum);
    }
