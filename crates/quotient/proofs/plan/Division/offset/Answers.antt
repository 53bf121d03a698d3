use Rattle.std.proofs.Common.{◌/◌, arith}
use Rattle.quotient.specs.Plans.{plan_nodes}
use Rattle.quotient.proofs.Planning.{width-split, width-within}
use Rattle.quotient.proofs.plan.Division.offset.Goals as goal

pub overflow_add-result : goal.overflow_add-result
overflow_add-result g c =
    let x = c.args.self.now.plan in
    let planned = c.args.self.now.planned in
    let e = width-split x.states x.rows (plan_nodes x) (c.args.d / 32) c.args.d _ _ (omega arith) (planned.sampling.sampled (c.args.d / 32) (omega (arith, c.requires.inside))) c.lines.ensures in
    omega (arith, e, width-within x.states x.rows (plan_nodes x) c.args.d, planned.sampling.few)

pub returns : goal.returns
returns g c =
    let x = c.args.self.now.plan in
    let planned = c.args.self.now.planned in
    let e = width-split x.states x.rows (plan_nodes x) (c.args.d / 32) c.args.d _ _ (omega arith) (planned.sampling.sampled (c.args.d / 32) (omega (arith, c.requires.inside))) c.lines.ensures in
    record { value = e; small = omega (arith, e, width-within x.states x.rows (plan_nodes x) c.args.d, planned.sampling.few) }
