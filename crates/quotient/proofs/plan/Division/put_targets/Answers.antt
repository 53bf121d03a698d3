use Rattle.std.proofs.Common.{mul-le-mul_left, arith}
use Rattle.std.proofs.ByRecursion.{All-get_or}
use Rattle.quotient.specs.Plans.{LightTarget}
use Rattle.quotient.proofs.Dividing.{no_target}
use Rattle.quotient.proofs.plan.Division.put_targets.Goals as goal

pub overflow_mul-term : goal.overflow_mul-term
overflow_mul-term g c =
    let t = All-get_or (LightTarget c.args.self.now.plan) c.args.targets.now c.loop-t.t-index no_target c.loop-t-test.true c.requires.targets in
    omega (arith, mul-le-mul_left c.args.term.coefficient t.light, c.requires.term.light)

pub overflow_cast-before : goal.overflow_cast-before
overflow_cast-before g c =
    let t = All-get_or (LightTarget c.args.self.now.plan) c.args.targets.now c.loop-t.t-index no_target c.loop-t-test.true c.requires.targets in
    omega (arith, t.near, c.offset-before.ensures.small)
