use Rattle.std.proofs.Common.{◌≤◌, arith}
use Rattle.systems.proofs.Joined.{has_with}
use Rattle.systems.proofs.actions.ActionSet.with.Goals as goal

pub returns : goal.returns
returns c = let h : c.args.action ≤ 31 = omega (arith, c.if-action-ge-ACTIONS.false) in (h, λ a. has_with c.args.self c.args.action a h)
