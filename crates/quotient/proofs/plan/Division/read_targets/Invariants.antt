use Rattle.std.proofs.Common.{◌≡◌, [], get_or, take}
use Rattle.quotient.proofs.plan.Division.read_targets.Given as goal

abbrev pub invariant-loop-index : goal.invariant-loop-index
invariant-loop-index g l =
    let R = g.S.System.meaning l.self.system.now in
    take l.index l.slot-items ≡ take l.index (get_or (R.moves l.state l.action) l.number [])
