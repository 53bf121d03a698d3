use Rattle.std.proofs.Common.{◌≡◌, map, take}
use Rattle.simplification.specs.Reaching.{ticked}
use Rattle.simplification.proofs.reach.tick_all.Given as goal

abbrev pub invariant-loop-entry : goal.invariant-loop-entry
invariant-loop-entry g l = l.ticks ≡ ticked l.initial.ticks (map (λ k. g.T.Entry.part k) (take l.entry-index l.wanted))
