use Rattle.std.proofs.Common.{◌≡◌, drop}
use Rattle.formulas.specs.Append.{raised, written}
use Rattle.formulas.proofs.append.AppendList.put_all.Given as goal

abbrev pub invariant-loop-x : goal.invariant-loop-x
invariant-loop-x g l =
    (l.self.slots.ghost_name ≡ l.initial.self.slots.ghost_name)
    × (l.self.fill ≡ raised l.initial.self.fill l.x-index)
    × (written l.self.slots.now l.self.fill (drop l.x-index l.entries) ≡ written l.initial.self.slots.now l.initial.self.fill l.entries)
