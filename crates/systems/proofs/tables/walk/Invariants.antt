use Rattle.std.proofs.Common.{◌≡◌, None}
use Rattle.systems.specs.Mounts.{first_fault}
use Rattle.systems.specs.Tables.{longest}
use Rattle.systems.proofs.Tallied.{Counted}
use Rattle.systems.proofs.tables.walk.Given as goal

abbrev pub invariant-loop-i : goal.invariant-loop-i
invariant-loop-i l = record {
  faultless : first_fault l.states l.rows l.targets l.i ≡ None;
  counted : Counted l.rows l.i l.earlier;
  broad : l.breadth ≡ longest l.rows l.i;
}
