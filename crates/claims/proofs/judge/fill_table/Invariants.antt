use Rattle.std.proofs.Common.{◌≡◌}
use Rattle.formulas.specs.Tables.{over}
use Rattle.claims.specs.Verdicts.{bytes}
use Rattle.claims.specs.Boards.{truths_in}
use Rattle.claims.proofs.judge.fill_table.Given as goal

abbrev pub invariant-loop-upto : goal.invariant-loop-upto
invariant-loop-upto g l =
    let M = g.S.System.meaning l.system in
    record { truth : l.truth ≡ over (bytes (truths_in M l.tables) M.states l.upto) l.initial.truth; row : l.row ≡ l.initial.row }
