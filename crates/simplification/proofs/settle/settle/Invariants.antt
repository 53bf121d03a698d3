use Rattle.formulas.specs.Tables.{SameLoans, held}
use Rattle.simplification.specs.Packed.{all_lines}
use Rattle.simplification.proofs.Settlings.{Settling}
use Rattle.simplification.proofs.settle.settle.Given as goal

abbrev pub invariant-loop-i : goal.invariant-loop-i
invariant-loop-i l =
    let s = held l.initial.tables in
    SameLoans l.initial.tables l.tables
    × Settling (all_lines s) s l.initial.map l.i l.ends.term l.ends.alternative (held l.tables) l.map
