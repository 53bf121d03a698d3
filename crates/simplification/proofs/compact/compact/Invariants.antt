use Rattle.formulas.specs.Tables.{SameLoans, held}
use Rattle.simplification.specs.Packed.{all_lines}
use Rattle.simplification.specs.Compacting.{is_ticked}
use Rattle.simplification.proofs.Compactings.{Compacting}
use Rattle.simplification.proofs.compact.compact.Given as goal

abbrev pub invariant-loop-i : goal.invariant-loop-i
invariant-loop-i l =
    let s = held l.initial.tables in
    SameLoans l.initial.tables l.tables
    × Compacting (is_ticked l.initial.map) (all_lines s) s l.initial.map l.i l.used (held l.tables) l.map
