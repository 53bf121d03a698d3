use Rattle.std.proofs.Common.{◌≡◌}
use Rattle.formulas.proofs.Scan.{Scan}
use Rattle.formulas.proofs.words.Words.next_word.Given as goal

abbrev pub invariant-loop-at : goal.invariant-loop-at
invariant-loop-at l = Scan l.text l.initial.self.pos l.mode l.at × (l.self ≡ l.initial.self)
