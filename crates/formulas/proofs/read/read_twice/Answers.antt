use Rattle.std.proofs.Common.{sym, ◌∙◌}
use Rattle.formulas.proofs.Whole.{read_short, read_done}
use Rattle.formulas.proofs.read.read_twice.Goals as goal

pub returns-then-not-take_all-clause-reads : goal.returns-then-not-take_all-clause-reads
returns-then-not-take_all-clause-reads c =
    read_short _ _ c.in_ok-need.ensures.read (sym c.take_all.ensures ∙ c.if-not-take_all.true)

pub returns-clause-reads : goal.returns-clause-reads
returns-clause-reads c =
    read_done _ _ c.in_ok-need.ensures.read _ (sym c.take_all.ensures ∙ c.if-not-take_all.false)
    c.in_ok-standing.ensures.read c.new.ensures.fills c.new.ensures.root
