use Rattle.formulas.proofs.Walk.{Sofar}
use Rattle.formulas.proofs.stands.formula_stands.Given as goal

abbrev pub invariant-loop-i : goal.invariant-loop-i
invariant-loop-i l = Sofar l.tables.nodes.now l.tables.terms.now l.tables.alternatives.now l.mass l.i l.terms l.alternatives
