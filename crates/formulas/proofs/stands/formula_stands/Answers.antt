use Rattle.std.proofs.Common.{◌≡◌, true, arith}
use Rattle.std.proofs.lemmas.Grind.{common_steps}
use Rattle.formulas.specs.Stands.{stands}
use Rattle.formulas.proofs.Walk.{turn}
use Rattle.formulas.proofs.Rights.{stands-right}
use Rattle.formulas.proofs.stands.formula_stands.Goals as goal

pub loop-i-preserved : goal.loop-i-preserved
loop-i-preserved c =
    turn _ _ _ _ _ _ _ c.loop-i.invariant _ c.loop-i-test.true c.if-not-node.ensures _ _ c.term_count-terms.ensures c.alternative_count-alternatives.ensures

pub returns-then-alternatives-tables-clause-right : goal.returns-then-alternatives-tables-clause-right
returns-then-alternatives-tables-clause-right c t =
    let held : stands c.args.tables.nodes.now c.args.tables.terms.now c.args.tables.alternatives.now c.args.root c.args.mass ≡ true = grind (arith, common_steps) in
    stands-right _ _ _ _ _ held
