use Rattle.std.proofs.Common.{◌∙◌, arith}
use Rattle.formulas.specs.Tables.{held}
use Rattle.simplification.proofs.Settlings.{settling_fits, turn, settled}
use Rattle.simplification.proofs.settle.settle.Goals as goal

pub settle_at-ends-requires : goal.settle_at-ends-requires
settle_at-ends-requires c = record {
  node = omega (arith, c.loop-i-test.true, c.loop-i.invariant.0.0.1);
  map = omega (arith, c.loop-i-test.true, c.loop-i.auto.map, c.requires.room);
  few = omega (arith, c.loop-i-test.true, c.requires.packed.few_nodes);
  fit =
      settling_fits (held c.args.tables.now) c.requires.packed c.args.map.now c.requires.room
      c.loop-i.i c.loop-i.ends.term c.loop-i.ends.alternative (held c.loop-i.tables) c.loop-i.map c.loop-i.invariant.1 c.loop-i-test.true;
}

pub loop-i-preserved : goal.loop-i-preserved
loop-i-preserved c =
    let lent = c.loop-i.invariant.0 in (
      (
        (lent.0.0, c.settle_at-ends.auto.nodes ∙ lent.0.1),
        (lent.1.0, c.settle_at-ends.auto.terms ∙ lent.1.1),
        (lent.2.0, c.settle_at-ends.auto.alternatives ∙ lent.2.1),
      ),
      turn (held c.args.tables.now) c.requires.packed c.args.map.now c.requires.room
          c.loop-i.i c.loop-i.ends.term c.loop-i.ends.alternative (held c.loop-i.tables) c.loop-i.map c.loop-i.invariant.1 c.loop-i-test.true
          c.settle_at-ends.result.term c.settle_at-ends.result.alternative _ c.settle_at-ends.new.map c.settle_at-ends.ensures,
    )

pub returns : goal.returns
returns c =
    let all =
    settled (held c.args.tables.now) c.args.map.now c.loop-i.i c.loop-i.ends.term c.loop-i.ends.alternative
    (held c.loop-i.tables) c.loop-i.map c.loop-i.invariant.1 c.loop-i-test.false in
    record { lent = c.loop-i.invariant.0; tables = all.0; map = all.1 }
