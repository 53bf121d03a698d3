use Rattle.std.proofs.Common.{◌≡◌, ◌<◌, length, get_or, ◌∙◌, ⊎_elim, arith}
use Rattle.std.proofs.lemmas.Bool.{cases_eq}
use Rattle.formulas.specs.Tables.{held}
use Rattle.simplification.proofs.Compactings.{low, compacting_fits, kept-turn, gone_turn}
use Rattle.simplification.proofs.compact.compact.Goals as goal

pub compact_at-used-requires : goal.compact_at-used-requires
compact_at-used-requires c =
    let room : c.loop-i.i < length c.loop-i.map = omega (arith, c.loop-i-test.true, c.loop-i.auto.map, c.requires.room) in
    record {
      node = omega (arith, c.loop-i-test.true, c.loop-i.invariant.0.0.1);
      map = room;
      low =
          low (held c.args.tables.now) c.requires.packed c.args.map.now c.requires.closed
          c.loop-i.i c.loop-i.used (held c.loop-i.tables) c.loop-i.map c.loop-i.invariant.1 c.loop-i-test.true;
      few = omega (arith, c.loop-i-test.true, c.requires.packed.few_nodes);
      fit =
          compacting_fits (held c.args.tables.now) c.requires.packed c.args.map.now c.requires.closed
          c.loop-i.i c.loop-i.used (held c.loop-i.tables) c.loop-i.map c.loop-i.invariant.1 c.loop-i-test.true (length c.loop-i.map) (omega (arith, room));
    }

pub loop-i-preserved : goal.loop-i-preserved
loop-i-preserved c =
    let room : c.loop-i.i < length c.loop-i.map = omega (arith, c.loop-i-test.true, c.loop-i.auto.map, c.requires.room) in
    let lent = c.loop-i.invariant.0 in
    let E = c.compact_at-used.ensures in (
      (
        (E.lent.0.0 ∙ lent.0.0, E.lent.0.1 ∙ lent.0.1),
        (E.lent.1.0 ∙ lent.1.0, E.lent.1.1 ∙ lent.1.1),
        (E.lent.2.0 ∙ lent.2.0, E.lent.2.1 ∙ lent.2.1),
      ),
      ⊎_elim
          (λ (e : get_or c.loop-i.map c.loop-i.i 0 ≡ 1).
          kept-turn (held c.args.tables.now) c.requires.packed c.args.map.now c.requires.closed
          c.loop-i.i c.loop-i.used (held c.loop-i.tables) c.loop-i.map c.loop-i.invariant.1 c.loop-i-test.true
          c.compact_at-used.result (held c.compact_at-used.new.tables) c.compact_at-used.new.map
          room e (E.kept e))
          (λ (e : get_or c.loop-i.map c.loop-i.i 0 ≡ 1 → ⊥).
          gone_turn (held c.args.tables.now) c.requires.packed c.args.map.now c.requires.closed
          c.loop-i.i c.loop-i.used (held c.loop-i.tables) c.loop-i.map c.loop-i.invariant.1 c.loop-i-test.true
          c.compact_at-used.result (held c.compact_at-used.new.tables) c.compact_at-used.new.map
          e (E.gone e))
          (cases_eq (get_or c.loop-i.map c.loop-i.i 0) 1),
    )
