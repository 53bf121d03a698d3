use Rattle.std.proofs.Common.{◌-◌, arith}
use Rattle.claims.proofs.Marks.{spread_on}
use Rattle.claims.proofs.row.spread.Goals as goal

pub loop-low-preserved-then-row-j-eq-MARK : goal.loop-low-preserved-then-row-j-eq-MARK
loop-low-preserved-then-row-j-eq-MARK c = (
  spread_on c.args.nodes.now c.requires.parted c.args.span.low c.loop-low.low c.args.span.high (c.loop-low.j - 1) c.loop-low.j c.args.row.now c.loop-low.row c.loop-low.invariant.0 (omega arith) (omega (arith, c.loop-low.invariant.1)) c.requires.inside _ _ (omega (arith, c.requires.long, c.loop-low.auto.row)) c.mark_parts-low.ensures.low c.mark_parts-low.ensures.row,
  omega (arith, c.loop-low.invariant.1),
)
