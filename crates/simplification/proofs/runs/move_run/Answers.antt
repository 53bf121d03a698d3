use Rattle.std.proofs.Common.{arith}
use Rattle.simplification.proofs.Puts.{moving-low, moving-at, moving-take, moving_skip}
use Rattle.simplification.proofs.runs.move_run.Goals as goal
use Rattle.simplification.proofs.runs.move_run.Goals.{in-Some, in_default}

pub left-requires : goal.left-requires
left-requires g c =
    moving-at (goal.F-post g c.args.left) c.args.table.now c.args.run.first c.args.start c.loop-k.table c.loop-k.k c.loop-k.end c.loop-k.invariant c.requires.past c.loop-k.auto.k (omega (arith, c.loop-k-test.true, c.requires.within))
    (λ x. g.F.Fn.pre c.args.left (x, tt)) c.args.run.count c.requires.within c.loop-k-test.true c.requires.callable c.index-table-k.result c.index-table-k.is

pub bounds-table-end : goal.bounds-table-end
bounds-table-end g c =
    omega (arith, c.loop-k-test.true, c.requires.within, c.loop-k.auto.table, moving-low (goal.F-post g c.args.left) c.args.table.now c.args.run.first c.args.start c.loop-k.table c.loop-k.k c.loop-k.end c.loop-k.invariant c.requires.past c.loop-k.auto.k (omega (arith, c.loop-k-test.true, c.requires.within)))

pub overflow_add-end : goal.overflow_add-end
overflow_add-end g c =
    omega (arith, c.loop-k-test.true, c.requires.within, c.requires.small, moving-low (goal.F-post g c.args.left) c.args.table.now c.args.run.first c.args.start c.loop-k.table c.loop-k.k c.loop-k.end c.loop-k.invariant c.requires.past c.loop-k.auto.k (omega (arith, c.loop-k-test.true, c.requires.within)))

pub loop-k-preserved : goal.loop-k-preserved
loop-k-preserved g c =
    elim c.match-left.branch [
      | in-Some w ↦ moving-take (goal.F-post g c.args.left) c.args.table.now c.args.run.first c.args.start c.loop-k.table c.loop-k.k c.loop-k.end c.loop-k.invariant c.requires.past c.loop-k.auto.k (omega (arith, c.loop-k-test.true, c.requires.within))
          c.index-table-k.result c.index-table-k.is w.in-Some.entry w.in-Some.ensures _ _ w.table-is w.end-is
      | in_default w ↦ moving_skip (goal.F-post g c.args.left) c.args.table.now c.args.run.first c.args.start c.loop-k.table c.loop-k.k c.loop-k.end c.loop-k.invariant c.requires.past c.loop-k.auto.k (omega (arith, c.loop-k-test.true, c.requires.within))
          c.index-table-k.result c.index-table-k.is w.in_default.ensures _ _ w.table-is w.end-is
    ]
