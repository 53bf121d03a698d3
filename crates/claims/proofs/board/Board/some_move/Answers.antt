use Rattle.std.proofs.Common.{◌<◌, [], length, sym, ◌∙◌, arith}
use Rattle.formulas.specs.Lines.{entries}
use Rattle.formulas.specs.Truths.{of_node}
use Rattle.claims.specs.Boards.{truths_in}
use Rattle.claims.proofs.Anys.{some_of, any_hit, any_miss}
use Rattle.claims.proofs.board.Board.some_move.Goals as goal

pub returns-then-some_holds-clause-value : goal.returns-then-some_holds-clause-value
returns-then-some_holds-clause-value g c =
    let M = g.S.System.meaning c.args.self.system.now in
    let p = some_of (of_node (truths_in M c.args.self.tables)) (entries c.args.self.tables.alternatives.now c.args.run) in
    let mvs = M.moves c.args.state c.args.action in
    let h : c.loop-place.place < length mvs = omega (arith, c.moves-place-end.ensures) in
    any_hit p mvs c.loop-place.place [] c.loop-place.invariant.0 h (sym c.if-some_holds.ensures.value)

pub loop-place-preserved : goal.loop-place-preserved
loop-place-preserved g c =
    let M = g.S.System.meaning c.args.self.system.now in
    let p = some_of (of_node (truths_in M c.args.self.tables)) (entries c.args.self.tables.alternatives.now c.args.run) in
    let mvs = M.moves c.args.state c.args.action in
    let h : c.loop-place.place < length mvs = omega (arith, c.moves-place-end.ensures) in (
      any_miss p mvs c.loop-place.place [] c.loop-place.invariant.0 h (sym c.if-some_holds.ensures.value),
      c.some_holds.ensures.row ∙ c.loop-place.invariant.1,
    )
