use Rattle.std.proofs.Common.{◌≡◌, ◌<◌, ap, ◌∙◌, arith}
use Rattle.formulas.specs.Truths.{at_node}
use Rattle.claims.specs.Verdicts.{byte}
use Rattle.claims.specs.Boards.{truths_in}
use Rattle.claims.proofs.Truthful.{bool_byte, state-is}
use Rattle.claims.proofs.Pastes.{node_more, node_whole}
use Rattle.claims.proofs.board.Board.fill_node.Goals as goal

pub loop-state-preserved : goal.loop-state-preserved
loop-state-preserved g c =
    let b = c.args.self in
    let M = g.S.System.meaning b.system.now in
    let T = truths_in M b.tables in
    let i = b.upto in
    let s = c.loop-state.state in
    let inside : s < M.states = omega (arith, c.requires.room, c.loop-state-test.true) in
    let value = bool_byte c.holds.result c.from.result c.from.ensures ∙ ap byte (c.holds.ensures.value ∙ state-is M b.tables b.truths.bytes.now i b.known.agrees b.known.sits c.requires.node s inside) in
    record {
      bytes = node_more (λ x. byte (at_node T i x)) s _ c.args.bytes.now c.loop-state.bytes c.loop-state-test.true c.loop-state.invariant.bytes value;
      row = c.holds.ensures.row ∙ c.loop-state.invariant.row;
    }

pub returns-clause-bytes : goal.returns-clause-bytes
returns-clause-bytes g c =
    let b = c.args.self in
    let M = g.S.System.meaning b.system.now in
    let end : c.loop-state.state ≡ M.states = omega (arith, c.requires.room, c.loop-state.auto.state-end, c.loop-state-test.false) in
    node_whole (truths_in M b.tables) M.states b.upto c.loop-state.state c.args.bytes.now c.loop-state.bytes c.requires.room end c.loop-state.invariant.bytes
