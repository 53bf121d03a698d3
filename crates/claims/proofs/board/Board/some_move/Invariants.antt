use Rattle.std.proofs.Common.{◌≡◌, drop}
use Rattle.formulas.specs.Lines.{entries}
use Rattle.formulas.specs.Truths.{any, of_node}
use Rattle.claims.specs.Boards.{truths_in}
use Rattle.claims.proofs.Anys.{some_of}
use Rattle.claims.proofs.board.Board.some_move.Given as goal

abbrev pub invariant-loop-place : goal.invariant-loop-place
invariant-loop-place g l =
    let M = g.S.System.meaning l.self.system.now in
    let p = some_of (of_node (truths_in M l.self.tables)) (entries l.self.tables.alternatives.now l.run) in
    let mvs = M.moves l.state l.action in
    (any p mvs ≡ any p (drop l.place mvs)) × (l.row ≡ l.initial.row)
