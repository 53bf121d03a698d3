use Rattle.std.proofs.Common.{◌≡◌}
use Rattle.formulas.specs.Tables.{over}
use Rattle.claims.specs.Verdicts.{node_bytes}
use Rattle.claims.specs.Boards.{truths_in}
use Rattle.claims.proofs.board.Board.fill_node.Given as goal

abbrev pub invariant-loop-state : goal.invariant-loop-state
invariant-loop-state g l =
    let T = truths_in (g.S.System.meaning l.self.system.now) l.self.tables in
    record { bytes : l.bytes ≡ over (node_bytes T l.state l.self.upto) l.initial.bytes; row : l.row ≡ l.initial.row }
