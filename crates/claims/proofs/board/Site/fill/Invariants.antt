use Rattle.claims.specs.Spots.{spot_of}
use Rattle.claims.specs.Rows.{Filling}
use Rattle.claims.specs.Boards.{truths_in}
use Rattle.claims.proofs.board.Site.fill.Given as goal

abbrev pub invariant-loop-j : goal.invariant-loop-j
invariant-loop-j g l =
    let b = l.self.board in
    let M = g.S.System.meaning b.system.now in
    Filling (truths_in M b.tables) (spot_of M l.self.spot) l.initial.j l.j l.initial.row l.row
