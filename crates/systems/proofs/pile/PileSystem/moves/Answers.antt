use Rattle.std.proofs.Common.{length, sym, ap}
use Rattle.systems.specs.Actions.{has}
use Rattle.systems.specs.Piled.{outside_moves}
use Rattle.systems.proofs.PiledCode.{count-shared, count-apart}
use Rattle.systems.proofs.pile.PileSystem.moves.Goals as goal

pub returns-in_default : goal.returns-in_default
returns-in_default g c = sym (ap length (outside_moves (has c.args.self.now.shared) (g.U.System.meaning c.args.self.now.upper) (g.L.System.meaning c.args.self.now.lower) c.args.state c.args.action c.in_default.ensures))

pub returns-then-contains : goal.returns-then-contains
returns-then-contains g c = count-shared c.in-Some.ensures c.args.action c.moves-up.ensures c.moves-low.ensures c.if-contains.ensures

pub returns-else-contains : goal.returns-else-contains
returns-else-contains g c = count-apart c.in-Some.ensures c.args.action c.moves-up.ensures c.moves-low.ensures c.if-contains.ensures
