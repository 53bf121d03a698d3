use Rattle.std.proofs.Common.{List, [], length, get_or, sym, ap}
use Rattle.systems.specs.Meaning.{Move}
use Rattle.systems.specs.Actions.{has}
use Rattle.systems.specs.Piled.{outside_moves}
use Rattle.systems.proofs.PiledCode.{no_move, targets_shared, targets_upper, targets_lower}
use Rattle.systems.proofs.pile.PileSystem.targets.Goals as goal

pub returns-in_default : goal.returns-in_default
returns-in_default g c = sym (ap (λ (ms : List Move). length (get_or ms c.args.mv [])) (outside_moves (has c.args.self.now.shared) (g.U.System.meaning c.args.self.now.upper) (g.L.System.meaning c.args.self.now.lower) c.args.state c.args.action c.in_default.ensures))

pub returns-then-low-eq0 : goal.returns-then-low-eq0
returns-then-low-eq0 g c = sym (ap length (no_move c.in-Some.ensures c.args.action c.args.mv c.if-contains.ensures c.moves-low.ensures c.if-low-eq0.true))

pub returns-then-contains : goal.returns-then-contains
returns-then-contains g c = targets_shared c.in-Some.ensures c.args.action c.args.mv c.if-contains.ensures c.moves-low.ensures c.if-low-eq0.false c.targets.ensures c.targets-then-contains.ensures

pub returns-then-mv-up : goal.returns-then-mv-up
returns-then-mv-up g c = targets_upper c.in-Some.ensures c.args.action c.args.mv c.if-contains.ensures c.moves-up.ensures c.if-mv-up.true c.targets-then-mv-up.ensures

pub returns-else-mv-up : goal.returns-else-mv-up
returns-else-mv-up g c = targets_lower c.in-Some.ensures c.args.action c.args.mv c.if-contains.ensures c.moves-up.ensures c.if-mv-up.false c.targets-else-mv-up.ensures
