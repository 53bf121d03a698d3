use Rattle.std.proofs.Common.{◌-◌, ◌/◌, ◌%◌, List, [], get_or, Some, refl, sym, ap, ◌∙◌}
use Rattle.std.specs.List.{slice_get}
use Rattle.systems.specs.Actions.{has}
use Rattle.systems.specs.Meaning.{Move}
use Rattle.systems.specs.Piled.{outside_moves}
use Rattle.systems.proofs.PiledCode.{no_move, no_upper, target-shared, target-upper, target-lower, room-shared, room-upper, room-lower}
use Rattle.systems.proofs.pile.PileSystem.target.Goals as goal

pub returns-in_err-u : goal.returns-in_err-u
returns-in_err-u g c =
    c.from_residual.ensures
    ∙ sym (ap (λ (ms : List Move). slice_get (get_or ms c.args.mv []) c.args.index) (outside_moves (has c.args.self.now.shared) (g.U.System.meaning c.args.self.now.upper) (g.L.System.meaning c.args.self.now.lower) c.args.state c.args.action c.in_err-u.ensures))

pub returns-then-low-eq0 : goal.returns-then-low-eq0
returns-then-low-eq0 g c = sym (ap (λ (xs : Move). slice_get xs c.args.index) (no_move c.in_ok-u.ensures c.args.action c.args.mv c.if-contains.ensures c.moves-low.ensures c.if-low-eq0.true))

pub returns-in_err-x : goal.returns-in_err-x
returns-in_err-x g c =
    c.from_residual-in_err-x.ensures
    ∙ no_upper c.in_ok-u.ensures c.args.action c.args.mv c.if-contains.ensures c.moves-low.ensures c.if-low-eq0.false c.targets-n.ensures c.args.index c.if-n-eq0.false c.in_err-x.ensures

pub returns-in_err-y : goal.returns-in_err-y
returns-in_err-y g c =
    c.from_residual-in_err-y.ensures
    ∙ target-shared c.in_ok-u.ensures c.args.action c.args.mv c.if-contains.ensures c.moves-low.ensures c.if-low-eq0.false c.targets-n.ensures c.args.index c.states-k.ensures c.if-n-eq0.false c.in_ok-x.ensures c.in_err-y.ensures

pub over-requires : goal.over-requires
over-requires g c =
    room-shared c.in_ok-u.ensures c.args.action c.states-k.ensures (c.args.mv / c.moves-low.result) (c.args.index / c.targets-n.result) (c.args.mv % c.moves-low.result) (c.args.index % c.targets-n.result) c.in_ok-x.ensures c.in_ok-y.ensures

pub returns-then-contains : goal.returns-then-contains
returns-then-contains g c =
    ap Some c.over.ensures
    ∙ target-shared c.in_ok-u.ensures c.args.action c.args.mv c.if-contains.ensures c.moves-low.ensures c.if-low-eq0.false c.targets-n.ensures c.args.index c.states-k.ensures c.if-n-eq0.false c.in_ok-x.ensures c.in_ok-y.ensures

pub returns-in_err-x-2 : goal.returns-in_err-x-2
returns-in_err-x-2 g c =
    c.from_residual-in_err-x-2.ensures
    ∙ target-upper c.in_ok-u.ensures c.args.action c.args.mv c.if-contains.ensures c.moves-up.ensures c.if-mv-up.true c.args.index c.states-k.ensures refl c.in_err-x-2.ensures

pub over-requires-then-mv-up : goal.over-requires-then-mv-up
over-requires-then-mv-up g c =
    room-upper c.in_ok-u.ensures c.args.action c.states-k.ensures c.args.mv c.args.index c.in_ok-x-2.ensures c.mass-weight.ensures

pub returns-in_ok-x-2 : goal.returns-in_ok-x-2
returns-in_ok-x-2 g c =
    ap Some c.over-then-mv-up.ensures
    ∙ target-upper c.in_ok-u.ensures c.args.action c.args.mv c.if-contains.ensures c.moves-up.ensures c.if-mv-up.true c.args.index c.states-k.ensures c.mass-weight.ensures c.in_ok-x-2.ensures

pub returns-in_err-y-2 : goal.returns-in_err-y-2
returns-in_err-y-2 g c =
    c.from_residual-in_err-y-2.ensures
    ∙ target-lower c.in_ok-u.ensures c.args.action c.args.mv c.if-contains.ensures c.moves-up.ensures c.if-mv-up.false c.args.index c.states-k.ensures refl c.in_err-y-2.ensures

pub over-requires-else-mv-up : goal.over-requires-else-mv-up
over-requires-else-mv-up g c =
    room-lower c.in_ok-u.ensures c.args.action c.states-k.ensures (c.args.mv - c.moves-up.result) c.args.index c.in_ok-y-2.ensures c.mass-weight-else-mv-up.ensures

pub returns-in_ok-y-2 : goal.returns-in_ok-y-2
returns-in_ok-y-2 g c =
    ap Some c.over-else-mv-up.ensures
    ∙ target-lower c.in_ok-u.ensures c.args.action c.args.mv c.if-contains.ensures c.moves-up.ensures c.if-mv-up.false c.args.index c.states-k.ensures c.mass-weight-else-mv-up.ensures c.in_ok-y-2.ensures
