use Rattle.quotient.proofs.Dividing.{rows-from, rows-past}
use Rattle.quotient.proofs.plan.Division.rows_of.Goals as goal

pub returns-then-action-lt-ACTIONS : goal.returns-then-action-lt-ACTIONS
returns-then-action-lt-ACTIONS g c =
    let R = g.S.System.meaning c.args.self.now.system.now in
    let rows = rows-from R c.args.self.now.plan c.args.self.now.planned c.args.state c.args.action _ c.requires.inside c.if-action-lt-ACTIONS.true c.moves-count.ensures in
    record { rows = rows.0; small = rows.1 }

pub returns-else-action-lt-ACTIONS : goal.returns-else-action-lt-ACTIONS
returns-else-action-lt-ACTIONS g c =
    let R = g.S.System.meaning c.args.self.now.system.now in
    let rows = rows-past R c.args.self.now.plan c.args.self.now.planned (g.met.S.System.sound c.args.self.now.system.now).ruled c.args.state c.args.action _ c.if-action-lt-ACTIONS.false c.moves-count.ensures in
    record { rows = rows.0; small = rows.1 }
