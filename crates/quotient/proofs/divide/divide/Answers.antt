use Rattle.std.proofs.Common.{sym, ◌∙◌}
use Rattle.formulas.specs.Tables.{held}
use Rattle.quotient.proofs.Rooms.{passed}
use Rattle.quotient.proofs.divide.divide.Goals as goal

pub returns-clause-value : goal.returns-clause-value
returns-clause-value g c =
    let R = g.S.System.meaning c.args.system.now in
    let stands = sym c.if-not-formula_in.ensures.value in
    c.divide_whole.ensures.value ∙ passed R c.args.standing.fills c.args.standing.root c.args.mass c.args.tables c.front-used.result c.front-used.ensures stands c.in_ok-removable.ensures c.args.shared (held c.args.second.now)
