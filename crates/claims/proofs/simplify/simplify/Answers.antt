use Rattle.std.proofs.Common.{rules, sym, subst, ap₂, Ok, Err}
use Rattle.formulas.specs.Tables.{held, formula_at}
use Rattle.simplification.specs.Laws.{Settles}
use Rattle.simplification.specs.Tables.{desk}
use Rattle.claims.proofs.Simplifying.{few-left, accepts}
use Rattle.claims.proofs.simplify.simplify.Goals as goal

pub take_up-requires : goal.take_up-requires
take_up-requires c = few-left _ _ _ c.in_ok-new.ensures.fewer c.standing-standing.ensures.fills c.args.claim.now.few

pub returns-clause-outcome : goal.returns-clause-outcome
returns-clause-outcome c =
    let before = desk (held c.args.tables.now) c.args.map.now in
    let after = held c.simplify_in_place.new.tables in
    accepts c.args.claim.now before (desk after c.simplify_in_place.new.map) _ _ _ c.standing-standing.ensures.fills c.standing-standing.ensures.root c.mass.ensures c.in_ok-new.new _ c.in_ok-new.ensures.outcome c.take_up.ensures.fills c.take_up.ensures.root c.take_up.ensures.mass c.take_up.ensures.shared

pub returns-clause-settled : goal.returns-clause-settled
returns-clause-settled c =
    let after = held c.simplify_in_place.new.tables in
    subst Settles (sym (ap₂ (λ f r. formula_at f r after) c.take_up.ensures.fills c.take_up.ensures.root)) c.in_ok-new.ensures.settled

pub returns-clause-book : goal.returns-clause-book
returns-clause-book c =
    c.books_stand.ensures.simplify c.args.claim.now c.take_up.new.self (held c.args.tables.now) (held c.simplify_in_place.new.tables) c.args.map.now c.simplify_in_place.new.map (Ok c.in_ok-new.new.fills) (returns-clause-outcome c)

pub returns-in_err-new-clause-book : goal.returns-in_err-new-clause-book
returns-in_err-new-clause-book c =
    c.books_stand.ensures.simplify c.args.claim.now c.args.claim.now (held c.args.tables.now) (held c.simplify_in_place.new.tables) c.args.map.now c.simplify_in_place.new.map (Err c.in_err-new.field-0.0) (search rules)
