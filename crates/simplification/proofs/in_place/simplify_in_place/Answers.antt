use Rattle.std.proofs.Common.{rules, sym, ap, ◌∙◌, arith}
use Rattle.formulas.specs.Tables.{Slots, slots, stands_in, held}
use Rattle.simplification.specs.Tables.{desk}
use Rattle.simplification.proofs.Fronts.{ready, no_more, settles_in, accepted}
use Rattle.simplification.proofs.in_place.simplify_in_place.Goals as goal

pub simplify_front-requires : goal.simplify_front-requires
simplify_front-requires c =
    let f = c.args.standing.fills in
    let s = held c.args.tables.now in
    let stands =
    ap (λ (t : Slots). stands_in f c.args.standing.root c.args.mass t) (sym c.shared.ensures) ∙ (sym c.formula_in.ensures.value ∙ c.if-not-formula_in.false) in
    record {
      ready =
          ready f c.args.standing.root c.args.mass s stands c.tables_stand.ensures.held c.layout_stands.ensures.tables
          (omega arith) (omega arith) (omega arith);
      room = c.if-map-standing.false;
    }

pub returns : goal.returns
returns c =
    let f = c.args.standing.fills in
    let root = c.args.standing.root in
    let s = held c.args.tables.now in
    let x = c.simplify_front.result in
    let d = desk (slots c.simplify_front.new.nodes c.simplify_front.new.terms c.simplify_front.new.alternatives) c.simplify_front.new.map in
    let stands =
    ap (λ (t : Slots). stands_in f c.args.standing.root c.args.mass t) (sym c.shared.ensures) ∙ (sym c.formula_in.ensures.value ∙ c.if-not-formula_in.false) in
    let law = c.tables_stand.ensures.held in
    let answer = c.simplify_front.ensures.answer in
    let left = c.simplify_front.ensures.left in
    record {
      lent = search rules;
      outcome = accepted f root c.args.mass s stands c.args.map.now x d c.if-map-standing.false answer left;
      fewer = no_more f root c.args.mass s stands law c.layout_stands.ensures.tables x answer;
      settled = settles_in f root c.args.mass s stands law c.layout_stands.ensures.lines c.args.map.now x d answer left;
    }
