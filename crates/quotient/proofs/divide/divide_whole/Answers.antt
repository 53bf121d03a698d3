use Rattle.std.proofs.Common.{◌*◌, ap, ◌∙◌, arith}
use Rattle.std.proofs.lemmas.Result.{err_from_is_err_and}
use Rattle.formulas.specs.Tables.{held}
use Rattle.quotient.specs.Divisions.{whole_remainder}
use Rattle.quotient.proofs.Dividing.{place_at}
use Rattle.quotient.proofs.Rooms.{too-many-nodes, short-nodes, short-terms, short-alternatives, all_fit, found, too_many, node-count, term_count, alternative-count}
use Rattle.quotient.proofs.divide.divide_whole.Goals as goal

pub returns-then-used-gt-MOST_NODES-clause-value : goal.returns-then-used-gt-MOST_NODES-clause-value
returns-then-used-gt-MOST_NODES-clause-value g c =
    let R = g.S.System.meaning c.args.system.now in
    let u = c.args.used in
    too-many-nodes (whole_remainder c.args.shared R u c.args.root) (held c.args.second.now) (too_many c.args.shared R u c.args.root c.requires (g.met.S.System.sound c.args.system.now).ruled.states_low _ c.if-used-gt-MOST_NODES.true)

pub returns-in_err-nodes-clause-value : goal.returns-in_err-nodes-clause-value
returns-in_err-nodes-clause-value g c =
    let R = g.S.System.meaning c.args.system.now in
    let u = c.args.used in
    let nodes = node-count c.args.shared R u c.args.root c.requires _ _ c.states-states.ensures c.fill_firsts-rows.ensures.rows _ c.fill_offsets-lines.ensures.total in
    let p = err_from_is_err_and c.from_residual.result c.from_residual.ensures.1 in
    rw (p.1, p.2) (short-nodes (whole_remainder c.args.shared R u c.args.root) (held c.args.second.now) _ _ nodes c.in_err-nodes.ensures)

pub returns-in_err-terms-clause-value : goal.returns-in_err-terms-clause-value
returns-in_err-terms-clause-value g c =
    let R = g.S.System.meaning c.args.system.now in
    let u = c.args.used in
    let terms = term_count c.args.shared R u c.args.root c.requires c.layout_stands.ensures.tables _ c.terms_need.ensures in
    let p = err_from_is_err_and c.from_residual-in_err-terms.result c.from_residual-in_err-terms.ensures.1 in
    rw (p.1, p.2) (short-terms (whole_remainder c.args.shared R u c.args.root) (held c.args.second.now) _ _ terms c.in_err-terms.ensures)

pub returns-in_err-alternatives-clause-value : goal.returns-in_err-alternatives-clause-value
returns-in_err-alternatives-clause-value g c =
    let R = g.S.System.meaning c.args.system.now in
    let u = c.args.used in
    let alternatives = alternative-count c.args.shared R u c.args.root c.requires _ c.alternatives_need.ensures in
    let p = err_from_is_err_and c.from_residual-in_err-alternatives.result c.from_residual-in_err-alternatives.ensures.1 in
    rw (p.1, p.2) (short-alternatives (whole_remainder c.args.shared R u c.args.root) (held c.args.second.now) _ _ alternatives c.in_err-alternatives.ensures)

pub write-requires : goal.write-requires
write-requires g c =
    let R = g.S.System.meaning c.args.system.now in
    let u = c.args.used in
    let nodes = node-count c.args.shared R u c.args.root c.requires _ _ c.states-states.ensures c.fill_firsts-rows.ensures.rows _ c.fill_offsets-lines.ensures.total in
    let terms = term_count c.args.shared R u c.args.root c.requires c.layout_stands.ensures.tables _ c.terms_need.ensures in
    let alternatives = alternative-count c.args.shared R u c.args.root c.requires _ c.alternatives_need.ensures in
    record {
      fit = λ i n h. record {
        index = i;
        removed = c.requires.removed;
        inside = h;
        light = omega (arith, c.requires.light, ap (λ m. c.requires.removed * m) c.mass.ensures);
        right = c.requires.right i n h;
      };
      room = all_fit (whole_remainder c.args.shared R u c.args.root) (held c.args.second.now) _ _ _ _ _ _ nodes terms alternatives c.in_ok-nodes.ensures c.in_ok-terms.ensures c.in_ok-alternatives.ensures;
    }

pub returns-clause-value : goal.returns-clause-value
returns-clause-value g c =
    let R = g.S.System.meaning c.args.system.now in
    let u = c.args.used in
    let nodes = node-count c.args.shared R u c.args.root c.requires _ _ c.states-states.ensures c.fill_firsts-rows.ensures.rows _ c.fill_offsets-lines.ensures.total in
    let terms = term_count c.args.shared R u c.args.root c.requires c.layout_stands.ensures.tables _ c.terms_need.ensures in
    let alternatives = alternative-count c.args.shared R u c.args.root c.requires _ c.alternatives_need.ensures in
    let root = c.place.ensures ∙ place_at R _ _ c.states-states.ensures c.fill_firsts-rows.ensures.rows u.terms.now u.alternatives.now u.nodes.now c.args.root 0 in
    found (whole_remainder c.args.shared R u c.args.root) (held c.args.second.now) _ _ _ _ _ _ nodes terms alternatives c.in_ok-nodes.ensures c.in_ok-terms.ensures c.in_ok-alternatives.ensures _ root
