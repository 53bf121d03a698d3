use Rattle.std.proofs.Common.{◌≡◌, length, refl, ap, ◌∙◌, rules}
use Rattle.formulas.specs.Stores.{store}
use Rattle.formulas.specs.Tables.{slots, held, laid}
use Rattle.quotient.specs.Layings.{lay_all}
use Rattle.quotient.specs.Plans.{plan_quotient}
use Rattle.quotient.proofs.Laying.{starts_are, laid-over, laid-long}
use Rattle.quotient.proofs.plan.Division.write.Goals as goal

pub returns : goal.returns
returns g c =
    let Q = plan_quotient (g.S.System.meaning c.args.self.now.system.now) c.args.self.now.plan in
    let s = held c.args.second.now in
    let n = c.new-nodes.ensures in
    let t = c.new-terms.ensures in
    let a = c.new-alternatives.ensures in
    let begun = starts_are c.new-nodes.result c.new-terms.result c.new-alternatives.result s.nodes s.terms s.alternatives n.slots n.fill t.slots t.fill a.slots a.fill in
    let u = store c.put_quotient.new.nodes c.put_quotient.new.terms c.put_quotient.new.alternatives in
    let e = c.put_quotient.ensures.wrote ∙ ap (λ l. lay_all l Q) begun in
    let long = laid-long Q s.nodes s.terms s.alternatives u e c.requires.room in
    let nodes : length c.put_quotient.new.nodes.slots.now ≡ length s.nodes = long.0 in
    let terms : length c.put_quotient.new.terms.slots.now ≡ length s.terms = long.1 in
    let alternatives : length c.put_quotient.new.alternatives.slots.now ≡ length s.alternatives = long.2 in
    let done : slots c.put_quotient.new.nodes.slots.now c.put_quotient.new.terms.slots.now c.put_quotient.new.alternatives.slots.now ≡ laid Q s =
    laid-over Q s.nodes s.terms s.alternatives u e c.requires.room in
    record { lent = search rules; wrote = search rules }
