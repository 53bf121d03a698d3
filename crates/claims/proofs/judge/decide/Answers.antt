use Rattle.std.proofs.Common.{subst}
use Rattle.formulas.specs.declared.node.Fills.{Fills}
use Rattle.formulas.specs.Tables.{Front}
use Rattle.claims.proofs.Soundness.{some-mass}
use Rattle.claims.proofs.Judging.{used-sits, judged-is}
use Rattle.claims.proofs.judge.decide.Goals as goal

pub evaluate-requires-clause-sits : goal.evaluate-requires-clause-sits
evaluate-requires-clause-sits g c =
    let M = g.S.System.meaning c.args.system.now in
    let From : Fills → Type 0 = λ f. Front f c.args.tables c.front-used.result in
    let front = subst From c.fills.ensures c.front-used.ensures in
    used-sits M c.args.claim.now c.args.tables c.front-used.result _ _ c.requires front (some-mass M (g.met.S.System.sound c.args.system.now))

pub returns-clause-value : goal.returns-clause-value
returns-clause-value g c =
    let M = g.S.System.meaning c.args.system.now in
    let From : Fills → Type 0 = λ f. Front f c.args.tables c.front-used.result in
    let front = subst From c.fills.ensures c.front-used.ensures in
    judged-is M c.args.claim.now c.args.tables c.front-used.result _ _ c.requires front _ _ c.root.ensures c.evaluate.ensures.value
