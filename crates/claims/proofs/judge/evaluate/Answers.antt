use Rattle.std.proofs.Common.{length, ap, ◌∙◌}
use Rattle.formulas.specs.Truths.{at_node}
use Rattle.claims.specs.Verdicts.{verdict}
use Rattle.claims.specs.Sums.{lit}
use Rattle.claims.specs.Boards.{truths_in}
use Rattle.claims.proofs.Soundness.{some-state}
use Rattle.claims.proofs.Truthful.{byte-lit}
use Rattle.claims.proofs.Pastes.{over-agrees}
use Rattle.claims.proofs.judge.evaluate.Goals as goal

pub returns-clause-value : goal.returns-clause-value
returns-clause-value g c =
    let M = g.S.System.meaning c.args.system.now in
    let T = truths_in M c.args.tables in
    let table = c.fill_table.new.truth in
    let first = some-state M (g.met.S.System.sound c.args.system.now) in
    let root = byte-lit (at_node T c.args.root 0) _ (over-agrees M T (length c.args.tables.nodes.now) c.args.truth.now table c.fill_table.ensures.truth c.args.root 0 c.requires.root first) in
    c.of.ensures ∙ ap verdict (c.holds.ensures ∙ ap (λ n. lit table n c.args.root 0) c.states.ensures ∙ root)
