use Rattle.std.proofs.Common.{◌≡◌, map, sum_by, ap, ◌∙◌, zero-add, rules}
use Rattle.std.specs.Prelude.{fold}
use Rattle.std.proofs.iter.runs.Made.{chains}
use Rattle.systems.specs.Actions.{has}
use Rattle.quotient.specs.Plans.{topped, alternative_need}
use Rattle.quotient.proofs.Needing.{plus, summed-topped}
use Rattle.quotient.proofs.need.alternatives_need.Goals as goal

pub returns : goal.returns
returns g c =
    let R = g.S.System.meaning c.args.system.now in
    let f = alternative_need (has c.args.shared) R in
    let folds : c.fold.result ≡ fold plus 0 (map (λ n. topped (f n)) c.args.nodes.now) = search (rules, chains) in
    folds ∙ summed-topped f 0 c.args.nodes.now ∙ ap topped (zero-add (sum_by f c.args.nodes.now))
