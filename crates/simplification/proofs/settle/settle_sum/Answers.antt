use Rattle.std.proofs.Common.{rules, sym, subst}
use Rattle.std.specs.List.{AllByRecursion}
use Rattle.std.proofs.ByRecursion.{All-weaker}
use Rattle.formulas.specs.Lines.{entries}
use Rattle.simplification.specs.Simplify.{tone_of, is_neither, retarget}
use Rattle.simplification.specs.Settling.{glance_of, LedBy}
use Rattle.simplification.proofs.Puts.{moved-is}
use Rattle.simplification.proofs.settle.settle_sum.Goals as goal

pub weigh-rest-requires : goal.weigh-rest-requires
weigh-rest-requires c = subst (AllByRecursion (λ k. LedBy c.args.before k.node)) (sym c.entries.ensures) c.requires.parts

pub returns : goal.returns
returns c =
    let E = glance_of c.args.before in
    let moved = moved-is _ (λ k. is_neither (tone_of E k.node)) (retarget (λ j. (E j).to)) _ _ _ _ _ c.move_run-end.ensures
    (All-weaker (λ k. LedBy c.args.before k.node) _ (λ k h o r. search rules) (entries c.args.terms.now c.args.run) c.requires.parts) in
    search (rules, moved.0, moved.1)
