use Rattle.std.proofs.Common.{◌-◌, cond, get_or, ap, ◌∙◌, arith}
use Rattle.std.proofs.lemmas.List.{take_all}
use Rattle.std.proofs.ByRecursion.{All-get_or}
use Rattle.simplification.specs.Simplify.{Tone, is_yes, is_no, yes_part, terms_left, coefficients}
use Rattle.simplification.specs.Tables.{blank_term}
use Rattle.simplification.specs.Settling.{glance_of, LedBy}
use Rattle.simplification.proofs.Keeping.{weighing_more}
use Rattle.simplification.proofs.settle.weigh.Goals as goal

pub loop-t-init : goal.loop-t-init
loop-t-init c = record { threshold = omega arith; lack = omega arith }

pub see-requires : goal.see-requires
see-requires c =
    All-get_or (λ k. LedBy c.args.before k.node) c.args.terms.now c.loop-t.t-index blank_term c.loop-t-test.true c.requires

pub loop-t-preserved : goal.loop-t-preserved
loop-t-preserved c =
    let E = glance_of c.args.before in
    let k = get_or c.args.terms.now c.loop-t.t-index blank_term in
    weighing_more E c.args.threshold c.args.terms.now c.loop-t.t-index c.loop-t.rest.threshold c.loop-t.rest.lack c.loop-t.invariant blank_term c.loop-t-test.true
    c.weigh_term-rest.result.threshold c.weigh_term-rest.result.lack
    (c.weigh_term-rest.ensures.threshold ∙ ap (λ (o : Tone). c.loop-t.rest.threshold - cond (is_yes o) k.coefficient 0) c.see.ensures)
    (c.weigh_term-rest.ensures.lack ∙ ap (λ (o : Tone). c.loop-t.rest.lack - cond (is_no o) 0 k.coefficient) c.see.ensures)

pub returns : goal.returns
returns c =
    let E = glance_of c.args.before in
    let all = take_all c.loop-t.t-index c.args.terms.now c.loop-t-test.false in
    record {
      threshold = c.loop-t.invariant.threshold ∙ ap (λ ks. c.args.threshold - yes_part E ks) all;
      lack = c.loop-t.invariant.lack ∙ ap (λ ks. c.loop-t.rest.threshold - coefficients (terms_left E ks)) all;
    }
