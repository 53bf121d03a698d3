use Rattle.std.proofs.Common.{rules, tests, sym, ◌∙◌, subst}
use Rattle.simplification.proofs.Lists.{any-is}
use Rattle.std.proofs.ByRecursion.{All-get_or}
use Rattle.std.proofs.lemmas.Iterator.{YieldsList-from_slice}
use Rattle.std.proofs.lemmas.Iterator.Adapters.{serves_from_places}
use Rattle.std.proofs.lemmas.Iterator.Search.{any_from_yields_List}
use Rattle.simplification.specs.Simplify.{tone_of, is_yes}
use Rattle.simplification.specs.Settling.{glance_of, LedBy}
use Rattle.simplification.proofs.settle.Before.some_yes.Goals as goal

pub any-requires-clause-callable : goal.any-requires-clause-callable
any-requires-clause-callable c =
    serves_from_places (YieldsList-from_slice c.args.alternatives.now c.iter.ensures.rest) (λ x q k. search rules)
    (λ x k h e. let led = subst (LedBy c.args.self) (sym e) (All-get_or (LedBy c.args.self) c.args.alternatives.now k x.now h c.requires) in search rules)

pub returns : goal.returns
returns c =
    let E = glance_of c.args.self in
    let found = any_from_yields_List (λ d. is_yes (tone_of E d)) _ _ _ c.any.ensures.ran (YieldsList-from_slice c.args.alternatives.now c.iter.ensures.rest) (λ x b q k. search (rules, tests)) in
    found ∙ any-is (λ d. is_yes (tone_of E d)) c.args.alternatives.now
