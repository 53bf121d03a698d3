use Rattle.std.proofs.Common.{ℕ, ◌<◌, length, get_or, ◌∙◌, rules}
use Rattle.std.proofs.ByRecursion.{All-get_or}
use Rattle.std.proofs.iter.Serving.{serving}
use Rattle.std.proofs.lemmas.Iterator.{YieldsList-from_slice}
use Rattle.std.proofs.lemmas.Iterator.Search.{any_from_yields_List}
use Rattle.claims.specs.Rows.{lit_row}
use Rattle.claims.proofs.Anys.{any_list}
use Rattle.claims.proofs.row.some_lit.Goals as goal

pub any-requires-clause-callable : goal.any-requires-clause-callable
any-requires-clause-callable c =
    let inside : (k d : ℕ) → k < length c.args.wanted.now → get_or c.args.wanted.now k d < length c.args.row.now = λ k d h. All-get_or (λ i. i < length c.args.row.now) c.args.wanted.now k d h c.requires in
    grind (serving, inside)

pub returns : goal.returns
returns c =
    any_from_yields_List (lit_row c.args.row.now) _ _ c.any.result c.any.ensures.ran (YieldsList-from_slice c.args.wanted.now c.iter.ensures.rest) (λ x b q k. search rules)
    ∙ any_list (lit_row c.args.row.now) c.args.wanted.now
