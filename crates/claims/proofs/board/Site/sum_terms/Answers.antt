use Rattle.std.proofs.Common.{ℕ, Bool, ◌∙◌, rules, arith}
use Rattle.std.specs.List.{range_with_len}
use Rattle.std.proofs.lemmas.Iterator.{YieldsList-from_range, YieldsList-from_map}
use Rattle.std.proofs.lemmas.Iterator.Consumers.{fits_by_from_yields_list, sum_by_from_yields_List}
use Rattle.claims.specs.Spots.{spot_of}
use Rattle.claims.specs.Sums.{lit}
use Rattle.claims.proofs.Soundness.{light}
use Rattle.claims.proofs.Totals.{part, total_whole, total-fits}
use Rattle.claims.proofs.board.Site.sum_terms.Goals as goal

pub sum-requires-clause-fits : goal.sum-requires-clause-fits
sum-requires-clause-fits g c =
    let b = c.args.self.board in
    let M = g.S.System.meaning b.system.now in
    let mv = spot_of M c.args.self.spot in
    let n = c.targets.result in
    let at : ℕ → ℕ → Bool = lit b.truths.bytes.now M.states in
    let each = part at c.args.terms.now mv in
    let small = total-fits M at c.args.terms.now mv (light M (g.met.S.System.sound b.system.now) c.args.self.spot c.args.self.placed) c.requires.light in
    fits_by_from_yields_list each (range_with_len 0 n) _ _ (YieldsList-from_map _ each (YieldsList-from_range 0 n n (search rules) (omega arith)) c.map.ensures.closure (λ x r q k. search rules)) (omega (arith, total_whole at c.args.terms.now mv n c.targets.ensures, small))

pub returns : goal.returns
returns g c =
    let b = c.args.self.board in
    let M = g.S.System.meaning b.system.now in
    let mv = spot_of M c.args.self.spot in
    let n = c.targets.result in
    let at : ℕ → ℕ → Bool = lit b.truths.bytes.now M.states in
    let each = part at c.args.terms.now mv in
    sum_by_from_yields_List each (range_with_len 0 n) _ c.sum.result c.sum.ensures.ran (YieldsList-from_map _ each (YieldsList-from_range 0 n n (search rules) (omega arith)) c.map.ensures.closure (λ x r q k. search rules))
    ∙ total_whole at c.args.terms.now mv n c.targets.ensures
