use Rattle.std.proofs.Common.{◌≡◌, ℕ, ◌*◌, ◌<◌, ◌≤◌, Bool, length, get_or, Some, sym, ap, ◌∙◌, subst, mul-le-mul_left, mul-one, rules, arith}
use Rattle.std.proofs.ByRecursion.{All-get_or}
use Rattle.std.proofs.lemmas.Option.{slice_get-get_or}
use Rattle.claims.specs.Spots.{spot_of}
use Rattle.claims.specs.Sums.{lit, RowsAt, coefficients, coefficients_of, no_target}
use Rattle.claims.proofs.Soundness.{some-mass, light}
use Rattle.claims.proofs.Totals.{target_is, share_fits}
use Rattle.claims.proofs.board.Site.share.Goals as goal

pub map_or-requires : goal.map_or-requires
map_or-requires g c = λ x e.
    let b = c.args.self.board in
    let M = g.S.System.meaning b.system.now in
    let sound = g.met.S.System.sound b.system.now in
    let mv = spot_of M c.args.self.spot in
    let ks = c.args.terms.now in
    let here = light M sound c.args.self.spot c.args.self.placed in
    let is = target_is mv c.args.index c.requires.inside x (sym e ∙ c.target.ensures) in
    let Room : ℕ → Type 0 = λ n. RowsAt n (length b.truths.bytes.now) ks in
    let room : RowsAt b.truths.states (length b.truths.bytes.now) ks = subst Room (sym b.known.states) c.requires.ready.room in
    let near = All-get_or (λ t. t.state < M.states) mv c.args.index no_target c.requires.inside here.within in
    let inside : x.state < b.truths.states = omega (arith, near, b.known.states, ap (λ t. t.state) is) in
    let few : coefficients ks ≤ 1000000000000000000 = omega (arith, c.requires.ready.light, mul-le-mul_left (coefficients ks) (some-mass M sound), mul-one (coefficients ks)) in
    let P : ℕ → Bool = λ i. lit b.truths.bytes.now b.truths.states i x.state in
    let fits : x.weight * coefficients_of P ks ≤ 1000000000000000000 = omega (arith, ap (λ t. t.weight * coefficients_of P ks) is, share_fits M P ks mv here c.requires.ready.light c.args.index c.requires.inside) in
    search rules

pub returns : goal.returns
returns g c =
    let b = c.args.self.board in
    let M = g.S.System.meaning b.system.now in
    let mv = spot_of M c.args.self.spot in
    let t = get_or mv c.args.index no_target in
    let there : c.target.result ≡ Some t = c.target.ensures ∙ slice_get-get_or mv c.args.index no_target c.requires.inside in
    let same = ap (λ n. t.weight * coefficients_of (λ i. lit b.truths.bytes.now n i t.state) c.args.terms.now) b.known.states in
    let made = rw there at c.map_or.ensures in
    search (rules, same)
