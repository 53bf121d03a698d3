use Rattle.std.proofs.Common.{◌≡◌, ◌<◌, ◌≤◌, [], ◌∷◌, ◌++◌, length, get_or, sym, refl, ◌∙◌, ap₂, arith}
use Rattle.std.proofs.lemmas.List.{take_more, take_more_set, take_at, take_all, length-take-le}
use Rattle.std.proofs.lemmas.Option.{slice_get-get_or}
use Rattle.quotient.proofs.Dividing.{no_target}
use Rattle.quotient.proofs.Rules.{move-good}
use Rattle.quotient.proofs.plan.Division.read_targets.Goals as goal

pub loop-index-init : goal.loop-index-init
loop-index-init g c = refl

pub loop-index-preserved : goal.loop-index-preserved
loop-index-preserved g c =
    let R = g.S.System.meaning c.args.self.now.system.now in
    let mv = get_or (R.moves c.args.state c.args.action) c.args.number [] in
    let good = move-good R (g.met.S.System.sound c.args.self.now.system.now).ruled c.args.state c.args.action c.args.number c.requires.inside in
    let long = length-take-le c.targets-count.result c.args.buffer.now (omega (arith, c.targets-count.ensures, good.short, c.args.self.now.planned.narrow, c.told-buffer)) in
    let i = c.loop-index.index in
    let within : i < length mv = omega (arith, long, c.targets-count.ensures, c.loop-index-test.true) in
    let room : i < length c.loop-index.slot-items = omega (arith, c.loop-index.auto.slot-items, c.loop-index-test.true) in
    let there = slice_get-get_or mv i no_target within in
    let is : c.unwrap.result ≡ get_or mv i no_target = cc (c.target.ensures, c.unwrap.ensures) in
    take_more_set c.loop-index.slot-items i _ room ∙ ap₂ (λ l t. l ++ (t ∷ [])) c.loop-index.invariant is ∙ sym (take_more mv i no_target within)

pub returns : goal.returns
returns g c =
    let R = g.S.System.meaning c.args.self.now.system.now in
    let mv = get_or (R.moves c.args.state c.args.action) c.args.number [] in
    let good = move-good R (g.met.S.System.sound c.args.self.now.system.now).ruled c.args.state c.args.action c.args.number c.requires.inside in
    let long = length-take-le c.targets-count.result c.args.buffer.now (omega (arith, c.targets-count.ensures, good.short, c.args.self.now.planned.narrow, c.told-buffer)) in
    let i = c.loop-index.index in
    let items = c.loop-index.slot-items in
    let all : length items ≤ i = omega (arith, c.loop-index.auto.slot-items, c.loop-index-test.false) in
    let whole : length mv ≤ i = omega (arith, long, c.targets-count.ensures, c.loop-index-test.false) in
    take_at items _ _ (c.loop-index.auto.slot-items ∙ long) ∙ (sym (take_all i items all) ∙ (c.loop-index.invariant ∙ take_all i mv whole))
