use Rattle.std.proofs.Common.{◌≡◌, ◌≤◌, length, replicate, ap, ◌∙◌, refl, arith}
use Rattle.std.proofs.lemmas.List.{length-drop, length-take-le}
use Rattle.formulas.specs.Truths.{any, of_node}
use Rattle.claims.specs.Spots.{spot_of}
use Rattle.claims.specs.Boards.{truths_in}
use Rattle.claims.proofs.Reached.{reached-any, reached_clear}
use Rattle.claims.proofs.board.Site.some_holds.Goals as goal

pub returns : goal.returns
returns g c =
    let b = c.args.self.board in
    let M = g.S.System.meaning b.system.now in
    let mv = spot_of M c.args.self.spot in
    let T = truths_in M b.tables in
    let wanted = c.entries-wanted.result.now in
    let span = c.reach-span.result in
    let same : length c.fill.new.row ≡ length c.args.row.now = omega (arith, c.reach-span.auto.row, c.fill.auto.row) in
    let long : span.high ≤ length c.fill.new.row = omega (arith, same, c.reach-span.ensures.top, c.requires.blank.long) in
    record {
      value = reached-any b.tables.nodes.now wanted c.args.row.now c.reach-span.new.row c.fill.new.row b.upto span.low span.high c.requires.blank c.reach-span.ensures T mv c.fill.ensures _ c.some_lit-answer.ensures ∙ ap (any (λ d. of_node T d mv)) c.entries-wanted.ensures;
      row = reached_clear b.tables.nodes.now wanted c.args.row.now c.reach-span.new.row c.fill.new.row b.upto span.low span.high c.requires.blank c.reach-span.ensures T mv c.fill.ensures _ c.fill-2.new.self same refl (c.fill-2.ensures.after (λ y e. e) ∙ ap (λ n. replicate n 0) (length-take-le _ _ (omega (arith, long, length-drop span.low c.fill.new.row))));
    }
