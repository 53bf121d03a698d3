use Rattle.std.proofs.Common.{◌≡◌, ℕ, [], ◌∷◌, length, ap, ◌∙◌, subst, ap₂, arith}
use Rattle.formulas.specs.declared.node.Fills.{Fills}
use Rattle.formulas.specs.Layout.{fills}
use Rattle.formulas.specs.Tables.{Slots, held, laid}
use Rattle.simplification.specs.Simplify.{reached}
use Rattle.simplification.specs.Packed.{all_lines, whole}
use Rattle.simplification.specs.Reaching.{Ticks}
use Rattle.simplification.proofs.Laid.{formed-ordered}
use Rattle.simplification.proofs.Cutting.{lines_long, ticks_closed, compacted-is, root_is}
use Rattle.simplification.proofs.in_place.cut.Goals as goal

pub compact-fills-requires : goal.compact-fills-requires
compact-fills-requires c =
    let s = held c.args.tables.now in
    let P = c.requires.packed in
    let same : length (all_lines s) ≡ length c.args.tables.now.nodes.now = lines_long s in
    let long : length c.reach.new.ticks ≡ length c.args.tables.now.nodes.now = c.reach.auto.ticks ∙ (c.fill.auto.self ∙ c.requires.long) in
    let ticks = subst (λ (t : Slots). Ticks c.reach.new.ticks (reached 0 (all_lines t) (c.args.root ∷ []))) c.shared.ensures c.reach.ensures in
    record {
      packed = P;
      room = omega (arith, long);
      closed = λ i h.
          ticks_closed (whole c.args.root s) (formed-ordered (all_lines s) P.formed) (omega (arith, same, c.requires.root))
          c.reach.new.ticks (omega (arith, long, same)) ticks i (omega (arith, same));
    }

pub returns : goal.returns
returns c =
    let s = held c.args.tables.now in
    let P = c.requires.packed in
    let F = whole c.args.root s in
    let o = formed-ordered (all_lines s) P.formed in
    let to = c.reach.new.ticks in
    let same : length (all_lines s) ≡ length c.args.tables.now.nodes.now = lines_long s in
    let long : length to ≡ length (all_lines s) = c.reach.auto.ticks ∙ (c.fill.auto.self ∙ (c.requires.long ∙ omega (arith, same))) in
    let ticks = subst (λ (t : Slots). Ticks to (reached 0 (all_lines t) (c.args.root ∷ []))) c.shared.ensures c.reach.ensures in
    let is = compacted-is F o (omega (arith, same, c.requires.root)) to long ticks in
    let root = root_is F o (omega (arith, same, c.requires.root)) to long ticks c.compact-fills.new.map (λ j h. c.compact-fills.ensures.numbers j (omega (arith, same))) in
    record {
      lent = c.compact-fills.ensures.lent;
      answer = ap₂ (λ (f : Fills) (r : ℕ). record { fills = f; root = r }) (c.compact-fills.ensures.used ∙ ap fills is) root;
      tables = c.compact-fills.ensures.tables ∙ ap (λ xs. laid xs s) is;
    }
