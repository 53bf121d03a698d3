use Rattle.std.proofs.Common.{◌≡◌, ℕ, ◌+◌, ◌<◌, Bool, true, cond, [], ◌∷◌, length, get_or, drop, sym, ap, ◌∙◌, subst, arith, length-set}
use Rattle.std.proofs.lemmas.Bool.{eq-eqb, ne_eqb}
use Rattle.std.proofs.lemmas.List.{length-map, get_or-map}
use Rattle.std.proofs.ByRecursion.{All-weaker}
use Rattle.formulas.specs.Lines.{state, Line, constant, line}
use Rattle.formulas.specs.Tables.{contents}
use Rattle.formulas.specs.WellFormed.{line_at}
use Rattle.simplification.specs.Simplify.{parts, reached}
use Rattle.simplification.specs.Tables.{blank_node}
use Rattle.simplification.specs.Packed.{all_lines}
use Rattle.simplification.specs.Moving.{Fit}
use Rattle.simplification.specs.Reaching.{ticked, Ticks}
use Rattle.simplification.proofs.Laid.{formed-ordered}
use Rattle.simplification.proofs.Cutting.{packed-fits}
use Rattle.simplification.proofs.Ticking.{last-long, last-is, last-front, ticks_turn}
use Rattle.simplification.proofs.reach.reach.Goals as goal

pub tick_node-requires : goal.tick_node-requires
tick_node-requires c =
    let ns = c.args.tables.nodes.now in
    let rest = c.next.new.self.iter.iter.rest.now in
    let more = c.loop-i.i-iterator.iter.iter.rest.now in
    let node = c.in-Some.node.now in
    let step = c.in-Some.ensures.steps.1.0 in
    let front = c.loop-i.invariant.2 in
    let long = last-long ns rest more node step front in
    let same : length c.loop-i.ticks ≡ length c.args.ticks.now = c.loop-i.auto.ticks ∙ length-set c.args.ticks.now c.args.root 1 in
    subst (Fit (λ d. d < length c.loop-i.ticks) c.args.tables.terms.now c.args.tables.alternatives.now 0 0) (last-is ns rest more node step front blank_node)
    (packed-fits (contents c.args.tables) c.requires.packed (length c.loop-i.ticks) (omega (arith, same, c.requires.long)) (length rest) (omega (arith, long, c.loop-i.invariant.1)))

pub loop-i-preserved-then-ticks-i-eq-TICK : goal.loop-i-preserved-then-ticks-i-eq-TICK
loop-i-preserved-then-ticks-i-eq-TICK c =
    let ns = c.args.tables.nodes.now in
    let rest = c.next.new.self.iter.iter.rest.now in
    let more = c.loop-i.i-iterator.iter.iter.rest.now in
    let node = c.in-Some.node.now in
    let step = c.in-Some.ensures.steps.1.0 in
    let front = c.loop-i.invariant.2 in
    let long = last-long ns rest more node step front in
    let same : length c.loop-i.ticks ≡ length c.args.ticks.now = c.loop-i.auto.ticks ∙ length-set c.args.ticks.now c.args.root 1 in
    let ls = all_lines (contents c.args.tables) in
    let i : ℕ = length rest in
    let here : i < length ns = omega (arith, long, c.loop-i.invariant.1) in
    let lines : length ls ≡ length ns = length-map ns (line c.args.tables.terms.now c.args.tables.alternatives.now) in
    let at : line c.args.tables.terms.now c.args.tables.alternatives.now node ≡ line_at ls i =
    ap (line c.args.tables.terms.now c.args.tables.alternatives.now) (sym (last-is ns rest more node step front blank_node))
    ∙ sym (get_or-map (line c.args.tables.terms.now c.args.tables.alternatives.now) ns i blank_node (constant state true) here) in
    let index : c.in-Some.i ≡ i = omega (arith, c.in-Some.ensures.steps.1.1, c.loop-i.invariant.0) in
    let before : Ticks c.loop-i.ticks (reached (i + 1) (drop (i + 1) ls) (c.args.root ∷ [])) =
    subst (λ (k : ℕ). Ticks c.loop-i.ticks (reached k (drop k ls) (c.args.root ∷ []))) long c.loop-i.invariant.3 in
    let low = All-weaker (λ d. d < i) (λ d. d < length c.loop-i.ticks) (λ d l. omega (arith, same, here, c.requires.long)) (parts (line_at ls i)) (formed-ordered ls c.requires.packed.formed i (omega (arith, lines, here))) in (
      c.in-Some.ensures.steps.0 ∙ c.loop-i.invariant.0,
      omega (arith, here),
      last-front ns rest more node step front,
      ticks_turn ls (c.args.root ∷ []) i (omega (arith, lines, here)) c.loop-i.ticks c.tick_node.new.ticks (omega (arith, lines, same, c.requires.long)) low before
          (c.tick_node.ensures
          ∙ (ap (λ (l : Line). ticked c.loop-i.ticks (parts l)) at
          ∙ ap (λ (b : Bool). cond b (ticked c.loop-i.ticks (parts (line_at ls i))) c.loop-i.ticks)
          (sym (eq-eqb (get_or c.loop-i.ticks i 0) 1 (ap (λ k. get_or c.loop-i.ticks k 0) (sym index) ∙ c.if-ticks-i-eq-TICK.true))))),
    )

pub loop-i-preserved : goal.loop-i-preserved
loop-i-preserved c =
    let ns = c.args.tables.nodes.now in
    let rest = c.next.new.self.iter.iter.rest.now in
    let more = c.loop-i.i-iterator.iter.iter.rest.now in
    let node = c.in-Some.node.now in
    let step = c.in-Some.ensures.steps.1.0 in
    let front = c.loop-i.invariant.2 in
    let long = last-long ns rest more node step front in
    let same : length c.loop-i.ticks ≡ length c.args.ticks.now = c.loop-i.auto.ticks ∙ length-set c.args.ticks.now c.args.root 1 in
    let ls = all_lines (contents c.args.tables) in
    let i : ℕ = length rest in
    let here : i < length ns = omega (arith, long, c.loop-i.invariant.1) in
    let lines : length ls ≡ length ns = length-map ns (line c.args.tables.terms.now c.args.tables.alternatives.now) in
    let at : line c.args.tables.terms.now c.args.tables.alternatives.now node ≡ line_at ls i =
    ap (line c.args.tables.terms.now c.args.tables.alternatives.now) (sym (last-is ns rest more node step front blank_node))
    ∙ sym (get_or-map (line c.args.tables.terms.now c.args.tables.alternatives.now) ns i blank_node (constant state true) here) in
    let index : c.in-Some.i ≡ i = omega (arith, c.in-Some.ensures.steps.1.1, c.loop-i.invariant.0) in
    let before : Ticks c.loop-i.ticks (reached (i + 1) (drop (i + 1) ls) (c.args.root ∷ [])) =
    subst (λ (k : ℕ). Ticks c.loop-i.ticks (reached k (drop k ls) (c.args.root ∷ []))) long c.loop-i.invariant.3 in
    let low = All-weaker (λ d. d < i) (λ d. d < length c.loop-i.ticks) (λ d l. omega (arith, same, here, c.requires.long)) (parts (line_at ls i)) (formed-ordered ls c.requires.packed.formed i (omega (arith, lines, here))) in (
      c.in-Some.ensures.steps.0 ∙ c.loop-i.invariant.0,
      omega (arith, here),
      last-front ns rest more node step front,
      ticks_turn ls (c.args.root ∷ []) i (omega (arith, lines, here)) c.loop-i.ticks c.loop-i.ticks (omega (arith, lines, same, c.requires.long)) low before
          (ap (λ (b : Bool). cond b (ticked c.loop-i.ticks (parts (line_at ls i))) c.loop-i.ticks)
          (sym (ne_eqb (get_or c.loop-i.ticks i 0) 1 (λ z. c.if-ticks-i-eq-TICK.false (ap (λ k. get_or c.loop-i.ticks k 0) index ∙ z))))),
    )
