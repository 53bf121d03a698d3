use Rattle.std.proofs.Common.{◌≡◌, ◌+◌, ◌*◌, ◌<◌, ◌≤◌, min, drop, set, length, sum_by, sym, ap, ◌∙◌, subst₂, arith, rules}
use Rattle.std.proofs.lemmas.List.{take_all, length-drop}
use Rattle.quotient.specs.Plans.{node_width, width_before, Sampled}
use Rattle.quotient.proofs.Planning.{block_more, other-blocks, sampled_more, width_small}
use Rattle.quotient.proofs.plan.fill_offsets.Goals as goal

pub bounds-offsets-block : goal.bounds-offsets-block
bounds-offsets-block c =
    let h = c.loop-block.invariant in
    let step = c.in-Some.ensures.steps in
    omega (arith, step.1, step.0.1.2, ap length h.rest, length-drop (c.loop-block.block-iterator.count * 32) c.args.nodes.now, c.requires.room, c.loop-block.auto.offsets)

pub overflow_add-total : goal.overflow_add-total
overflow_add-total c =
    let n = c.args.states in
    let r = c.args.rows in
    let ns = c.args.nodes.now in
    let h = c.loop-block.invariant in
    let b = c.loop-block.block-iterator.count in
    let rest = c.loop-block.block-iterator.iter.rest.now in
    let step = c.in-Some.ensures.steps in
    let short : length c.in-Some.nodes.now ≡ min 32 (length rest) = step.0.1.1 ∙ ap (λ k. min k (length rest)) h.size in
    let more = block_more n r ns b rest c.in-Some.nodes.now c.next.new.self.iter.rest.now h.rest step.0.1.0 short c.loop-block.total c.lines-total.result h.total c.lines-total.ensures in
    let few : (b + 1) * 32 ≤ 1048607 = omega (arith, step.0.1.2, ap length h.rest, length-drop (b * 32) ns, c.requires.few) in
    omega (arith, more, width_small n r ns c.requires.states c.requires.rows ((b + 1) * 32) few)

pub loop-block-preserved : goal.loop-block-preserved
loop-block-preserved c =
    let n = c.args.states in
    let r = c.args.rows in
    let ns = c.args.nodes.now in
    let h = c.loop-block.invariant in
    let b = c.loop-block.block-iterator.count in
    let rest = c.loop-block.block-iterator.iter.rest.now in
    let next = c.next.new.self.iter.rest.now in
    let offsets = c.loop-block.offsets in
    let step = c.in-Some.ensures.steps in
    let short : length c.in-Some.nodes.now ≡ min 32 (length rest) = step.0.1.1 ∙ ap (λ k. min k (length rest)) h.size in
    let inside : b < length offsets = omega (arith, step.0.1.2, ap length h.rest, length-drop (b * 32) ns, c.requires.room, c.loop-block.auto.offsets) in
    let after = sym step.2 in
    record {
      can_next = search rules;
      is_finite = search rules;
      size = step.0.0 ∙ h.size;
      rest = other-blocks n r ns b rest c.in-Some.nodes.now next h.rest step.0.1.0 short ∙ ap (λ k. drop (k * 32) ns) after;
      total = block_more n r ns b rest c.in-Some.nodes.now next h.rest step.0.1.0 short c.loop-block.total c.lines-total.result h.total c.lines-total.ensures ∙ ap (λ k. width_before n r ns (k * 32)) after;
      sampled = subst₂ (λ i k. Sampled n r ns (set offsets i c.loop-block.total) (k * 32)) (sym step.1) after (sampled_more n r ns offsets b c.loop-block.total inside h.total h.sampled);
    }

pub returns : goal.returns
returns c =
    let n = c.args.states in
    let r = c.args.rows in
    let ns = c.args.nodes.now in
    let h = c.loop-block.invariant in
    let b = c.loop-block.block-iterator.count in
    let end : length ns ≤ b * 32 = omega (arith, c.in-None.ensures.steps.0.1.0, ap length h.rest, length-drop (b * 32) ns) in
    record {
      total = h.total ∙ ap (sum_by (node_width n r)) (take_all (b * 32) ns end ∙ sym (take_all (length ns) ns (omega arith)));
      offsets = λ k l. h.sampled k (omega arith);
    }
