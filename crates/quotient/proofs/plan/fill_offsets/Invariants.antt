use Rattle.std.proofs.Common.{◌≡◌, ◌*◌, drop}
use Rattle.quotient.specs.Plans.{width_before, Sampled}
use Rattle.quotient.proofs.plan.fill_offsets.Given as goal

abbrev pub invariant-loop-block : goal.invariant-loop-block
invariant-loop-block l = record {
  can_next : goal.iterator-loop-block.can_next l.block-iterator;
  is_finite : goal.iterator-loop-block.is_finite l.block-iterator;
  size : l.block-iterator.iter.size ≡ 32;
  rest : l.block-iterator.iter.rest.now ≡ drop (l.block-iterator.count * 32) l.nodes;
  total : l.total ≡ width_before l.states l.rows l.nodes (l.block-iterator.count * 32);
  sampled : Sampled l.states l.rows l.nodes l.offsets (l.block-iterator.count * 32);
}
