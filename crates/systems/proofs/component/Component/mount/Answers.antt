use Rattle.std.proofs.Common.{◌≡◌, ℕ, true, List, map, length, vec_items, sym, ap, ◌∙◌, subst, arith}
use lib.ListN.{length-map}
use Rattle.systems.specs.declared.system.Target.{Target}
use Rattle.systems.specs.Index.{index_meaning, good_index}
use Rattle.systems.specs.Mounted.{right_tables, all_inside, longest_low, longest_high}
use Rattle.systems.specs.Indexed.{index_good, same_meaning}
use Rattle.systems.proofs.component.Component.mount.Goals as goal

pub grouped-requires : goal.grouped-requires
grouped-requires c =
    let n = c.args.states in
    let rs = c.args.moves.now in
    let ts = c.args.targets.now in
    all_inside n rs ts (right_tables n rs ts c.in_ok-breadth.ensures.0).records

pub invariant_of-result : goal.invariant_of-result
invariant_of-result c =
    let n = c.args.states in
    let rs = c.args.moves.now in
    let ts = c.args.targets.now in
    let cells = map vec_items (vec_items c.in_ok-cells.cells) in
    let t = right_tables n rs ts c.in_ok-breadth.ensures.0 in
    let e = c.in_ok-breadth.ensures.1 in
    let own = c.in_ok-targets.ensures.items in
    let g = c.in_ok-cells.ensures in
    let b1 = longest_low rs (length rs) in
    let b2 = longest_high n rs ts t.records (length rs) (omega arith) in
    record {
      counted = t.states;
      broad = (omega (arith, e, b1), omega (arith, e, b2));
      covered = sym (length-map (vec_items c.in_ok-cells.cells) vec_items) ∙ g.size;
      short = omega (arith, ap length own, t.short);
      good =
          subst (λ (xs : List Target). good_index n c.in_ok-breadth.breadth cells xs ≡ true) (sym own)
          (subst (λ (b : ℕ). good_index n b cells ts ≡ true) (sym e) (index_good n rs ts cells t.records g));
    }

pub returns : goal.returns
returns c =
    let n = c.args.states in
    let rs = c.args.moves.now in
    let ts = c.args.targets.now in
    let cells = map vec_items (vec_items c.in_ok-cells.cells) in
    let ok = c.in_ok-breadth.ensures.0 in (
      ok,
      ap (index_meaning n c.in_ok-breadth.breadth cells) c.in_ok-targets.ensures.items
          ∙ ap (λ (b : ℕ). index_meaning n b cells ts) c.in_ok-breadth.ensures.1
          ∙ same_meaning n rs ts cells (right_tables n rs ts ok).records c.in_ok-cells.ensures,
    )
