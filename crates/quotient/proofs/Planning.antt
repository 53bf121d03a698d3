-- The rows of a system, and the lines of a quotient, counted.
use Rattle.std.proofs.Common.{◌≡◌, ℕ, ◌+◌, ◌-◌, ◌*◌, ◌/◌, ◌%◌, ◌<◌, ◌≤◌, ◌≢◌, min, List, [], ◌∷◌, ◌++◌, length, get_or, take, drop, set, sum_by, sym, refl, ap, ◌∙◌, ap₂, ⊎_elim, mul-le-mul_right, suc-mul, append-nil, arith}
use Rattle.std.specs.List.{range_with_len}
use Rattle.std.proofs.lemmas.List.{length-take, length-drop, length-append, take_all, drop_all, drop-drop, nil_from_length, get_or-set_same, get_or-set_other}
use Rattle.std.proofs.lemmas.List.Sums.{sum_by-cons, sum_by-append, sum_by-take-le}
use Rattle.std.proofs.Math.Seq.{take-add, take-append_seam, drop-append_seam}
use Rattle.std.proofs.lemmas.List.Edits.{fill_by_more}
use Rattle.std.proofs.lemmas.Bool.{cases_lt}
use Rattle.systems.specs.Meaning.{Meaning}
use Rattle.formulas.specs.declared.node.Node.{Node}
use Rattle.formulas.specs.declared.node.Node.TheVariants.{State, Dist}
use Rattle.formulas.specs.declared.node.StateNode.TheVariants.{Yes}
use Rattle.quotient.specs.Quotient.{moves_of, first_row}
use Rattle.quotient.specs.Plans.{node_width, width_before, Sampled, Firsts}
use Rattle.quotient.proofs.Countings.{sum_by_counting_more}
use Rattle.quotient.proofs.Lists.{length-joined}

-- what is read past the end of a table of nodes
abbrev pub no_node : Node
no_node = State Yes

module _ (R : Meaning) where
  -- the first row of the pair i of a state and an action
  abbrev first-at : ℕ → ℕ
  first-at i = first_row R (i / 32) (i % 32)

  pub first-none : R.states ≡ first-at 0
  unfolding first_row
  first-none = omega arith

  first_next : (i : ℕ) → first-at (i + 1) ≡ first-at i + length (R.moves (i / 32) (i % 32))
  unfolding first_row
  first_next i =
      let p = i / 32 in
      let a = i % 32 in
      let before = sum_by_counting_more (λ b. length (R.moves p b)) a in
      ⊎_elim
      (λ l.
      let same : (i + 1) / 32 ≡ p = omega arith in
      let next : (i + 1) % 32 ≡ a + 1 = omega arith in
      ap₂ (first_row R) same next ∙ omega (arith, before))
      (λ l.
      let after : (i + 1) / 32 ≡ p + 1 = omega arith in
      let start : (i + 1) % 32 ≡ 0 = omega arith in
      let last : a + 1 ≡ 32 = omega arith in
      ap₂ (first_row R) after start
      ∙ omega (arith, before, sum_by_counting_more (λ q. length (moves_of R q)) p, length-joined (R.moves p) (λ b. length (R.moves p b)) (λ b. refl) (range_with_len 0 32), ap (λ n. sum_by (λ b. length (R.moves p b)) (range_with_len 0 n)) last))
      (cases_lt (a + 1) 32)

  -- one pair more
  pub firsts_more : (firsts : List ℕ) (i next x : ℕ) → i < length firsts → next ≡ first-at i → Firsts R firsts i → x ≡ length (R.moves (i / 32) (i % 32)) → (next + x ≡ first-at (i + 1)) × Firsts R (set firsts i next) (i + 1)
  firsts_more firsts i next x h e f g = (
    omega (arith, first_next i),
    λ k l. ap (λ v. get_or (set firsts i v) k 0) e ∙ fill_by_more first-at firsts i 0 h f k l,
  )

width-le : (n r m : ℕ) → n ≤ m → r ≤ m → (x : Node) → node_width n r x ≤ m
width-le n r m h l (State x) = h
width-le n r m h l (Dist x) = l

widths_le : (n r m : ℕ) → n ≤ m → r ≤ m → (ns : List Node) → sum_by (node_width n r) ns ≤ length ns * m
widths_le n r m h l [] = omega arith
widths_le n r m h l (x ∷ ns) = omega (arith, sum_by-cons (node_width n r) x ns, width-le n r m h l x, widths_le n r m h l ns, suc-mul (length ns) m)

module _ (n r : ℕ) (ns : List Node) where
  -- the nodes before node i: those of whole blocks, then the others
  pub width-split : (b i known rest : ℕ) → b * 32 ≤ i → known ≡ width_before n r ns (b * 32) → rest ≡ sum_by (node_width n r) (take (i - b * 32) (drop (b * 32) ns)) → known + rest ≡ width_before n r ns i
  width-split b i known rest h e f =
      ap₂ ◌+◌ e f
      ∙ sym (sum_by-append (node_width n r) (take (b * 32) ns) (take (i - b * 32) (drop (b * 32) ns)))
      ∙ ap (sum_by (node_width n r)) (sym (take-add (b * 32) (i - b * 32) ns))
      ∙ ap (λ k. sum_by (node_width n r) (take k ns)) (omega arith)

  pub width_small : n ≤ 1073741824 → r ≤ 1073741824 → (i : ℕ) → i ≤ 1048607 → width_before n r ns i ≤ 1125933192839168
  width_small h l i k =
      let few : length (take i ns) ≤ 1048607 = omega (arith, length-take i ns) in
      omega (arith, widths_le n r 1073741824 h l (take i ns), mul-le-mul_right 1073741824 few)

  pub width-within : (i : ℕ) → width_before n r ns i ≤ width_before n r ns (length ns)
  width-within i = omega (arith, sum_by-take-le (node_width n r) ns i, ap (sum_by (node_width n r)) (take_all (length ns) ns (omega arith)))

  -- one block more: the first of the nodes behind b whole blocks
  module _ (b : ℕ) (rest block others : List Node) (e : rest ≡ drop (b * 32) ns) (f : rest ≡ block ++ others) (g : length block ≡ min 32 (length rest)) where
    next-block : block ≡ take 32 (drop (b * 32) ns)
    next-block =
        let whole : drop (b * 32) ns ≡ block ++ others = sym e ∙ f in
        let both = ap length f ∙ length-append block others in
        ⊎_elim
        (λ l.
        let none : others ≡ [] = nil_from_length others (omega arith) in
        let all : drop (b * 32) ns ≡ block = whole ∙ ap (λ l. block ++ l) none ∙ append-nil block in
        sym (ap (take 32) all ∙ take_all 32 block (omega arith)))
        (λ l.
        let full : 32 ≡ length block = omega arith in
        sym (ap (take 32) whole ∙ ap (λ k. take k (block ++ others)) full ∙ take-append_seam block others))
        (cases_lt (length rest) 32)

    pub other-blocks : others ≡ drop ((b + 1) * 32) ns
    other-blocks =
        let whole : drop (b * 32) ns ≡ block ++ others = sym e ∙ f in
        let both = ap length f ∙ length-append block others in
        ⊎_elim
        (λ l.
        let none : others ≡ [] = nil_from_length others (omega arith) in
        let past : length ns ≤ (b + 1) * 32 = omega (arith, ap length e, length-drop (b * 32) ns) in
        none ∙ sym (drop_all ((b + 1) * 32) ns past))
        (λ l.
        let full : length block ≡ 32 = omega arith in
        sym (drop-append_seam block others) ∙ ap (λ k. drop k (block ++ others)) full ∙ ap (drop 32) (sym whole) ∙ drop-drop 32 (b * 32) ns ∙ ap (λ k. drop k ns) (omega arith))
        (cases_lt (length rest) 32)

    pub block_more : (total x : ℕ) → total ≡ width_before n r ns (b * 32) → x ≡ sum_by (node_width n r) block → total + x ≡ width_before n r ns ((b + 1) * 32)
    block_more total x h k =
        let size : (b + 1) * 32 - b * 32 ≡ 32 = omega arith in
        width-split b ((b + 1) * 32) total x (omega arith) h (k ∙ ap (sum_by (node_width n r)) (next-block ∙ ap (λ m. take m (drop (b * 32) ns)) (sym size)))

  pub sampled_more : (offsets : List ℕ) (b total : ℕ) → b < length offsets → total ≡ width_before n r ns (b * 32) → Sampled n r ns offsets (b * 32) → Sampled n r ns (set offsets b total) ((b + 1) * 32)
  sampled_more offsets b total room e s k h =
      ⊎_elim
      (λ l. let other : k ≢ b = omega arith in get_or-set_other offsets b k total 0 other ∙ s k (omega arith))
      (λ l.
      let same : k ≡ b = omega arith in
      ap (λ j. get_or (set offsets b total) j 0) same ∙ get_or-set_same offsets b total 0 room ∙ e ∙ ap (λ j. width_before n r ns (j * 32)) (sym same))
      (cases_lt k b)
