-- The three passes together.
use Rattle.std.proofs.Common.{◌≡◌, ℕ, ◌-◌, ◌^◌, ◌<◌, ◌≤◌, true, List, [], ◌++◌, length, get_or, take, drop, replicate, sym, refl, ap, ◌∙◌, subst, ap₂, arith}
use Rattle.std.proofs.lemmas.List.{length-map, length-append, get_or-map, get_or_append_left, drop_at, drop_all, append-nil, take_at, ext_get_or}
use Rattle.std.proofs.ByRecursion.{All-weaker}
use Rattle.formulas.specs.declared.node.Fills.{Fills}
use Rattle.formulas.specs.declared.node.Node.{Node}
use Rattle.formulas.specs.declared.node.Term.{Term}
use Rattle.formulas.specs.Lines.{state, Line, constant, line}
use Rattle.formulas.specs.Layout.{node_table, term_table, alternative_table, fills}
use Rattle.formulas.specs.Right.{Below, Formed}
use Rattle.formulas.specs.Tables.{Slots, slots, over, laid}
use Rattle.formulas.specs.WellFormed.{line_at}
use Rattle.simplification.specs.Simplify.{parts, became, blank, outcomes, prune, simplify}
use Rattle.simplification.specs.Tables.{blank_node, blank_term, padded}
use Rattle.simplification.specs.Packed.{all_lines, whole, Packed, filled}
use Rattle.simplification.specs.Settling.{leaves, left_lines, left_numbers}
use Rattle.simplification.proofs.Lists.{grown-length}
use Rattle.simplification.proofs.Outcomes.{Ordered, outcome, placed}
use Rattle.simplification.proofs.Laid.{length-nodes, formed-ordered, parts_below}
use Rattle.simplification.proofs.Leaving.{leaves-parts, simplify-left}
use Rattle.simplification.proofs.Here.{as_it_is, line-here}

module _ {X : Type 0} where
  over_twice : (new old : List X) → over new (over new old) ≡ over new old
  over_twice new old = ap (λ r. new ++ r) (drop_at new (drop (length new) old) (length new) refl)

  -- what is over a list of the same length fits
  over-fits : (xs new old : List X) → xs ≡ over new old → length xs ≡ length old → length new ≤ length old
  over-fits xs new old e s = omega (arith, ap length e, length-append new (drop (length new) old))

  padded-is : (xs ys new old : List X) (x : X) (n : ℕ) → xs ≡ over new old → n ≡ length new → ys ≡ take n xs ++ replicate (length xs - n) x → length xs ≡ length old
      → ys ≡ padded (length old) x new
  padded-is xs ys new old x n e s q l =
      q
      ∙ (ap₂ (λ (us : List X) (k : ℕ). us ++ replicate (k - n) x) (ap (take n) e ∙ take_at new (drop (length new) old) n (sym s)) l
      ∙ ap (λ k. new ++ replicate (length old - k) x) s)

-- lines laid over tables with as many nodes are read back
all_lines-laid : (ls : List Line) (s : Slots) → length ls ≡ length s.nodes → all_lines (laid ls s) ≡ ls
all_lines-laid ls s e =
    let t = laid ls s in
    let full : t.nodes ≡ node_table 0 0 ls =
    ap (λ r. node_table 0 0 ls ++ r) (drop_all (length (node_table 0 0 ls)) s.nodes (omega (arith, length-nodes 0 0 ls))) ∙ append-nil (node_table 0 0 ls) in
    let long : length (all_lines t) ≡ length ls = length-map t.nodes (line t.terms t.alternatives) ∙ (ap length full ∙ length-nodes 0 0 ls) in
    let twice : laid ls t ≡ t = λ i. slots (over_twice (node_table 0 0 ls) s.nodes i) (over_twice (term_table ls) s.terms i) (over_twice (alternative_table ls) s.alternatives i) in
    ext_get_or (constant state true) (all_lines t) ls long (λ i h.
    get_or-map (line t.terms t.alternatives) t.nodes i blank_node (constant state true) (omega (arith, length-map t.nodes (line t.terms t.alternatives)))
    ∙ line-here ls t twice i (omega (arith, long)) [] t (as_it_is ls i t))

-- after the first pass
module _ (s : Slots) (P : Packed s) (s' : Slots) (S : s' ≡ laid (left_lines (all_lines s)) s) where
  abbrev ls : List Line
  ls = all_lines s

  o : Ordered ls
  o = formed-ordered ls P.formed

  left-count : length (left_lines ls) ≡ length s.nodes
  left-count = length-map ls (leaves (outcome ls)) ∙ length-map s.nodes (line s.terms s.alternatives)

  lines_left : all_lines s' ≡ left_lines ls
  lines_left = ap all_lines S ∙ all_lines-laid (left_lines ls) s left-count

  left-formed : Formed (left_lines ls)
  left-formed i h =
      let E = outcome ls in
      let g : i < length ls = omega (arith, length-map ls (leaves E)) in
      subst (Below i) (sym (get_or-map (leaves E) ls i (constant state true) (constant state true) g))
      (parts_below i (leaves E (line_at ls i))
      (leaves-parts E (λ j. j < i) (line_at ls i)
      (All-weaker (λ j. j < i) (λ j. (E j).to < i) (λ j k. omega (arith, (placed ls o j (omega arith)).near)) (parts (line_at ls i)) (o i g))))

  pub packed-left : length s'.nodes < 2 ^ 32 → length s'.terms < 2 ^ 32 → length s'.alternatives < 2 ^ 32 → Packed s'
  packed-left n t a =
      let L = left_lines ls in
      let twice : laid L s' ≡ s' =
      ap (laid L) S
      ∙ ((λ i. slots (over_twice (node_table 0 0 L) s.nodes i) (over_twice (term_table L) s.terms i) (over_twice (alternative_table L) s.alternatives i)) ∙ sym S) in
      record {
        laid_out = ap (λ xs. laid xs s') lines_left ∙ twice;
        formed = subst Formed (sym lines_left) left-formed;
        few_nodes = n;
        few_terms = t;
        few_alternatives = a;
      }

  module _ (to to' : List ℕ) (N : to' ≡ over (left_numbers ls) to) (root : ℕ) (inside : root < length s.nodes) where
    h : root < length ls
    h = omega (arith, length-map s.nodes (line s.terms s.alternatives))

    number_is : get_or to' root 0 ≡ (outcome ls root).to
    number_is =
        let xs = outcomes ls in
        let long : length xs ≡ length ls = grown-length blank became [] ls ∙ omega arith in
        ap (λ us. get_or us root 0) N
        ∙ (get_or_append_left (left_numbers ls) (drop (length (left_numbers ls)) to) 0 root (omega (arith, h, length-map xs (λ x. x.to), long))
        ∙ get_or-map (λ x. x.to) xs root blank 0 (omega (arith, h, long)))

    pub root-low : get_or to' root 0 ≤ root
    root-low = omega (arith, number_is, (placed ls o root h).near)

    pub simplified-is : prune (whole (get_or to' root 0) s') ≡ simplify (whole root s)
    simplified-is = (λ i. prune (record { lines = lines_left i; root = number_is i })) ∙ sym (simplify-left ls root o h)

-- lines at the front of tables of the same sizes
module _ (L : List Line) (s s' : Slots) (f : Fills) (S : s' ≡ laid L s) (U : f ≡ fills L)
    (n : length s'.nodes ≡ length s.nodes) (t : length s'.terms ≡ length s.terms) (a : length s'.alternatives ≡ length s.alternatives) where
  count : f.nodes ≡ length (node_table 0 0 L)
  count = ap (λ (u : Fills). u.nodes) U ∙ sym (length-nodes 0 0 L)

  pub laid-fits : (f.nodes ≤ length s'.nodes) × (f.terms ≤ length s'.terms) × (f.alternatives ≤ length s'.alternatives)
  laid-fits = (
    omega (arith, count, over-fits s'.nodes (node_table 0 0 L) s.nodes (ap (λ x. x.nodes) S) n),
    omega (arith, ap (λ (u : Fills). u.terms) U, over-fits s'.terms (term_table L) s.terms (ap (λ x. x.terms) S) t),
    omega (arith, ap (λ (u : Fills). u.alternatives) U, over-fits s'.alternatives (alternative_table L) s.alternatives (ap (λ x. x.alternatives) S) a),
  )

  -- with blanks after them
  pub filled_is : (s'' : Slots)
      → s''.nodes ≡ take f.nodes s'.nodes ++ replicate (length s'.nodes - f.nodes) blank_node
      → s''.terms ≡ take f.terms s'.terms ++ replicate (length s'.terms - f.terms) blank_term
      → s''.alternatives ≡ take f.alternatives s'.alternatives ++ replicate (length s'.alternatives - f.alternatives) 0
      → s'' ≡ filled L s
  filled_is s'' x y z =
      let nodes = padded-is s'.nodes s''.nodes (node_table 0 0 L) s.nodes blank_node f.nodes (ap (λ x. x.nodes) S) count x n in
      let terms = padded-is s'.terms s''.terms (term_table L) s.terms blank_term f.terms (ap (λ x. x.terms) S) (ap (λ (u : Fills). u.terms) U) y t in
      let alternatives = padded-is s'.alternatives s''.alternatives (alternative_table L) s.alternatives 0 f.alternatives (ap (λ x. x.alternatives) S) (ap (λ (u : Fills). u.alternatives) U) z a in
      λ i. slots (nodes i) (terms i) (alternatives i)

pub filled-same : (L : List Line) (s s' : Slots) → length s'.nodes ≡ length s.nodes → length s'.terms ≡ length s.terms → length s'.alternatives ≡ length s.alternatives
    → filled L s' ≡ filled L s
filled-same L s s' n t a = λ i. slots (padded (n i) blank_node (node_table 0 0 L)) (padded (t i) blank_term (term_table L)) (padded (a i) 0 (alternative_table L))

-- what was lent of each table is what the tables hold
pub returned : {ns ns' : List Node} {ks ks' : List Term} {ds ds' : List ℕ} → ns ≡ ns' → ks ≡ ks' → ds ≡ ds' → slots ns ks ds ≡ slots ns' ks' ds'
returned n k d = λ i. slots (n i) (k i) (d i)
