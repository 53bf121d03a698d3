-- Tables of lines, the front of each overwritten: the lines that lie further on are read as they were.
use Rattle.std.proofs.Common.{◌≡◌, ℕ, ◌+◌, ◌^◌, ◌<◌, ◌≤◌, true, false, List, [], length, get_or, take, drop, sym, refl, ap, ◌∙◌, subst, arith}
use Rattle.std.specs.List.{AllByRecursion}
use Rattle.std.proofs.ByRecursion.{All-weaker}
use Rattle.std.proofs.lemmas.List.{length-append, get_or_append_left}
use Rattle.formulas.specs.declared.node.Term.{Term}
use Rattle.formulas.specs.Lines.{state, dist, Line, constant, both, non, step, sum, part, line}
use Rattle.formulas.specs.Layout.{node, node_table, term_table, alternative_table, terms_in, alternatives_in}
use Rattle.formulas.specs.Right.{Below}
use Rattle.formulas.specs.Tables.{Slots, laid}
use Rattle.formulas.specs.WellFormed.{line_at}
use Rattle.simplification.specs.Tables.{blank_node}
use Rattle.simplification.specs.Moving.{Fit}
use Rattle.simplification.proofs.Puts.{drop-over, get_or_past_over, length_over}
use Rattle.simplification.proofs.Laid.{table_at, table-within, length-nodes, node_at, part-front, part-back, line-of_node}

-- where the terms and alternatives of line i begin
abbrev pub terms-before : List Line → ℕ → ℕ
terms-before ls i = length (term_table (take i ls))

abbrev pub alternatives-before : List Line → ℕ → ℕ
alternatives-before ls i = length (alternative_table (take i ls))

-- the lines xs are laid over the front of the tables old, and do not reach line i
pub record Overlaid (ls : List Line) (i : ℕ) (old : Slots) (xs : List Line) (new : Slots) : Type 0 where
  pub tables : new ≡ laid xs old
  pub low : length xs ≤ i
  pub low_term : length (term_table xs) ≤ terms-before ls i
  pub low_alternative : length (alternative_table xs) ≤ alternatives-before ls i

pub as_it_is : (ls : List Line) (i : ℕ) (old : Slots) → Overlaid ls i old [] old
as_it_is ls i old = record { tables = refl; low = omega arith; low_term = omega arith; low_alternative = omega arith }

-- a node whose entries lie further on fits
module _ (i : ℕ) (Q : ℕ → Type 0) (q : (j : ℕ) → j < i → Q j) (ts : List Term) (alts : List ℕ) (t a T A : ℕ) (p : t ≤ T) (r : a ≤ A)
    (few_terms : length ts < 2 ^ 32) (few_alternatives : length alts < 2 ^ 32) where
  fit-node : (l : Line) → Below i l → T + length (terms_in l) ≤ length ts → A + length (alternatives_in l) ≤ length alts
      → part ts T (length (terms_in l)) ≡ terms_in l → part alts A (length (alternatives_in l)) ≡ alternatives_in l → Fit Q ts alts t a (node T A l)
  fit-node (constant state true) b v w x y = tt
  fit-node (constant state false) b v w x y = tt
  fit-node (constant dist true) b v w x y = tt
  fit-node (constant dist false) b v w x y = tt
  fit-node (both state j k) b v w x y = (q j b.0, q k b.1)
  fit-node (both dist j k) b v w x y = (q j b.0, q k b.1)
  fit-node (non state j) b v w x y = q j b
  fit-node (non dist j) b v w x y = q j b
  fit-node (step c ms hs) b v w x y = record {
    past = r;
    next = omega arith;
    within = omega (arith, w, length-append ms hs);
    small = few_alternatives;
    moves = subst (AllByRecursion Q) (sym (part-front alts A ms hs y)) (All-weaker (λ j. j < i) Q q ms b.0);
    heres = subst (AllByRecursion Q) (sym (part-back alts A ms hs y)) (All-weaker (λ j. j < i) Q q hs b.1);
  }
  fit-node (sum c ks) b v w x y = record {
    past = p;
    within = v;
    small = few_terms;
    parts = subst (AllByRecursion (λ k. Q k.node)) (sym x) (All-weaker (λ k. k.node < i) (λ k. Q k.node) (λ k h. q k.node h) ks b);
  }

module _ (ls : List Line) (old : Slots) (B : laid ls old ≡ old) (i : ℕ) (h : i < length ls) (xs : List Line) (new : Slots) (V : Overlaid ls i old xs new) where
  abbrev T : ℕ
  T = terms-before ls i

  abbrev A : ℕ
  A = alternatives-before ls i

  abbrev l : Line
  l = line_at ls i

  t_end : T + length (terms_in l) ≤ length old.terms
  t_end =
      omega (arith, table-within terms_in term_table refl (λ x xs. refl) ls i h, ap (λ s. length s.terms) B, length-append (term_table ls) (drop (length (term_table ls)) old.terms))

  a_end : A + length (alternatives_in l) ≤ length old.alternatives
  a_end =
      omega (arith, table-within alternatives_in alternative_table refl (λ x xs. refl) ls i h, ap (λ s. length s.alternatives) B, length-append (alternative_table ls) (drop (length (alternative_table ls)) old.alternatives))

  terms-long : length new.terms ≡ length old.terms
  terms-long = ap (λ s. length s.terms) V.tables ∙ length_over (term_table xs) old.terms (omega (arith, V.low_term, t_end))

  alternatives-long : length new.alternatives ≡ length old.alternatives
  alternatives-long = ap (λ s. length s.alternatives) V.tables ∙ length_over (alternative_table xs) old.alternatives (omega (arith, V.low_alternative, a_end))

  terms-fit : T + length (terms_in l) ≤ length new.terms
  terms-fit = omega (arith, t_end, terms-long)

  alternatives-fit : A + length (alternatives_in l) ≤ length new.alternatives
  alternatives-fit = omega (arith, a_end, alternatives-long)

  terms-here : part new.terms T (length (terms_in l)) ≡ terms_in l
  terms-here =
      ap (λ s. take (length (terms_in l)) (drop T s.terms)) V.tables
      ∙ (ap (take (length (terms_in l))) (drop-over T (term_table xs) old.terms V.low_term)
      ∙ (ap (λ s. take (length (terms_in l)) (drop T s.terms)) (sym B)
      ∙ table_at terms_in term_table refl (λ x xs. refl) ls i (drop (length (term_table ls)) old.terms) h))

  alternatives-here : part new.alternatives A (length (alternatives_in l)) ≡ alternatives_in l
  alternatives-here =
      ap (λ s. take (length (alternatives_in l)) (drop A s.alternatives)) V.tables
      ∙ (ap (take (length (alternatives_in l))) (drop-over A (alternative_table xs) old.alternatives V.low_alternative)
      ∙ (ap (λ s. take (length (alternatives_in l)) (drop A s.alternatives)) (sym B)
      ∙ table_at alternatives_in alternative_table refl (λ x xs. refl) ls i (drop (length (alternative_table ls)) old.alternatives) h))

  node-here : get_or new.nodes i blank_node ≡ node T A l
  node-here =
      ap (λ s. get_or s.nodes i blank_node) V.tables
      ∙ (get_or_past_over i (node_table 0 0 xs) old.nodes blank_node (omega (arith, V.low, length-nodes 0 0 xs))
      ∙ (ap (λ s. get_or s.nodes i blank_node) (sym B)
      ∙ (get_or_append_left (node_table 0 0 ls) (drop (length (node_table 0 0 ls)) old.nodes) blank_node i (omega (arith, length-nodes 0 0 ls))
      ∙ node_at 0 0 T A ls i blank_node h (omega arith) (omega arith))))

  pub line-here : line new.terms new.alternatives (get_or new.nodes i blank_node) ≡ l
  line-here = ap (line new.terms new.alternatives) node-here ∙ line-of_node new.terms new.alternatives T A l terms-here alternatives-here

  -- the node fits as soon as Q holds of every line before it
  pub fit-here : (Q : ℕ → Type 0) → ((j : ℕ) → j < i → Q j) → (t a : ℕ) → t ≤ T → a ≤ A → length old.terms < 2 ^ 32 → length old.alternatives < 2 ^ 32 → Below i l
      → Fit Q new.terms new.alternatives t a (get_or new.nodes i blank_node)
  fit-here Q q t a p r few_terms few_alternatives b =
      subst (Fit Q new.terms new.alternatives t a) (sym node-here)
      (fit-node i Q q new.terms new.alternatives t a T A p r (omega (arith, terms-long)) (omega (arith, alternatives-long)) l b terms-fit alternatives-fit terms-here alternatives-here)
