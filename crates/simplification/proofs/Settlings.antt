-- The first pass, node after node.
use Rattle.std.proofs.Common.{◌≡◌, ℕ, ◌+◌, ◌<◌, ◌≤◌, true, List, [], ◌∷◌, ◌++◌, map, length, get_or, take, drop, set, sym, refl, ap, ◌∙◌, subst, ap₂, arith}
use Rattle.std.specs.List.{AllByRecursion}
use Rattle.std.proofs.lemmas.List.{length-map, length-take-le, get_or_append_left, get_or-map, get_or-take, take-map, take_more, take_all}
use Rattle.std.proofs.ByRecursion.{All-weaker}
use Rattle.formulas.specs.Lines.{state, Line, constant, line}
use Rattle.formulas.specs.Layout.{node, node_table, term_table, alternative_table}
use Rattle.formulas.specs.Tables.{Slots, over, laid}
use Rattle.formulas.specs.WellFormed.{line_at}
use Rattle.simplification.specs.Simplify.{parts, tone, Outcome, became, blank, outcomes}
use Rattle.simplification.specs.Tables.{blank_node}
use Rattle.simplification.specs.Packed.{all_lines, Packed}
use Rattle.simplification.specs.Moving.{Fit}
use Rattle.simplification.specs.Settling.{glance, leaves, Led, SettledAt, left_lines, left_numbers}
use Rattle.simplification.proofs.Lists.{grown-length}
use Rattle.simplification.proofs.Outcomes.{Ordered, outcome, outcome-at, Placed, placed}
use Rattle.simplification.proofs.Puts.{over_set, length_over}
use Rattle.simplification.proofs.Laid.{length-nodes, node_at, tone-of_node, formed-ordered, AtFront, front_push}
use Rattle.simplification.proofs.Here.{terms-before, alternatives-before, Overlaid, fit-here, line-here}
use Rattle.simplification.proofs.Leaving.{Alike, leaves_alike, number-alike, left-own}
use Rattle.simplification.proofs.Fewer.{left-terms, left-alternatives}

-- after i lines were settled, with t terms and a alternatives left: the rest is as it was
pub record Settling (ls : List Line) (s : Slots) (to : List ℕ) (i t a : ℕ) (s' : Slots) (to' : List ℕ) : Type 0 where
  pub front : AtFront s (take i (left_lines ls)) s' t a
  pub numbers : to' ≡ over (take i (left_numbers ls)) to

module _ (s₀ : Slots) (P : Packed s₀) (to₀ : List ℕ) (room : length s₀.nodes ≤ length to₀) (i t a : ℕ) (s : Slots) (to : List ℕ)
    (S : Settling (all_lines s₀) s₀ to₀ i t a s to) (here : i < length s₀.nodes) where
  abbrev ls : List Line
  ls = all_lines s₀

  abbrev O : ℕ → Outcome
  O = outcome ls

  abbrev left : List Line
  left = take i (left_lines ls)

  abbrev T : ℕ
  T = terms-before ls i

  abbrev A : ℕ
  A = alternatives-before ls i

  abbrev l : Line
  l = line_at ls i

  long : length ls ≡ length s₀.nodes
  long = length-map s₀.nodes (line s₀.terms s₀.alternatives)

  h : i < length ls
  h = omega (arith, long)

  o : Ordered ls
  o = formed-ordered ls P.formed

  numbers-count : length (left_numbers ls) ≡ length ls
  numbers-count = length-map (outcomes ls) (λ x. x.to) ∙ (grown-length blank became [] ls ∙ omega arith)

  left_is : left ≡ map (leaves O) (take i ls)
  left_is = take-map (leaves O) i ls

  left-long : length left ≡ i
  left-long = ap length left_is ∙ (length-map (take i ls) (leaves O) ∙ length-take-le i ls (omega (arith, h)))

  t_low : t ≤ T
  t_low = omega (arith, S.front.term, ap (λ xs. length (term_table xs)) left_is, left-terms O (take i ls))

  a_low : a ≤ A
  a_low = omega (arith, S.front.alternative, ap (λ xs. length (alternative_table xs)) left_is, left-alternatives O (take i ls))

  overlaid : Overlaid ls i s₀ left s
  overlaid = record {
    tables = S.front.tables;
    low = omega (arith, left-long);
    low_term = omega (arith, t_low, S.front.term);
    low_alternative = omega (arith, a_low, S.front.alternative);
  }

  at-line : line s.terms s.alternatives (get_or s.nodes i blank_node) ≡ l
  at-line = line-here ls s₀ P.laid_out i h left s overlaid

  -- the lines before it
  number_at : (j : ℕ) → j < i → get_or to j 0 ≡ (O j).to
  number_at j g =
      let before = take i (left_numbers ls) in
      let len : length before ≡ i = length-take-le i (left_numbers ls) (omega (arith, numbers-count, h)) in
      ap (λ xs. get_or xs j 0) S.numbers
      ∙ (get_or_append_left before (drop (length before) to₀) 0 j (omega (arith, len))
      ∙ (get_or-take i (left_numbers ls) j 0 g
      ∙ get_or-map (λ x. x.to) (outcomes ls) j blank 0 (omega (arith, length-map (outcomes ls) (λ x. x.to), numbers-count, h))))

  near : (j : ℕ) → j < i → Placed O j (O j)
  near j g = placed ls o j (omega (arith, h))

  nodes-long : length s.nodes ≡ length s₀.nodes
  nodes-long = ap (λ x. length x.nodes) S.front.tables ∙ length_over (node_table 0 0 left) s₀.nodes (omega (arith, length-nodes 0 0 left, left-long))

  numbers-long : length to ≡ length to₀
  numbers-long =
      ap length S.numbers ∙ length_over (take i (left_numbers ls)) to₀ (omega (arith, length-take-le i (left_numbers ls) (omega (arith, numbers-count, h))))

  led : (j : ℕ) → j < i → Led s.nodes to j
  led j g = (omega (arith, numbers-long), omega (arith, number_at j g, (near j g).near, nodes-long))

  pub settling_fits : Fit (Led s.nodes to) s.terms s.alternatives t a (get_or s.nodes i blank_node)
  settling_fits = fit-here ls s₀ P.laid_out i h left s overlaid (Led s.nodes to) led t a t_low a_low P.few_terms P.few_alternatives (P.formed i h)

  -- what is left of the lines before it has their tones
  alike : (j : ℕ) → j < i → Alike (glance s.nodes to) O j
  alike j g =
      let p = (O j).to in
      let pl = near j g in
      let pi : p < i = omega (arith, pl.near) in
      let own : (O p).to ≡ p = ap (λ x. x.to) pl.stable in
      let inside : p < length ls = omega (arith, h) in
      let there : line_at left p ≡ (O j).line =
      get_or-take i (left_lines ls) p (constant state true) pi ∙ (left-own ls o p inside own ∙ ap (λ x. x.line) pl.stable) in
      let t' = 0 + length (term_table (take p left)) in
      let a' = 0 + length (alternative_table (take p left)) in
      let found : get_or s.nodes p blank_node ≡ node t' a' (line_at left p) =
      ap (λ x. get_or x.nodes p blank_node) S.front.tables
      ∙ (get_or_append_left (node_table 0 0 left) (drop (length (node_table 0 0 left)) s₀.nodes) blank_node p (omega (arith, length-nodes 0 0 left, left-long))
      ∙ node_at 0 0 t' a' left p blank_node (omega (arith, left-long)) refl refl) in
      record {
        number = number_at j g;
        same =
            ap (λ k. tone (line [] [] (get_or s.nodes k blank_node))) (number_at j g)
            ∙ (ap (λ n. tone (line [] [] n)) found ∙ (tone-of_node t' a' (line_at left p) ∙ ap tone there));
      }

  all_alike : AllByRecursion (Alike (glance s.nodes to) O) (parts l)
  all_alike = All-weaker (λ j. j < i) (Alike (glance s.nodes to) O) alike (parts l) (o i h)

  next : take (i + 1) (left_lines ls) ≡ left ++ (leaves O l ∷ [])
  next =
      take_more (left_lines ls) i (leaves O (constant state true)) (omega (arith, h, length-map ls (leaves O)))
      ∙ ap (λ x. left ++ (x ∷ [])) (get_or-map (leaves O) ls i (constant state true) (leaves O (constant state true)) h)

  pub turn : (t' a' : ℕ) (s' : Slots) (to' : List ℕ) → SettledAt i t a s to t' a' s' to' → Settling ls s₀ to₀ (i + 1) t' a' s' to'
  turn t' a' s' to' r =
      let E = glance s.nodes to in
      let now : leaves E (line s.terms s.alternatives (get_or s.nodes i blank_node)) ≡ leaves O l = ap (leaves E) at-line ∙ leaves_alike E O l all_alike in
      let number : get_or to' i 0 ≡ (O i).to =
      r.number ∙ (ap (λ x. (became i E x).to) at-line ∙ (number-alike E O i l all_alike ∙ ap (λ x. x.to) (sym (outcome-at ls o i h)))) in
      let before = take i (left_numbers ls) in
      let blen : length before ≡ i = length-take-le i (left_numbers ls) (omega (arith, numbers-count, h)) in
      let more : take (i + 1) (left_numbers ls) ≡ before ++ ((O i).to ∷ []) =
      take_more (left_numbers ls) i 0 (omega (arith, numbers-count, h))
      ∙ ap (λ n. before ++ (n ∷ [])) (get_or-map (λ x. x.to) (outcomes ls) i blank 0 (omega (arith, length-map (outcomes ls) (λ x. x.to), numbers-count, h))) in
      record {
        front =
            subst (λ xs. AtFront s₀ xs s' t' a') (sym next)
            (front_push s₀ left (leaves O l) (leaves E (line s.terms s.alternatives (get_or s.nodes i blank_node))) i t a s s' (get_or s'.nodes i blank_node) t' a' S.front left-long here now r.nodes r.laid);
        numbers =
            r.numbers
            ∙ (ap₂ (λ (xs : List ℕ) (n : ℕ). set xs i n) S.numbers number
            ∙ (ap (λ k. set (over before to₀) k (O i).to) (sym blen)
            ∙ (over_set before to₀ (O i).to (omega (arith, blen)) ∙ ap (λ xs. over xs to₀) (sym more))));
      }

pub settled : (s : Slots) (to : List ℕ) (i t a : ℕ) (s' : Slots) (to' : List ℕ) → Settling (all_lines s) s to i t a s' to' → length s.nodes ≤ i
    → (s' ≡ laid (left_lines (all_lines s)) s) × (to' ≡ over (left_numbers (all_lines s)) to)
settled s to i t a s' to' S h =
    let ls = all_lines s in
    let long : length ls ≡ length s.nodes = length-map s.nodes (line s.terms s.alternatives) in
    let lines : take i (left_lines ls) ≡ left_lines ls = take_all i (left_lines ls) (omega (arith, long, length-map ls (leaves (outcome ls)))) in
    let numbers : take i (left_numbers ls) ≡ left_numbers ls = take_all i (left_numbers ls) (omega (arith, long, length-map (outcomes ls) (λ x. x.to), grown-length blank became [] ls)) in
    (S.front.tables ∙ ap (λ xs. laid xs s) lines, S.numbers ∙ ap (λ xs. over xs to) numbers)
