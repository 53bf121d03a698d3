-- No line gets longer: a simplified formula has no more lines, terms and alternatives.
use Rattle.std.proofs.Common.{◌≡◌, ℕ, ◌-◌, ◌≤◌, Bool, true, false, cond, not, eqb, ltb, List, [], ◌∷◌, ◌++◌, map, length, filter, sym, refl, ap, ◌∙◌, arith}
use Rattle.std.proofs.lemmas.List.{length-append, length-map, map-append}
use Rattle.std.proofs.lemmas.List.Sums.{length-filter, count_by-le-length}
use Rattle.formulas.specs.declared.node.Term.{Term}
use Rattle.formulas.specs.Lines.{Sort, state, dist, Line, constant, both, non, step, sum, Formula}
use Rattle.formulas.specs.Layout.{terms_in, alternatives_in, term_table, alternative_table}
use Rattle.simplification.specs.Simplify.{coefficients, Tone, yes, no, neither, tone_of, is_no, is_neither, Outcome, non_line, step_line, alternatives_left, has_yes, retarget, terms_left, yes_part, kept, place, renumber, compact, settle}
use Rattle.simplification.specs.Laws.{FillsLaw}
use Rattle.simplification.specs.Settling.{both_left, leaves, left_lines}
use Rattle.simplification.proofs.Outcomes.{Ordered, outcome, lines-length}
use Rattle.simplification.proofs.Prune.{rank-small, pruned_length}
use Rattle.simplification.proofs.Forms.{fitting_ordered}
use Rattle.simplification.proofs.Leaving.{simplify-left}
use Rattle.simplification.proofs.Laid.{table-shorter, table-compact}

-- in the first pass
module _ (E : ℕ → Outcome) where
  map-few : {X Y : Type 0} (f : X → Y) (p : X → Bool) (xs : List X) → length (map f (filter p xs)) ≤ length xs
  map-few f p xs = omega (arith, length-map (filter p xs) f, length-filter p xs, count_by-le-length p xs)

  both_none : (σ : Sort) (o p : Tone) (i j : ℕ) → (terms_in (both_left σ o p i j) ≡ []) × (alternatives_in (both_left σ o p i j) ≡ [])
  both_none σ yes yes i j = (refl, refl)
  both_none σ yes no i j = (refl, refl)
  both_none σ yes neither i j = (refl, refl)
  both_none σ no p i j = (refl, refl)
  both_none σ neither yes i j = (refl, refl)
  both_none σ neither no i j = (refl, refl)
  both_none σ neither neither i j = (refl, refl)

  non-none : (σ : Sort) (o : Tone) (i : ℕ) → (terms_in (non_line σ o i) ≡ []) × (alternatives_in (non_line σ o i) ≡ [])
  non-none σ yes i = (refl, refl)
  non-none σ no i = (refl, refl)
  non-none σ neither i = (refl, refl)

  step-sizes : (b : Bool) (a : ℕ) (ms hs : List ℕ) → (terms_in (cond b (constant state true) (step_line a ms hs)) ≡ [])
      × (length (alternatives_in (cond b (constant state true) (step_line a ms hs))) ≤ length (ms ++ hs))
  step-sizes true a ms hs = (refl, omega arith)
  step-sizes false a [] [] = (refl, omega arith)
  step-sizes false a [] (h ∷ hs) = (refl, omega arith)
  step-sizes false a (m ∷ ms) hs = (refl, omega arith)

  sum-sizes : (b c : Bool) (t : ℕ) (ks : List Term) → (length (terms_in (cond b (constant dist true) (cond c (constant dist false) (sum t ks)))) ≤ length ks)
      × (alternatives_in (cond b (constant dist true) (cond c (constant dist false) (sum t ks))) ≡ [])
  sum-sizes true c t ks = (omega arith, refl)
  sum-sizes false true t ks = (omega arith, refl)
  sum-sizes false false t ks = (omega arith, refl)

  fewer-terms : (l : Line) → length (terms_in (leaves E l)) ≤ length (terms_in l)
  fewer-terms (constant σ b) = omega arith
  fewer-terms (both σ i j) = omega (arith, ap length (both_none σ (tone_of E i) (tone_of E j) (E i).to (E j).to).0)
  fewer-terms (non σ i) = omega (arith, ap length (non-none σ (tone_of E i) (E i).to).0)
  fewer-terms (step a ms hs) = omega (arith, ap length (step-sizes (has_yes E hs) a (alternatives_left E ms) (alternatives_left E hs)).0)
  fewer-terms (sum t ks) =
      let u = t - yes_part E ks in
      let left = terms_left E ks in
      omega (arith, (sum-sizes (eqb u 0) (ltb (coefficients left) u) u left).0, map-few (retarget (λ j. (E j).to)) (λ k. is_neither (tone_of E k.node)) ks)

  fewer-alternatives : (l : Line) → length (alternatives_in (leaves E l)) ≤ length (alternatives_in l)
  fewer-alternatives (constant σ b) = omega arith
  fewer-alternatives (both σ i j) = omega (arith, ap length (both_none σ (tone_of E i) (tone_of E j) (E i).to (E j).to).1)
  fewer-alternatives (non σ i) = omega (arith, ap length (non-none σ (tone_of E i) (E i).to).1)
  fewer-alternatives (step a ms hs) =
      omega (
        arith,
        (step-sizes (has_yes E hs) a (alternatives_left E ms) (alternatives_left E hs)).1,
        length-append (alternatives_left E ms) (alternatives_left E hs),
        length-append ms hs,
        map-few (λ d. (E d).to) (λ d. not (is_no (tone_of E d))) ms,
        map-few (λ d. (E d).to) (λ d. not (is_no (tone_of E d))) hs,
      )
  fewer-alternatives (sum t ks) =
      let u = t - yes_part E ks in
      let left = terms_left E ks in
      omega (arith, ap length (sum-sizes (eqb u 0) (ltb (coefficients left) u) u left).1)

  pub left-terms : (ls : List Line) → length (term_table (map (leaves E) ls)) ≤ length (term_table ls)
  left-terms = table-shorter terms_in term_table refl (λ x xs. refl) (leaves E) fewer-terms

  pub left-alternatives : (ls : List Line) → length (alternative_table (map (leaves E) ls)) ≤ length (alternative_table ls)
  left-alternatives = table-shorter alternatives_in alternative_table refl (λ x xs. refl) (leaves E) fewer-alternatives

-- under other numbers
module _ (f : ℕ → ℕ) where
  renumber-terms : (l : Line) → length (terms_in (renumber f l)) ≡ length (terms_in l)
  renumber-terms (constant σ b) = refl
  renumber-terms (both σ i j) = refl
  renumber-terms (non σ i) = refl
  renumber-terms (step a ms hs) = refl
  renumber-terms (sum t ks) = length-map ks (retarget f)

  renumber-alternatives : (l : Line) → length (alternatives_in (renumber f l)) ≡ length (alternatives_in l)
  renumber-alternatives (constant σ b) = refl
  renumber-alternatives (both σ i j) = refl
  renumber-alternatives (non σ i) = refl
  renumber-alternatives (step a ms hs) = ap length (sym (map-append f ms hs)) ∙ length-map (ms ++ hs) f
  renumber-alternatives (sum t ks) = refl

-- in the third pass
module _ (keep : ℕ → Bool) (f : ℕ → ℕ) (k : ℕ) (ls : List Line) where
  pub compact-terms : length (term_table (compact keep f k ls)) ≤ length (term_table ls)
  compact-terms = table-compact terms_in term_table refl (λ x xs. refl) keep f (renumber-terms f) k ls

  pub compact-alternatives : length (alternative_table (compact keep f k ls)) ≤ length (alternative_table ls)
  compact-alternatives = table-compact alternatives_in alternative_table refl (λ x xs. refl) keep f (renumber-alternatives f) k ls

pub fewer : FillsLaw
fewer F w =
    let ls : List Line = F.lines in
    let o : Ordered ls = fitting_ordered ls w.lines in
    let E : ℕ → Outcome = outcome ls in
    let G : Formula = record { lines = left_lines ls; root = (E F.root).to } in
    let is = ap (λ (x : Formula). x.lines) (simplify-left ls F.root o w.root.before) in
    record {
      nodes = omega (arith, pruned_length (settle F), rank-small (kept (settle F)) (length (settle F).lines), lines-length ls);
      terms = omega (arith, ap (λ xs. length (term_table xs)) is, compact-terms (kept G) (place G) 0 (left_lines ls), left-terms E ls);
      alternatives = omega (arith, ap (λ xs. length (alternative_table xs)) is, compact-alternatives (kept G) (place G) 0 (left_lines ls), left-alternatives E ls);
    }
