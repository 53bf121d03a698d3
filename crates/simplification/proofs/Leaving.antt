-- What stands at the place of a line after the first pass.
use Rattle.std.proofs.Common.{◌≡◌, ℕ, ◌-◌, ◌<◌, Bool, true, false, cond, not, eqb, ltb, List, [], ◌∷◌, ◌++◌, map, length, sym, refl, ap, ◌∙◌, ap₂, arith}
use Rattle.std.specs.List.{AllByRecursion}
use Rattle.std.proofs.lemmas.List.{length-map, get_or-map}
use Rattle.std.proofs.ByRecursion.{All-weaker}
use Rattle.formulas.specs.declared.node.Term.{Term}
use Rattle.formulas.specs.Lines.{Sort, state, dist, Line, constant, both, non, step, sum}
use Rattle.formulas.specs.WellFormed.{line_at}
use Rattle.simplification.specs.Simplify.{parts, coefficients, Tone, yes, no, neither, tone, tone_of, is_yes, is_no, is_neither, Outcome, both_outcome, non_line, step_line, sum_line, alternatives_left, has_yes, retarget, terms_left, yes_part, became, prune, simplify}
use Rattle.simplification.specs.Settling.{both_left, leaves, left_lines}
use Rattle.simplification.proofs.Lists.{all-front, all_back, all_of_map, any_same, map-kept_same, kept_same}
use Rattle.simplification.proofs.Outcomes.{Ordered, outcome, outcome-at, placed, shrunk-parts}
use Rattle.simplification.proofs.InPlace.{simplify_by}

-- numbers and tones agree: what is left goes by them
module _ (E E' : ℕ → Outcome) where
  pub record Alike (j : ℕ) : Type 0 where
    pub number : (E j).to ≡ (E' j).to
    pub same : tone (E j).line ≡ tone (E' j).line

  left-alike : (ds : List ℕ) → AllByRecursion Alike ds → alternatives_left E ds ≡ alternatives_left E' ds
  left-alike ds h =
      map-kept_same (λ d. (E d).to) (λ d. (E' d).to) (λ d. not (is_no (tone_of E d))) (λ d. not (is_no (tone_of E' d))) ds
      (All-weaker Alike (λ d. (not (is_no (tone_of E d)) ≡ not (is_no (tone_of E' d))) × ((E d).to ≡ (E' d).to))
      (λ d e. (ap (λ (o : Tone). not (is_no o)) e.same, e.number)) ds h)

  yes-alike : (ds : List ℕ) → AllByRecursion Alike ds → has_yes E ds ≡ has_yes E' ds
  yes-alike ds h =
      any_same (λ d. is_yes (tone_of E d)) (λ d. is_yes (tone_of E' d)) ds
      (All-weaker Alike (λ d. is_yes (tone_of E d) ≡ is_yes (tone_of E' d)) (λ d e. ap is_yes e.same) ds h)

  terms-alike : (ks : List Term) → AllByRecursion (λ k. Alike k.node) ks → terms_left E ks ≡ terms_left E' ks
  terms-alike ks h =
      map-kept_same (retarget (λ j. (E j).to)) (retarget (λ j. (E' j).to)) (λ k. is_neither (tone_of E k.node)) (λ k. is_neither (tone_of E' k.node)) ks
      (All-weaker (λ k. Alike k.node)
      (λ k. (is_neither (tone_of E k.node) ≡ is_neither (tone_of E' k.node)) × (retarget (λ j. (E j).to) k ≡ retarget (λ j. (E' j).to) k))
      (λ k e. (ap is_neither e.same, λ i. record { coefficient = k.coefficient; node = e.number i })) ks h)

  part-alike : (ks : List Term) → AllByRecursion (λ k. Alike k.node) ks → yes_part E ks ≡ yes_part E' ks
  part-alike ks h =
      ap coefficients (kept_same (λ k. is_yes (tone_of E k.node)) (λ k. is_yes (tone_of E' k.node)) ks
      (All-weaker (λ k. Alike k.node) (λ k. is_yes (tone_of E k.node) ≡ is_yes (tone_of E' k.node)) (λ k e. ap is_yes e.same) ks h))

  pub leaves_alike : (l : Line) → AllByRecursion Alike (parts l) → leaves E l ≡ leaves E' l
  leaves_alike (constant σ b) h = refl
  leaves_alike (both σ i j) h = λ x. both_left σ (h.0.same x) (h.1.0.same x) (h.0.number x) (h.1.0.number x)
  leaves_alike (non σ i) h = ap₂ (λ (o : Tone) (j : ℕ). non_line σ o j) h.0.same h.0.number
  leaves_alike (step a ms hs) h =
      let m = left-alike ms (all-front Alike ms hs h) in
      let e = left-alike hs (all_back Alike ms hs h) in
      let y = yes-alike hs (all_back Alike ms hs h) in
      λ i. cond (y i) (constant state true) (step_line a (m i) (e i))
  leaves_alike (sum t ks) h =
      let g = all_of_map Alike (λ k. k.node) ks h in
      let k = terms-alike ks g in
      let y = part-alike ks g in
      λ i. sum_line (t - y i) (k i)

  both-number : (n : ℕ) (σ : Sort) (o p : Tone) (a b a' b' : Outcome) → a.to ≡ a'.to → b.to ≡ b'.to
      → (both_outcome n σ o p a b).to ≡ (both_outcome n σ o p a' b').to
  both-number n σ yes yes a b a' b' x y = refl
  both-number n σ yes no a b a' b' x y = refl
  both-number n σ yes neither a b a' b' x y = y
  both-number n σ no p a b a' b' x y = refl
  both-number n σ neither yes a b a' b' x y = x
  both-number n σ neither no a b a' b' x y = refl
  both-number n σ neither neither a b a' b' x y = refl

  pub number-alike : (n : ℕ) (l : Line) → AllByRecursion Alike (parts l) → (became n E l).to ≡ (became n E' l).to
  number-alike n (constant σ b) h = refl
  number-alike n (both σ i j) h =
      ap₂ (λ (o p : Tone). (both_outcome n σ o p (E i) (E j)).to) h.0.same h.1.0.same
      ∙ both-number n σ (tone_of E' i) (tone_of E' j) (E i) (E j) (E' i) (E' j) h.0.number h.1.0.number
  number-alike n (non σ i) h = refl
  number-alike n (step a ms hs) h = refl
  number-alike n (sum t ks) h = refl

-- a line that stands for itself is what is left at its place
module _ (n : ℕ) (E : ℕ → Outcome) where
  both_own : (σ : Sort) (o p : Tone) (a b : Outcome) → a.to < n → b.to < n → (both_outcome n σ o p a b).to ≡ n → (both_outcome n σ o p a b).line ≡ both_left σ o p a.to b.to
  both_own σ yes yes a b x y e = refl
  both_own σ yes no a b x y e = refl
  both_own σ yes neither a b x y e = absurd (omega arith)
  both_own σ no p a b x y e = refl
  both_own σ neither yes a b x y e = absurd (omega arith)
  both_own σ neither no a b x y e = refl
  both_own σ neither neither a b x y e = refl

  own-leaves : (l : Line) → AllByRecursion (λ j. (E j).to < n) (parts l) → (became n E l).to ≡ n → (became n E l).line ≡ leaves E l
  own-leaves (constant σ b) h e = refl
  own-leaves (both σ i j) h e = both_own σ (tone_of E i) (tone_of E j) (E i) (E j) h.0 h.1.0 e
  own-leaves (non σ i) h e = refl
  own-leaves (step a ms hs) h e = refl
  own-leaves (sum t ks) h e = refl

-- the parts of what is left
module _ (E : ℕ → Outcome) (P : ℕ → Type 0) where
  both-parts : (σ : Sort) (o p : Tone) (i j : ℕ) → P i → P j → AllByRecursion P (parts (both_left σ o p i j))
  both-parts σ yes yes i j x y = tt
  both-parts σ yes no i j x y = tt
  both-parts σ yes neither i j x y = tt
  both-parts σ no p i j x y = tt
  both-parts σ neither yes i j x y = tt
  both-parts σ neither no i j x y = tt
  both-parts σ neither neither i j x y = (x, (y, tt))

  non-parts : (σ : Sort) (o : Tone) (i : ℕ) → P i → AllByRecursion P (parts (non_line σ o i))
  non-parts σ yes i x = tt
  non-parts σ no i x = tt
  non-parts σ neither i x = (x, tt)

  step-parts : (b : Bool) (a : ℕ) (ms hs : List ℕ) → AllByRecursion P (ms ++ hs) → AllByRecursion P (parts (cond b (constant state true) (step_line a ms hs)))
  step-parts true a ms hs x = tt
  step-parts false a [] [] x = tt
  step-parts false a [] (h ∷ hs) x = x
  step-parts false a (m ∷ ms) hs x = x

  sum-parts : (b c : Bool) (t : ℕ) (ks : List Term) → AllByRecursion P (map (λ k. k.node) ks) → AllByRecursion P (parts (cond b (constant dist true) (cond c (constant dist false) (sum t ks))))
  sum-parts true c t ks x = tt
  sum-parts false true t ks x = tt
  sum-parts false false t ks x = x

  pub leaves-parts : (l : Line) → AllByRecursion (λ j. P (E j).to) (parts l) → AllByRecursion P (parts (leaves E l))
  leaves-parts (constant σ b) h = tt
  leaves-parts (both σ i j) h = both-parts σ (tone_of E i) (tone_of E j) (E i).to (E j).to h.0 h.1.0
  leaves-parts (non σ i) h = non-parts σ (tone_of E i) (E i).to h.0
  leaves-parts (step a ms hs) h = step-parts (has_yes E hs) a (alternatives_left E ms) (alternatives_left E hs) (shrunk-parts E P (step a ms hs) h)
  leaves-parts (sum t ks) h =
      let u = t - yes_part E ks in
      let left = terms_left E ks in
      sum-parts (eqb u 0) (ltb (coefficients left) u) u left (shrunk-parts E P (sum t ks) h)

-- what is left of a line that its users find at its own place is what became of it
pub left-own : (ls : List Line) → Ordered ls → (i : ℕ) → i < length ls → (outcome ls i).to ≡ i → line_at (left_lines ls) i ≡ (outcome ls i).line
left-own ls o i h own =
    let E : ℕ → Outcome = outcome ls in
    let at = outcome-at ls o i h in
    let before = All-weaker (λ j. j < i) (λ j. (E j).to < i) (λ j q. omega (arith, (placed ls o j (omega arith)).near)) (parts (line_at ls i)) (o i h) in
    get_or-map (leaves E) ls i (constant state true) (constant state true) h
    ∙ (sym (own-leaves i E (line_at ls i) before (ap (λ x. x.to) (sym at) ∙ own)) ∙ ap (λ x. x.line) (sym at))

-- so what is left simplifies to the same
pub simplify-left : (ls : List Line) (root : ℕ) → Ordered ls → root < length ls
    → simplify (record { lines = ls; root = root }) ≡ prune (record { lines = left_lines ls; root = (outcome ls root).to })
simplify-left ls root o h =
    simplify_by (record { lines = ls; root = root }) o h (left_lines ls) (length-map ls (leaves (outcome ls))) (left-own ls o)
