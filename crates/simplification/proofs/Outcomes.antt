-- What becomes of lines: it goes by their parts, and every stand-in stands for itself.
use Rattle.std.proofs.Common.{◌≡◌, ℕ, ◌-◌, ◌<◌, ◌≤◌, Bool, true, false, cond, not, eqb, ltb, List, [], ◌∷◌, ◌++◌, map, length, get_or, filter, sym, refl, ap, ◌∙◌, subst, ap₂, arith}
use lib.ListN.{get_or-map}
use Rattle.std.specs.List.{AllByRecursion}
use Rattle.std.proofs.lemmas.List.{length-map}
use Rattle.std.proofs.ByRecursion.{All-weaker, All-append, All-map, all_kept_by}
use Rattle.formulas.specs.declared.node.Term.{Term}
use Rattle.formulas.specs.Lines.{Sort, state, dist, Line, constant, both, non, step, sum, sort}
use Rattle.formulas.specs.WellFormed.{line_at}
use Rattle.simplification.specs.Simplify.{parts, coefficients, Tone, yes, no, neither, tone, tone_of, is_yes, is_no, is_neither, Outcome, own, both_outcome, non_line, step_line, sum_line, alternatives_left, has_yes, retarget, terms_left, yes_part, became, blank, outcomes}
use Rattle.std.proofs.lemmas.Bool.{eqb-false, ltb-false}
use Rattle.simplification.proofs.Lists.{all-front, all_back, all_of_map, any_same, map-kept_same, kept_same, strong, grown-at, grown-length}

-- what becomes of a line goes by what became of its parts
module _ (E E' : ℕ → Outcome) where
  left-same : (ds : List ℕ) → AllByRecursion (λ j. E j ≡ E' j) ds → alternatives_left E ds ≡ alternatives_left E' ds
  left-same ds h =
      map-kept_same (λ d. (E d).to) (λ d. (E' d).to) (λ d. not (is_no (tone_of E d))) (λ d. not (is_no (tone_of E' d))) ds
      (All-weaker (λ j. E j ≡ E' j) (λ d. (not (is_no (tone_of E d)) ≡ not (is_no (tone_of E' d))) × ((E d).to ≡ (E' d).to))
      (λ d e. (ap (λ (o : Outcome). not (is_no (tone o.line))) e, ap (λ (o : Outcome). o.to) e)) ds h)

  has_yes-same : (ds : List ℕ) → AllByRecursion (λ j. E j ≡ E' j) ds → has_yes E ds ≡ has_yes E' ds
  has_yes-same ds h =
      any_same (λ d. is_yes (tone_of E d)) (λ d. is_yes (tone_of E' d)) ds
      (All-weaker (λ j. E j ≡ E' j) (λ d. is_yes (tone_of E d) ≡ is_yes (tone_of E' d)) (λ d e. ap (λ (o : Outcome). is_yes (tone o.line)) e) ds h)

  terms-same : (ks : List Term) → AllByRecursion (λ k. E k.node ≡ E' k.node) ks → terms_left E ks ≡ terms_left E' ks
  terms-same ks h =
      map-kept_same (retarget (λ j. (E j).to)) (retarget (λ j. (E' j).to)) (λ k. is_neither (tone_of E k.node)) (λ k. is_neither (tone_of E' k.node)) ks
      (All-weaker (λ k. E k.node ≡ E' k.node)
      (λ k. (is_neither (tone_of E k.node) ≡ is_neither (tone_of E' k.node)) × (retarget (λ j. (E j).to) k ≡ retarget (λ j. (E' j).to) k))
      (λ k e. (ap (λ (o : Outcome). is_neither (tone o.line)) e, λ i. record { coefficient = k.coefficient; node = (e i).to })) ks h)

  yes_part-same : (ks : List Term) → AllByRecursion (λ k. E k.node ≡ E' k.node) ks → yes_part E ks ≡ yes_part E' ks
  yes_part-same ks h =
      ap coefficients (kept_same (λ k. is_yes (tone_of E k.node)) (λ k. is_yes (tone_of E' k.node)) ks
      (All-weaker (λ k. E k.node ≡ E' k.node) (λ k. is_yes (tone_of E k.node) ≡ is_yes (tone_of E' k.node))
      (λ k e. ap (λ (o : Outcome). is_yes (tone o.line)) e) ks h))

  became-same : (n : ℕ) (l : Line) → AllByRecursion (λ j. E j ≡ E' j) (parts l) → became n E l ≡ became n E' l
  became-same n (constant σ b) h = refl
  became-same n (both σ i j) h = ap₂ (λ (a b : Outcome). both_outcome n σ (tone a.line) (tone b.line) a b) h.0 h.1.0
  became-same n (non σ i) h = ap (λ (a : Outcome). own n (non_line σ (tone a.line) a.to)) h.0
  became-same n (step a ms hs) h =
      let m = left-same ms (all-front (λ j. E j ≡ E' j) ms hs h) in
      let e = left-same hs (all_back (λ j. E j ≡ E' j) ms hs h) in
      let y = has_yes-same hs (all_back (λ j. E j ≡ E' j) ms hs h) in
      λ i. own n (cond (y i) (constant state true) (step_line a (m i) (e i)))
  became-same n (sum t ks) h =
      let g = all_of_map (λ j. E j ≡ E' j) (λ k. k.node) ks h in
      let k = terms-same ks g in
      let y = yes_part-same ks g in
      λ i. own n (sum_line (t - y i) (k i))

-- the sort that the parts of a line have
abbrev pub wants : Line → Sort
wants (constant σ b) = σ
wants (both σ i j) = σ
wants (non σ i) = σ
wants (step a ms hs) = dist
wants (sum t ks) = state

-- the parts of every line stand before it
abbrev pub Ordered : List Line → Type 0
Ordered ls = (i : ℕ) → i < length ls → AllByRecursion (λ j. j < i) (parts (line_at ls i))

abbrev pub outcome : List Line → ℕ → Outcome
outcome ls j = get_or (outcomes ls) j blank

pub outcome-at : (ls : List Line) → Ordered ls → (i : ℕ) → i < length ls → outcome ls i ≡ became i (outcome ls) (line_at ls i)
outcome-at ls o i h =
    grown-at blank became (λ n l. AllByRecursion (λ j. j < n) (parts l))
    (λ n T T' l same b. became-same T T' n l (All-weaker (λ j. j < n) (λ j. T j ≡ T' j) same (parts l) b))
    (constant state true) [] ls i i (omega arith) h (o i h)

-- a line with what is left of its parts
abbrev pub shrunk : (ℕ → Outcome) → Line → Line
shrunk E (constant σ b) = constant σ b
shrunk E (both σ i j) = both σ (E i).to (E j).to
shrunk E (non σ i) = non σ (E i).to
shrunk E (step a ms hs) = step a (alternatives_left E ms) (alternatives_left E hs)
shrunk E (sum t ks) = sum (t - yes_part E ks) (terms_left E ks)

-- what is known of a line that stays of its kind
abbrev pub Stays : (ℕ → Outcome) → Line → Type 0
Stays E (constant σ b) = ⊥
Stays E (both σ i j) = tone_of E i ≡ neither
Stays E (non σ i) = tone_of E i ≡ neither
Stays E (step a ms hs) = (has_yes E hs ≡ false) × (alternatives_left E ms ++ alternatives_left E hs ≡ [] → ⊥)
Stays E (sum t ks) = (t - yes_part E ks ≡ 0 → ⊥) × (t - yes_part E ks ≤ coefficients (terms_left E ks))

cons≢nil : {X : Type 0} {x : X} {xs : List X} → x ∷ xs ≡ [] → ⊥
cons≢nil e = let z : ◌≡◌ {A = ℕ} 1 0 = ap (λ (ys : List _). elim ys [ [] ↦ 0 | y ∷ ys ↦ 1 ]) e in omega arith

-- the ways in which a line comes out
module _ (n : ℕ) (E : ℕ → Outcome) where
  pub data Turn : Line → Outcome → Type 0 where
    settled : {l : Line} (b : Bool) → Turn l (own n (constant (sort l) b))
    first : {σ : Sort} {i j : ℕ} → Turn (both σ i j) (E i)
    second : {σ : Sort} {i j : ℕ} → Turn (both σ i j) (E j)
    stays : {l : Line} → Stays E l → Turn l (own n (shrunk E l))

  both_turns : (σ : Sort) (i j : ℕ) (o p : Tone) → tone_of E i ≡ o → Turn (both σ i j) (both_outcome n σ o p (E i) (E j))
  both_turns σ i j yes yes e = settled true
  both_turns σ i j yes no e = settled false
  both_turns σ i j yes neither e = second
  both_turns σ i j no p e = settled false
  both_turns σ i j neither yes e = first
  both_turns σ i j neither no e = settled false
  both_turns σ i j neither neither e = stays {l = both σ i j} e

  non_turns : (σ : Sort) (i : ℕ) (o : Tone) → tone_of E i ≡ o → Turn (non σ i) (own n (non_line σ o (E i).to))
  non_turns σ i yes e = settled false
  non_turns σ i no e = settled true
  non_turns σ i neither e = stays {l = non σ i} e

  module _ (a : ℕ) (ms hs : List ℕ) where
    some_left : (ms' hs' : List ℕ) → has_yes E hs ≡ false → alternatives_left E ms ≡ ms' → alternatives_left E hs ≡ hs' → (ms' ++ hs' ≡ [] → ⊥)
        → Turn (step a ms hs) (own n (step a ms' hs'))
    some_left ms' hs' e p q some =
        subst (Turn (step a ms hs)) (λ i. own n (step a (p i) (q i))) (stays {l = step a ms hs} (e, λ z. some (ap₂ ◌++◌ (sym p) (sym q) ∙ z)))

    step_turns : (b : Bool) → has_yes E hs ≡ b → (ms' hs' : List ℕ) → alternatives_left E ms ≡ ms' → alternatives_left E hs ≡ hs'
        → Turn (step a ms hs) (own n (cond b (constant state true) (step_line a ms' hs')))
    step_turns true e ms' hs' p q = settled true
    step_turns false e [] [] p q = settled false
    step_turns false e [] (x ∷ hs') p q = some_left [] (x ∷ hs') e p q cons≢nil
    step_turns false e (m ∷ ms') hs' p q = some_left (m ∷ ms') hs' e p q cons≢nil

  sum_turns : (t : ℕ) (ks : List Term) (b c : Bool) → eqb (t - yes_part E ks) 0 ≡ b → ltb (coefficients (terms_left E ks)) (t - yes_part E ks) ≡ c
      → Turn (sum t ks) (own n (cond b (constant dist true) (cond c (constant dist false) (sum (t - yes_part E ks) (terms_left E ks)))))
  sum_turns t ks true c e f = settled true
  sum_turns t ks false true e f = settled false
  sum_turns t ks false false e f =
      stays {l = sum t ks} (eqb-false (t - yes_part E ks) 0 e, ltb-false (coefficients (terms_left E ks)) (t - yes_part E ks) f)

  became_turns : (l : Line) → Turn l (became n E l)
  became_turns (constant σ b) = settled b
  became_turns (both σ i j) = both_turns σ i j (tone_of E i) (tone_of E j) refl
  became_turns (non σ i) = non_turns σ i (tone_of E i) refl
  became_turns (step a ms hs) = step_turns a ms hs (has_yes E hs) refl (alternatives_left E ms) (alternatives_left E hs) refl refl
  became_turns (sum t ks) = sum_turns t ks (eqb (t - yes_part E ks) 0) (ltb (coefficients (terms_left E ks)) (t - yes_part E ks)) refl refl

-- what is left of the parts
module _ (E : ℕ → Outcome) where
  left-all : (P : ℕ → Type 0) (ds : List ℕ) → AllByRecursion (λ d. P (E d).to) ds → AllByRecursion P (alternatives_left E ds)
  left-all P ds h =
      All-map P (λ d. (E d).to) (filter (λ d. not (is_no (tone_of E d))) ds) (all_kept_by (λ d. not (is_no (tone_of E d))) (λ d. P (E d).to) ds h)

  pub shrunk-parts : (P : ℕ → Type 0) (l : Line) → AllByRecursion (λ j. P (E j).to) (parts l) → AllByRecursion P (parts (shrunk E l))
  shrunk-parts P (constant σ b) h = tt
  shrunk-parts P (both σ i j) h = h
  shrunk-parts P (non σ i) h = h
  shrunk-parts P (step a ms hs) h =
      All-append P (alternatives_left E ms) (alternatives_left E hs)
      (left-all P ms (all-front (λ j. P (E j).to) ms hs h)) (left-all P hs (all_back (λ j. P (E j).to) ms hs h))
  shrunk-parts P (sum t ks) h =
      let open-ones : List Term = filter (λ k. is_neither (tone_of E k.node)) ks in
      All-map P (λ k. k.node) (terms_left E ks)
      (All-map (λ k. P k.node) (retarget (λ j. (E j).to)) open-ones
      (all_kept_by (λ k. is_neither (tone_of E k.node)) (λ k. P (E k.node).to) ks (all_of_map (λ j. P (E j).to) (λ k. k.node) ks h)))

  pub shrunk-sort : (l : Line) → sort (shrunk E l) ≡ sort l
  shrunk-sort (constant σ b) = refl
  shrunk-sort (both σ i j) = refl
  shrunk-sort (non σ i) = refl
  shrunk-sort (step a ms hs) = refl
  shrunk-sort (sum t ks) = refl

  pub shrunk-wants : (l : Line) → wants (shrunk E l) ≡ wants l
  shrunk-wants (constant σ b) = refl
  shrunk-wants (both σ i j) = refl
  shrunk-wants (non σ i) = refl
  shrunk-wants (step a ms hs) = refl
  shrunk-wants (sum t ks) = refl

-- where the users of a line find it
module _ (E : ℕ → Outcome) where
  pub record Placed (n : ℕ) (o : Outcome) : Type 0 where
    pub near : o.to ≤ n
    pub stable : E o.to ≡ o
    pub below : AllByRecursion (λ j. j < o.to) (parts o.line)

  later : (i n : ℕ) (o : Outcome) → i < n → Placed i o → Placed n o
  later i n o h p = record { near = omega (arith, p.near); stable = p.stable; below = p.below }

  turn-placed : (n : ℕ) (l : Line) (o : Outcome) → Turn n E l o → AllByRecursion (λ j. j < n) (parts l) → ((j : ℕ) → j < n → Placed j (E j)) → E n ≡ o → Placed n o
  turn-placed n l o (settled b) h f e = record { near = omega arith; stable = e; below = tt }
  turn-placed n l o (first {i = i}) h f e = later i n (E i) h.0 (f i h.0)
  turn-placed n l o (second {j = j}) h f e = later j n (E j) h.1.0 (f j h.1.0)
  turn-placed n l o (stays s) h f e = record {
    near = omega arith;
    stable = e;
    below = shrunk-parts E (λ j. j < n) l (All-weaker (λ j. j < n) (λ j. (E j).to < n) (λ j k. omega (arith, (f j k).near)) (parts l) h);
  }

module _ (ls : List Line) (o : Ordered ls) where
  pub placed : (i : ℕ) → i < length ls → Placed (outcome ls) i (outcome ls i)
  placed = strong (λ i. i < length ls → Placed (outcome ls) i (outcome ls i)) (λ n f h.
      let e = outcome-at ls o n h in
      subst (Placed (outcome ls) n) (sym e)
      (turn-placed (outcome ls) n (line_at ls n) (became n (outcome ls) (line_at ls n)) (became_turns n (outcome ls) (line_at ls n)) (o n h) (λ j k. f j k (omega arith)) e))

  -- what holds of what becomes of a line if it holds of what became of its parts
  pub by_turns : (P : ℕ → Outcome → Type 0)
      → ((n : ℕ) → n < length ls → ((j : ℕ) → j < n → Placed (outcome ls) j (outcome ls j) × P j (outcome ls j)) → (x : Outcome) → Turn n (outcome ls) (line_at ls n) x → P n x)
      → (i : ℕ) → i < length ls → P i (outcome ls i)
  by_turns P g = strong (λ i. i < length ls → P i (outcome ls i)) (λ n f h.
      subst (P n) (sym (outcome-at ls o n h))
      (g n h (λ j k. (placed j (omega arith), f j k (omega arith))) (became n (outcome ls) (line_at ls n)) (became_turns n (outcome ls) (line_at ls n))))

-- the lines of what became
abbrev pub lines_of : List Line → List Line
lines_of ls = map (λ x. x.line) (outcomes ls)

pub lines-length : (ls : List Line) → length (lines_of ls) ≡ length ls
lines-length ls = length-map (outcomes ls) (λ x. x.line) ∙ (grown-length blank became [] ls ∙ omega arith)

pub lines_get : (ls : List Line) (i : ℕ) → line_at (lines_of ls) i ≡ (outcome ls i).line
lines_get ls i = get_or-map (λ (x : Outcome). x.line) (outcomes ls) i blank

pub lines-ordered : (ls : List Line) → Ordered ls → Ordered (lines_of ls)
lines-ordered ls o i h =
    let p = placed ls o i (omega (arith, lines-length ls)) in
    subst (λ (l : Line). AllByRecursion (λ j. j < i) (parts l)) (sym (lines_get ls i))
    (All-weaker (λ j. j < (outcome ls i).to) (λ j. j < i) (λ j k. omega (arith, p.near)) (parts (outcome ls i).line) p.below)
