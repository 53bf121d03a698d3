-- What the root does not reach is dropped, the rest is renumbered.
use Rattle.std.proofs.Common.{◌≡◌, ℕ, zero, suc, ◌+◌, ◌-◌, ◌<◌, ◌≤◌, Bool, true, false, cond, ◌||◌, eqb, ◌⊎◌, List, [], ◌∷◌, ◌++◌, map, length, sym, refl, ap, ◌∙◌, subst, ap₂, inl, inr, le_of_suc-le-suc, not-suc-le-zero, suc-add, arith}
use mathlib.Core.Bool.{or-true, false≢true}
use Rattle.std.specs.List.{AllByRecursion}
use Rattle.std.proofs.ByRecursion.{All-weaker, All-append, All-map}
use Rattle.std.proofs.lemmas.Bool.{eq-eqb, ne_eqb, eqb-true, cases_lt}
use Rattle.formulas.specs.Lines.{Line, constant, both, non, step, sum, sort, Formula}
use Rattle.formulas.specs.WellFormed.{line_at}
use Rattle.simplification.specs.Simplify.{parts, member, reached, kept, rank, place, retarget, renumber, compact, prune}
use Rattle.simplification.proofs.Lists.{all-front, all_back, all_both, all_of_map}
use Rattle.simplification.proofs.Outcomes.{wants, Ordered}

-- membership
pub member-append : (j : ℕ) (xs ys : List ℕ) → member j (xs ++ ys) ≡ (member j xs || member j ys)
member-append j [] ys = refl
member-append j (x ∷ xs) ys = go (eqb x j) (member-append j xs ys)
  where
    go : (b : Bool) → member j (xs ++ ys) ≡ (member j xs || member j ys) → (b || member j (xs ++ ys)) ≡ ((b || member j xs) || member j ys)
    go true e = refl
    go false e = e

pub member_back : (j : ℕ) (xs ys : List ℕ) → member j ys ≡ true → member j (xs ++ ys) ≡ true
member_back j xs ys h = member-append j xs ys ∙ (ap (λ (b : Bool). member j xs || b) h ∙ or-true (member j xs))

member-front : (xs ys : List ℕ) → AllByRecursion (λ j. member j (xs ++ ys) ≡ true) xs
member-front [] ys = tt
member-front (x ∷ xs) ys = (
  ap (λ (b : Bool). b || member x (xs ++ ys)) (eq-eqb x x refl),
  All-weaker (λ j. member j (xs ++ ys) ≡ true) (λ j. member j (x ∷ (xs ++ ys)) ≡ true)
      (λ j h. ap (λ (b : Bool). eqb x j || b) h ∙ or-true (eqb x j)) xs (member-front xs ys),
)

member-above : (m : ℕ) (xs : List ℕ) → AllByRecursion (λ j. j < m) xs → member m xs ≡ false
member-above m [] h = refl
member-above m (x ∷ xs) h = ap₂ ◌||◌ (ne_eqb x m (λ e. omega (arith, h.0))) (member-above m xs h.1)

pub member_get : (P : ℕ → Type 0) (xs : List ℕ) (j : ℕ) → AllByRecursion P xs → member j xs ≡ true → P j
member_get P [] j h e = absurd (false≢true e)
member_get P (x ∷ xs) j h e = go (eqb x j) refl e (member_get P xs j h.1)
  where
    go : (b : Bool) → eqb x j ≡ b → (b || member j xs) ≡ true → (member j xs ≡ true → P j) → P j
    go true q e r = subst P (eqb-true x j q) h.0
    go false q e r = r e

-- what is reached: the root, and the parts of what is reached
reached_grows : (i : ℕ) (ls : List Line) (r : List ℕ) (j : ℕ) → member j r ≡ true → member j (reached i ls r) ≡ true
reached_grows i [] r j h = h
reached_grows i (l ∷ ls) r j h = go (member i (reached (suc i) ls r)) (reached_grows (suc i) ls r j h)
  where
    go : (b : Bool) → member j (reached (suc i) ls r) ≡ true → member j (cond b (parts l ++ reached (suc i) ls r) (reached (suc i) ls r)) ≡ true
    go true g = member_back j (parts l) (reached (suc i) ls r) g
    go false g = g

reached-closed : (i : ℕ) (ls : List Line) (r : List ℕ) → ((k n : ℕ) → n ≡ i + k → k < length ls → AllByRecursion (λ j. j < n) (parts (line_at ls k)))
    → (k n : ℕ) → n ≡ i + k → k < length ls → member n (reached i ls r) ≡ true → AllByRecursion (λ j. member j (reached i ls r) ≡ true) (parts (line_at ls k))
reached-closed i [] r o k n s g h = absurd (not-suc-le-zero g)
reached-closed i (l ∷ ls) r o k n s g h =
    go k s g (member i later) refl h (reached-closed (suc i) ls r (λ k n s g. o (suc k) n (omega arith) (omega arith)))
  where
    later : List ℕ
    later = reached (suc i) ls r

    away : (b : Bool) → member n (cond b (parts l ++ later) later) ≡ true → member n later ≡ true
    away true q =
        let p : member n (parts l) ≡ false =
        member-above n (parts l) (All-weaker (λ j. j < i) (λ j. j < n) (λ j u. omega arith) (parts l) (o 0 i (omega arith) (omega arith))) in
        sym (member-append n (parts l) later ∙ ap (λ (x : Bool). x || member n later) p) ∙ q
    away false q = q

    wider : (b : Bool) (j : ℕ) → member j later ≡ true → member j (cond b (parts l ++ later) later) ≡ true
    wider true j q = member_back j (parts l) later q
    wider false j q = q

    go : (k : ℕ) → n ≡ i + k → k < length (l ∷ ls) → (b : Bool) → member i later ≡ b → member n (cond b (parts l ++ later) later) ≡ true
        → ((k n : ℕ) → n ≡ suc i + k → k < length ls → member n later ≡ true → AllByRecursion (λ j. member j later ≡ true) (parts (line_at ls k)))
        → AllByRecursion (λ j. member j (cond b (parts l ++ later) later) ≡ true) (parts (line_at (l ∷ ls) k))
    go zero s g true q h rec = member-front (parts l) later
    go zero s g false q h rec =
        let z : n ≡ i = omega arith in
        absurd (false≢true (sym q ∙ subst (λ (x : ℕ). member x later ≡ true) z h))
    go (suc k) s g b q h rec =
        All-weaker (λ j. member j later ≡ true) (λ j. member j (cond b (parts l ++ later) later) ≡ true) (wider b) (parts (line_at ls k))
        (rec k n (omega arith) (le_of_suc-le-suc g) (away b h))

-- what holds of the root, and goes over from lines to their parts, holds of all that is reached
reached-only : (P : ℕ → Type 0) (i : ℕ) (ls : List Line) (r : List ℕ) → AllByRecursion P r
    → ((k n : ℕ) → n ≡ i + k → k < length ls → P n → AllByRecursion P (parts (line_at ls k))) → AllByRecursion P (reached i ls r)
reached-only P i [] r h g = h
reached-only P i (l ∷ ls) r h g =
    go (member i later) refl (reached-only P (suc i) ls r h (λ k n s u. g (suc k) n (omega arith) (omega arith)))
  where
    later : List ℕ
    later = reached (suc i) ls r

    go : (b : Bool) → member i later ≡ b → AllByRecursion P later → AllByRecursion P (cond b (parts l ++ later) later)
    go true q a = All-append P (parts l) later (g 0 i (omega arith) (omega arith) (member_get P later i a q)) a
    go false q a = a

pub kept-only : (P : ℕ → Type 0) (F : Formula) → P F.root → ((i : ℕ) → i < length F.lines → P i → AllByRecursion P (parts (line_at F.lines i)))
    → (i : ℕ) → kept F i ≡ true → P i
kept-only P F h g i k =
    member_get P (reached 0 F.lines (F.root ∷ [])) i
    (reached-only P 0 F.lines (F.root ∷ []) (h, tt) (λ k n s u p. let q : n ≡ k = omega arith in g k u (subst P q p))) k

-- renumbering
module _ (keep : ℕ → Bool) where
  rank-yes : (i : ℕ) → keep i ≡ true → rank keep (suc i) ≡ suc (rank keep i)
  rank-yes i h = ap (λ (b : Bool). cond b (suc (rank keep i)) (rank keep i)) h

  rank-no : (i : ℕ) → keep i ≡ false → rank keep (suc i) ≡ rank keep i
  rank-no i h = ap (λ (b : Bool). cond b (suc (rank keep i)) (rank keep i)) h

  rank_up : (i : ℕ) → (rank keep i ≤ rank keep (suc i)) × (rank keep (suc i) ≤ suc (rank keep i))
  rank_up i = go (keep i)
    where
      go : (b : Bool) → (rank keep i ≤ cond b (suc (rank keep i)) (rank keep i)) × (cond b (suc (rank keep i)) (rank keep i) ≤ suc (rank keep i))
      go true = (omega arith, omega arith)
      go false = (omega arith, omega arith)

  pub rank-small : (i : ℕ) → rank keep i ≤ i
  rank-small zero = omega arith
  rank-small (suc i) = omega (arith, (rank_up i).1, rank-small i)

  rank_on : (i k : ℕ) → rank keep i ≤ rank keep (k + i)
  rank_on i zero = let e : i ≡ 0 + i = omega arith in subst (λ (x : ℕ). rank keep i ≤ rank keep x) e (omega arith)
  rank_on i (suc k) =
      subst (λ (x : ℕ). rank keep i ≤ rank keep x) (sym (suc-add k i)) (omega (arith, rank_on i k, (rank_up (k + i)).0))

  rank-le : (i j : ℕ) → i ≤ j → rank keep i ≤ rank keep j
  rank-le i j h = let e : (j - i) + i ≡ j = omega arith in subst (λ (x : ℕ). rank keep i ≤ rank keep x) e (rank_on i (j - i))

  rank_lt : (i j : ℕ) → i < j → keep i ≡ true → rank keep i < rank keep j
  rank_lt i j h k = omega (arith, rank-yes i k, rank-le (suc i) j h)

  -- every number below a rank is the rank of a number that is kept
  pub rank-back : (n m : ℕ) → m < rank keep n → (i : ℕ) × (i < n) × (keep i ≡ true) × (rank keep i ≡ m)
  rank-back zero m h = absurd (not-suc-le-zero h)
  rank-back (suc n) m h = go (keep n) refl h (rank-back n m) (cases_lt m (rank keep n))
    where
      up : ((i : ℕ) × (i < n) × (keep i ≡ true) × (rank keep i ≡ m)) → (i : ℕ) × (i < suc n) × (keep i ≡ true) × (rank keep i ≡ m)
      up r = (r.0, omega (arith, r.1), r.2, r.3)

      go : (b : Bool) → keep n ≡ b → m < cond b (suc (rank keep n)) (rank keep n) → (m < rank keep n → (i : ℕ) × (i < n) × (keep i ≡ true) × (rank keep i ≡ m))
          → (m < rank keep n) ⊎ (rank keep n ≤ m) → (i : ℕ) × (i < suc n) × (keep i ≡ true) × (rank keep i ≡ m)
      go b e h rec (inl l) = up (rec l)
      go true e h rec (inr l) = (n, omega arith, e, omega arith)
      go false e h rec (inr l) = absurd (omega arith)

  module _ (f : ℕ → ℕ) where
    pub compact-length : (k : ℕ) (ls : List Line) (n : ℕ) → n ≡ k + length ls → length (compact keep f k ls) + rank keep k ≡ rank keep n
    compact-length k [] n s = let e : k ≡ n = omega arith in subst (λ (x : ℕ). 0 + rank keep k ≡ rank keep x) e (omega arith)
    compact-length k (l ∷ ls) n s = go (keep k) refl (compact-length (suc k) ls n (omega arith))
      where
        go : (b : Bool) → keep k ≡ b → length (compact keep f (suc k) ls) + rank keep (suc k) ≡ rank keep n
            → length (cond b (renumber f l ∷ compact keep f (suc k) ls) (compact keep f (suc k) ls)) + rank keep k ≡ rank keep n
        go true e r = omega (arith, rank-yes k e)
        go false e r = omega (arith, rank-no k e)

    compact-at : (ls : List Line) (k i n m : ℕ) → n ≡ k + i → i < length ls → keep n ≡ true → rank keep n ≡ rank keep k + m
        → line_at (compact keep f k ls) m ≡ renumber f (line_at ls i)
    compact-at [] k i n m s h q r = absurd (not-suc-le-zero h)
    compact-at (l ∷ ls) k zero n m s h q r =
        let z : n ≡ k = omega arith in
        let here : keep k ≡ true = subst (λ (x : ℕ). keep x ≡ true) z q in
        let w : m ≡ 0 = omega (arith, ap (rank keep) z) in
        ap₂ (λ (b : Bool) (x : ℕ). line_at (cond b (renumber f l ∷ compact keep f (suc k) ls) (compact keep f (suc k) ls)) x) here w
    compact-at (l ∷ ls) k (suc i) n m s h q r = go (keep k) refl m r (λ m. compact-at ls (suc k) i n m (omega arith) (le_of_suc-le-suc h) q)
      where
        go : (b : Bool) → keep k ≡ b → (m : ℕ) → rank keep n ≡ rank keep k + m
            → ((m : ℕ) → rank keep n ≡ rank keep (suc k) + m → line_at (compact keep f (suc k) ls) m ≡ renumber f (line_at ls i))
            → line_at (cond b (renumber f l ∷ compact keep f (suc k) ls) (compact keep f (suc k) ls)) m ≡ renumber f (line_at ls i)
        go true p zero r rec = absurd (omega (arith, rank-yes k p, rank-le (suc k) n (omega arith)))
        go true p (suc m) r rec = rec m (omega (arith, rank-yes k p))
        go false p m r rec = rec m (omega (arith, rank-no k p))

module _ (f : ℕ → ℕ) where
  pub renumber-parts : (P : ℕ → Type 0) (l : Line) → AllByRecursion (λ j. P (f j)) (parts l) → AllByRecursion P (parts (renumber f l))
  renumber-parts P (constant σ b) h = h
  renumber-parts P (both σ i j) h = h
  renumber-parts P (non σ i) h = h
  renumber-parts P (step a ms hs) h =
      All-append P (map f ms) (map f hs) (All-map P f ms (all-front (λ j. P (f j)) ms hs h)) (All-map P f hs (all_back (λ j. P (f j)) ms hs h))
  renumber-parts P (sum t ks) h =
      All-map P (λ k. k.node) (map (retarget f) ks) (All-map (λ k. P k.node) (retarget f) ks (all_of_map (λ j. P (f j)) (λ k. k.node) ks h))

  pub renumber-sort : (l : Line) → sort (renumber f l) ≡ sort l
  renumber-sort (constant σ b) = refl
  renumber-sort (both σ i j) = refl
  renumber-sort (non σ i) = refl
  renumber-sort (step a ms hs) = refl
  renumber-sort (sum t ks) = refl

  pub renumber-wants : (l : Line) → wants (renumber f l) ≡ wants l
  renumber-wants (constant σ b) = refl
  renumber-wants (both σ i j) = refl
  renumber-wants (non σ i) = refl
  renumber-wants (step a ms hs) = refl
  renumber-wants (sum t ks) = refl

-- the whole
module _ (F : Formula) where
  pub kept-root : kept F F.root ≡ true
  kept-root = reached_grows 0 F.lines (F.root ∷ []) F.root (ap (λ (b : Bool). b || false) (eq-eqb F.root F.root refl))

  pub pruned_get : (i : ℕ) → i < length F.lines → kept F i ≡ true → line_at (prune F).lines (place F i) ≡ renumber (place F) (line_at F.lines i)
  pruned_get i h k = compact-at (kept F) (place F) F.lines 0 i i (place F i) (omega arith) h k (omega arith)

  pub pruned_length : length (prune F).lines ≡ place F (length F.lines)
  pruned_length = omega (arith, compact-length (kept F) (place F) 0 F.lines (length F.lines) (omega arith))

  pub place_lt : (i j : ℕ) → i < j → kept F i ≡ true → place F i < place F j
  place_lt i j h k = rank_lt (kept F) i j h k

  pub place-within : (i : ℕ) → i < length F.lines → kept F i ≡ true → place F i < length (prune F).lines
  place-within i h k = omega (arith, pruned_length, place_lt i (length F.lines) h k)

  -- what holds of every line that is kept, renumbered, holds of every line of the result
  pub pruned_each : (P : ℕ → Line → Type 0) → ((i : ℕ) → i < length F.lines → kept F i ≡ true → P (place F i) (renumber (place F) (line_at F.lines i)))
      → (m : ℕ) → m < length (prune F).lines → P m (line_at (prune F).lines m)
  pruned_each P g m h =
      let r = rank-back (kept F) (length F.lines) m (omega (arith, pruned_length)) in
      subst (λ (x : ℕ). P x (line_at (prune F).lines x)) r.3
      (subst (P (place F r.0)) (sym (pruned_get r.0 r.1 r.2)) (g r.0 r.1 r.2))

  module _ (o : Ordered F.lines) where
    -- the parts of a line that is kept are kept, and stand before it
    pub kept-parts : (i : ℕ) → i < length F.lines → kept F i ≡ true → AllByRecursion (λ j. (kept F j ≡ true) × (j < i)) (parts (line_at F.lines i))
    kept-parts i h k =
        all_both (λ j. kept F j ≡ true) (λ j. j < i) (parts (line_at F.lines i))
        (reached-closed 0 F.lines (F.root ∷ []) (λ k n s g. let q : k ≡ n = omega arith in subst (λ (x : ℕ). AllByRecursion (λ j. j < x) (parts (line_at F.lines k))) q (o k g)) i i (omega arith) h k)
        (o i h)
