-- Lists: what holds of each element, tests of some element, and lists that grow by what stands in them so far.
use Rattle.std.proofs.Common.{◌≡◌, ℕ, zero, suc, ◌+◌, ◌<◌, Bool, true, false, cond, ◌||◌, List, [], ◌∷◌, ◌++◌, map, length, get_or, fold, filter, sym, refl, ap, ◌∙◌, subst, ap₂, le_of_suc-le-suc, not-suc-le-zero, arith}
use Rattle.std.specs.List.{AllByRecursion, list_any}
use Rattle.std.proofs.lemmas.List.{length_push, get_or_append_left, get_or_push}
use Rattle.formulas.specs.Truths.{any}

module _ {X : Type 0} (P : X → Type 0) where
  pub all-front : (xs ys : List X) → AllByRecursion P (xs ++ ys) → AllByRecursion P xs
  all-front [] ys h = tt
  all-front (x ∷ xs) ys h = (h.0, all-front xs ys h.1)

  pub all_back : (xs ys : List X) → AllByRecursion P (xs ++ ys) → AllByRecursion P ys
  all_back [] ys h = h
  all_back (x ∷ xs) ys h = all_back xs ys h.1

  pub all_both : (Q : X → Type 0) (xs : List X) → AllByRecursion P xs → AllByRecursion Q xs → AllByRecursion (λ x. P x × Q x) xs
  all_both Q [] h k = tt
  all_both Q (x ∷ xs) h k = ((h.0, k.0), all_both Q xs h.1 k.1)

  pub all_of_map : {Y : Type 0} (f : Y → X) (ys : List Y) → AllByRecursion P (map f ys) → AllByRecursion (λ y. P (f y)) ys
  all_of_map f [] h = tt
  all_of_map f (y ∷ ys) h = (h.0, all_of_map f ys h.1)

pub any-is : {X : Type 0} (p : X → Bool) (xs : List X) → list_any p xs ≡ any p xs
any-is p [] = refl
any-is p (x ∷ xs) = ap (λ b. p x || b) (any-is p xs)

pub any_same : {X : Type 0} (f g : X → Bool) (xs : List X) → AllByRecursion (λ x. f x ≡ g x) xs → any f xs ≡ any g xs
any_same f g [] h = refl
any_same f g (x ∷ xs) h = ap₂ ◌||◌ h.0 (any_same f g xs h.1)

pub strong : (P : ℕ → Type 0) → ((n : ℕ) → ((j : ℕ) → j < n → P j) → P n) → (n : ℕ) → P n
strong P f n = f n (go n)
  where
    go : (n j : ℕ) → j < n → P j
    go zero j h = absurd (not-suc-le-zero h)
    go (suc n) j h = f j (λ i k. go n i (omega arith))

-- each value is made from its number, the values so far and an element
module _ {X Y : Type 0} (d : Y) (f : ℕ → (ℕ → Y) → X → Y) where
  abbrev pub grown : List Y → X → List Y
  grown acc x = acc ++ (f (length acc) (λ j. get_or acc j d) x ∷ [])

  pub grown-length : (acc : List Y) (xs : List X) → length (fold grown acc xs) ≡ length acc + length xs
  grown-length acc [] = omega arith
  grown-length acc (x ∷ xs) =
      omega (arith, grown-length (grown acc x) xs, length_push acc (f (length acc) (λ j. get_or acc j d) x))

  grown-keeps : (acc : List Y) (xs : List X) (i : ℕ) → i < length acc → get_or (fold grown acc xs) i d ≡ get_or acc i d
  grown-keeps acc [] i h = refl
  grown-keeps acc (x ∷ xs) i h =
      let v : Y = f (length acc) (λ j. get_or acc j d) x in
      grown-keeps (grown acc x) xs i (omega (arith, length_push acc v)) ∙ get_or_append_left acc (v ∷ []) d i h

  -- if only values before it count, each is made from all the values
  module _ (Below : ℕ → X → Type 0)
      (local : (n : ℕ) (T T' : ℕ → Y) (x : X) → ((j : ℕ) → j < n → T j ≡ T' j) → Below n x → f n T x ≡ f n T' x) (e : X) where
    pub grown-at : (acc : List Y) (xs : List X) (k n : ℕ) → n ≡ length acc + k → k < length xs → Below n (get_or xs k e)
        → get_or (fold grown acc xs) n d ≡ f n (λ j. get_or (fold grown acc xs) j d) (get_or xs k e)
    grown-at acc [] k n s h b = absurd (not-suc-le-zero h)
    grown-at acc (x ∷ xs) zero n s h b =
        let v : Y = f (length acc) (λ j. get_or acc j d) x in
        let all : ℕ → Y = λ j. get_or (fold grown acc (x ∷ xs)) j d in
        let q : n ≡ length acc = omega arith in
        let p : all (length acc) ≡ v =
        grown-keeps (grown acc x) xs (length acc) (omega (arith, length_push acc v)) ∙ get_or_push acc v d (length acc) refl in
        let r : v ≡ f (length acc) all x =
        local (length acc) (λ j. get_or acc j d) all x (λ j g. sym (grown-keeps acc (x ∷ xs) j g)) (subst (λ (m : ℕ). Below m x) q b) in
        subst (λ (m : ℕ). all m ≡ f m all x) (sym q) (p ∙ r)
    grown-at acc (x ∷ xs) (suc k) n s h b =
        grown-at (grown acc x) xs k n (omega (arith, length_push acc (f (length acc) (λ j. get_or acc j d) x))) (le_of_suc-le-suc h) b

-- a filter
module _ {X Y : Type 0} where
  map-cond : (f : X → Y) (b : Bool) (x : X) (r : List X) → map f (cond b (x ∷ r) r) ≡ cond b (f x ∷ map f r) (map f r)
  map-cond f true x r = refl
  map-cond f false x r = refl

  pub map-kept_same : (f g : X → Y) (p q : X → Bool) (xs : List X) → AllByRecursion (λ x. (p x ≡ q x) × (f x ≡ g x)) xs → map f (filter p xs) ≡ map g (filter q xs)
  map-kept_same f g p q [] h = refl
  map-kept_same f g p q (x ∷ xs) h =
      let r = map-kept_same f g p q xs h.1 in
      map-cond f (p x) x (filter p xs)
      ∙ ((λ i. cond (h.0.0 i) (h.0.1 i ∷ r i) (r i))
      ∙ sym (map-cond g (q x) x (filter q xs)))

pub kept_same : {X : Type 0} (p q : X → Bool) (xs : List X) → AllByRecursion (λ x. p x ≡ q x) xs → filter p xs ≡ filter q xs
kept_same p q [] h = refl
kept_same p q (x ∷ xs) h = ap₂ (λ (b : Bool) (r : List _). cond b (x ∷ r) r) h.0 (kept_same p q xs h.1)
