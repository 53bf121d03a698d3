-- Laws of tests, sums and joined lists.
use Rattle.std.proofs.Common.{◌≡◌, ℕ, zero, suc, ◌+◌, ◌-◌, ◌*◌, ◌<◌, ◌≤◌, Bool, true, false, ◌||◌, ◌⊎◌, List, [], ◌∷◌, ◌++◌, map, length, get_or, take, sum_by, sym, refl, ap, ◌∙◌, subst, ap₂, inl, inr, le_of_suc-le-suc, not-suc-le-zero, add-zero, suc-mul, mul-zero, zero-add, zero-mul, mul-add, arith}
use mathlib.Core.Path.{fun_ext}
use Rattle.std.specs.List.{range_with_len, flat_map, AllByRecursion}
use Rattle.std.proofs.lemmas.List.{get_or_append_left, get_or-append-add, length-append, length-map, get_or-map, take-take, map-id}
use Rattle.std.proofs.ByRecursion.{All-append, All-map, All-weaker, All-from_get_or}
use Rattle.std.proofs.lemmas.List.Sums.{sum_by-cons, sum_by-append, sum_by_more, sum_by-take-le}
use Rattle.std.proofs.lemmas.Bool.{cases_lt}
use Rattle.std.proofs.lemmas.List.FromFn.{fill_by_all, take-map-range_with_len, length-range_with_len, get_or-range_with_len}
use Rattle.systems.specs.Piles.{cross}
use Rattle.formulas.specs.Truths.{any}

-- what follows for each number from the smaller ones
module _ (P : ℕ → Type 0) (next : (i : ℕ) → ((j : ℕ) → j < i → P j) → P i) where
  below : (n i : ℕ) → i < n → P i
  below zero i h = absurd (not-suc-le-zero h)
  below (suc n) i h = next i (λ j l. below n j (omega arith))

  pub each : (i : ℕ) → P i
  each i = below (suc i) i (omega arith)

pub or_assoc : (a b c : Bool) → (a || b) || c ≡ a || (b || c)
or_assoc true b c = refl
or_assoc false b c = refl

or_mid : (a b c d : Bool) → (a || b) || (c || d) ≡ (a || c) || (b || d)
or_mid true true c d = refl
or_mid true false true d = refl
or_mid true false false d = refl
or_mid false true true d = refl
or_mid false true false d = refl
or_mid false false true d = refl
or_mid false false false d = refl

pub or_left : (a b c : Bool) → a || (b || c) ≡ b || (a || c)
or_left true true c = refl
or_left true false c = refl
or_left false true c = refl
or_left false false c = refl

-- tests of lists
module _ {X : Type 0} where
  pub any_append : (p : X → Bool) (xs ys : List X) → any p (xs ++ ys) ≡ any p xs || any p ys
  any_append p [] ys = refl
  any_append p (x ∷ xs) ys = ap (λ b. p x || b) (any_append p xs ys) ∙ sym (or_assoc (p x) (any p xs) (any p ys))

  pub any_on : {P : X → Type 0} {f g : X → Bool} (xs : List X) → AllByRecursion P xs → ((x : X) → P x → f x ≡ g x) → any f xs ≡ any g xs
  any_on [] h e = refl
  any_on (x ∷ xs) h e = ap₂ ◌||◌ (e x h.0) (any_on xs h.1 e)

  pub any_eq : {f g : X → Bool} (xs : List X) → ((x : X) → f x ≡ g x) → any f xs ≡ any g xs
  any_eq xs e = ap (λ (h : X → Bool). any h xs) (fun_ext e)

  any_false : (xs : List X) → any (λ _. false) xs ≡ false
  any_false [] = refl
  any_false (x ∷ xs) = any_false xs

  any-or : (f g : X → Bool) (xs : List X) → any (λ x. f x || g x) xs ≡ any f xs || any g xs
  any-or f g [] = refl
  any-or f g (x ∷ xs) = ap (λ b. (f x || g x) || b) (any-or f g xs) ∙ or_mid (f x) (g x) (any f xs) (any g xs)

  -- the numbers from b on, one for each element
  pub any_counting : (φ : ℕ → Bool) (ψ : X → Bool) (d : X) (b : ℕ) (xs : List X) → ((j : ℕ) → j < length xs → φ (b + j) ≡ ψ (get_or xs j d)) → any φ (range_with_len b (length xs)) ≡ any ψ xs
  any_counting φ ψ d b [] h = refl
  any_counting φ ψ d b (x ∷ xs) h =
      ap₂ ◌||◌ (ap φ (sym (add-zero b)) ∙ h 0 (omega arith))
      (any_counting φ ψ d (b + 1) xs (λ j l. ap φ (omega arith) ∙ h (suc j) (omega arith)))

module _ {X Y : Type 0} where
  pub any-map : (p : Y → Bool) (f : X → Y) (xs : List X) → any p (map f xs) ≡ any (λ x. p (f x)) xs
  any-map p f [] = refl
  any-map p f (x ∷ xs) = ap (λ b. p (f x) || b) (any-map p f xs)

  pub any_swap : (f : X → Y → Bool) (xs : List X) (ys : List Y) → any (λ x. any (f x) ys) xs ≡ any (λ y. any (λ x. f x y) xs) ys
  any_swap f [] ys = sym (any_false ys)
  any_swap f (x ∷ xs) ys = ap (λ b. any (f x) ys || b) (any_swap f xs ys) ∙ sym (any-or (f x) (λ y. any (λ z. f z y) xs) ys)

-- sums
module _ {X : Type 0} where
  pub sum_by_on : {P : X → Type 0} {f g : X → ℕ} (xs : List X) → AllByRecursion P xs → ((x : X) → P x → f x ≡ g x) → sum_by f xs ≡ sum_by g xs
  sum_by_on [] h e = refl
  sum_by_on {P} {f} {g} (x ∷ xs) h e = sum_by-cons f x xs ∙ ap₂ ◌+◌ (e x h.0) (sum_by_on xs h.1 e) ∙ sym (sum_by-cons g x xs)

  pub sum_by_at : (f g : X → ℕ) (xs : List X) (d : X) → ((i : ℕ) → i < length xs → f (get_or xs i d) ≡ g (get_or xs i d)) → sum_by f xs ≡ sum_by g xs
  sum_by_at f g xs d e = sum_by_on xs (All-from_get_or (λ x. f x ≡ g x) xs d e) (λ x h. h)

  pub sum_by_eq : {f g : X → ℕ} (xs : List X) → ((x : X) → f x ≡ g x) → sum_by f xs ≡ sum_by g xs
  sum_by_eq xs e = ap (λ (h : X → ℕ). sum_by h xs) (fun_ext e)

  pub sum_by_mul : (c : ℕ) (f : X → ℕ) (xs : List X) → sum_by (λ x. c * f x) xs ≡ c * sum_by f xs
  sum_by_mul c f [] = sym (mul-zero c)
  sum_by_mul c f (x ∷ xs) = sum_by-cons (λ y. c * f y) x xs ∙ ap (λ n. c * f x + n) (sum_by_mul c f xs) ∙ sym (mul-add c (f x) (sum_by f xs)) ∙ ap (λ n. c * n) (sym (sum_by-cons f x xs))

  sum_by_zero : (xs : List X) → sum_by (λ _. 0) xs ≡ 0
  sum_by_zero [] = refl
  sum_by_zero (x ∷ xs) = sum_by_zero xs

  sum_by_add : (f g : X → ℕ) (xs : List X) → sum_by (λ x. f x + g x) xs ≡ sum_by f xs + sum_by g xs
  sum_by_add f g [] = refl
  sum_by_add f g (x ∷ xs) = omega (arith, sum_by-cons (λ y. f y + g y) x xs, sum_by_add f g xs, sum_by-cons f x xs, sum_by-cons g x xs)

  -- what the front has, with the next element
  pub sum_by_room : (w : X → ℕ) (xs : List X) (j i : ℕ) (d : X) → j < i → i ≤ length xs → sum_by w (take j xs) + w (get_or xs j d) ≤ sum_by w (take i xs)
  sum_by_room w xs j i d h l =
      let k : j < length xs = omega arith in
      let e : take (j + 1) (take i xs) ≡ take (j + 1) xs = take-take (j + 1) i xs (omega arith) in
      omega (arith, sum_by_more w xs j d k, ap (sum_by w) e, sum_by-take-le w (take i xs) (j + 1))

module _ {X Y : Type 0} where
  pub sum_by_swap : (g : X → Y → ℕ) (xs : List X) (ys : List Y) → sum_by (λ x. sum_by (g x) ys) xs ≡ sum_by (λ y. sum_by (λ x. g x y) xs) ys
  sum_by_swap g [] ys = sym (sum_by_zero ys)
  sum_by_swap g (x ∷ xs) ys =
      sum_by-cons (λ z. sum_by (g z) ys) x xs ∙ ap (λ n. sum_by (g x) ys + n) (sum_by_swap g xs ys) ∙ sym (sum_by_add (g x) (λ y. sum_by (λ z. g z y) xs) ys)
      ∙ ap (λ (h : Y → ℕ). sum_by h ys) (fun_ext (λ y. sym (sum_by-cons (λ z. g z y) x xs)))

  pub sum_by_map : (h : Y → ℕ) (f : X → Y) (xs : List X) → sum_by h (map f xs) ≡ sum_by (λ x. h (f x)) xs
  sum_by_map h f [] = refl
  sum_by_map h f (x ∷ xs) = sum_by-cons h (f x) (map f xs) ∙ ap (λ n. h (f x) + n) (sum_by_map h f xs) ∙ sym (sum_by-cons (λ y. h (f y)) x xs)

  -- a list, looked up by numbers
  pub looked_up : (f : X → Y) (d : X) (xs : List X) → map (λ k. f (get_or xs k d)) (range_with_len 0 (length xs)) ≡ map f xs
  looked_up f d xs = sym (fill_by_all (λ k. f (get_or xs k d)) (map f xs) (length xs) (f d) (length-map xs f) (λ k h. get_or-map f xs k d (f d) h))

-- each of one list with each of another
module _ {X Y Z : Type 0} (f : X → Y → Z) where
  pub any-cross : (p : Z → Bool) (xs : List X) (ys : List Y) → any p (cross f xs ys) ≡ any (λ x. any (λ y. p (f x y)) ys) xs
  unfolding cross
  any-cross p [] ys = refl
  any-cross p (x ∷ xs) ys = any_append p (map (f x) ys) (cross f xs ys) ∙ ap₂ ◌||◌ (any-map p (f x) ys) (any-cross p xs ys)

  pub sum_by_cross : (h : Z → ℕ) (xs : List X) (ys : List Y) → sum_by h (cross f xs ys) ≡ sum_by (λ x. sum_by (λ y. h (f x y)) ys) xs
  unfolding cross
  sum_by_cross h [] ys = refl
  sum_by_cross h (x ∷ xs) ys =
      sum_by-append h (map (f x) ys) (cross f xs ys) ∙ ap₂ ◌+◌ (sum_by_map h (f x) ys) (sum_by_cross h xs ys) ∙ sym (sum_by-cons (λ z. sum_by (λ y. h (f z y)) ys) x xs)

  pub length_cross : (xs : List X) (ys : List Y) → length (cross f xs ys) ≡ length xs * length ys
  unfolding cross
  length_cross [] ys = sym (zero-mul (length ys))
  length_cross (x ∷ xs) ys = length-append (map (f x) ys) (cross f xs ys) ∙ omega (arith, length-map ys (f x), length_cross xs ys, suc-mul (length xs) (length ys))

  pub all_cross : {P : X → Type 0} {Q : Y → Type 0} (R : Z → Type 0) (xs : List X) (ys : List Y) → AllByRecursion P xs → AllByRecursion Q ys → ((x : X) (y : Y) → P x → Q y → R (f x y)) → AllByRecursion R (cross f xs ys)
  unfolding cross
  all_cross R [] ys p q e = tt
  all_cross {P} {Q} R (x ∷ xs) ys p q e =
      All-append R (map (f x) ys) (cross f xs ys) (All-map R (f x) ys (All-weaker Q (λ y. R (f x y)) (λ y k. e x y p.0 k) ys q)) (all_cross R xs ys p.1 q e)

-- where a place of a joined list is
pub record Among {X Y : Type 0} (f : X → List Y) (w : X → ℕ) (d : X) (xs : List X) (n : ℕ) : Type 0 where
  pub part : ℕ
  pub inner : ℕ
  pub within : part < length xs
  pub short : inner < w (get_or xs part d)
  pub sum_is : n ≡ sum_by w (take part xs) + inner

module _ {X Y : Type 0} (f : X → List Y) (w : X → ℕ) (same : (x : X) → length (f x) ≡ w x) where
  pub length-joined : (xs : List X) → length (flat_map f xs) ≡ sum_by w xs
  length-joined [] = refl
  length-joined (x ∷ xs) = length-append (f x) (flat_map f xs) ∙ ap₂ ◌+◌ (same x) (length-joined xs) ∙ sym (sum_by-cons w x xs)

  pub joined_at : (xs : List X) (i j : ℕ) (d : X) (e : Y) → i < length xs → j < w (get_or xs i d) → get_or (flat_map f xs) (sum_by w (take i xs) + j) e ≡ get_or (f (get_or xs i d)) j e
  joined_at [] i j d e h l = absurd (not-suc-le-zero h)
  joined_at (x ∷ xs) zero j d e h l = ap (λ n. get_or (f x ++ flat_map f xs) n e) (zero-add j) ∙ get_or_append_left (f x) (flat_map f xs) e j (omega (arith, same x))
  joined_at (x ∷ xs) (suc i) j d e h l =
      ap (λ n. get_or (f x ++ flat_map f xs) n e) (omega (arith, sum_by-cons w x (take i xs), same x))
      ∙ get_or-append-add (f x) (flat_map f xs) (sum_by w (take i xs) + j) e
      ∙ joined_at xs i j d e (le_of_suc-le-suc h) l

  pub joined-split : (d : X) (xs : List X) (n : ℕ) → n < length (flat_map f xs) → Among f w d xs n
  joined-split d [] n h = absurd (not-suc-le-zero h)
  joined-split d (x ∷ xs) n h = go (cases_lt n (w x)) (joined-split d xs (n - w x))
    where
      go : (n < w x) ⊎ (w x ≤ n) → (n - w x < length (flat_map f xs) → Among f w d xs (n - w x)) → Among f w d (x ∷ xs) n
      go (inl l) rest = record { part = 0; inner = n; within = omega arith; short = l; sum_is = sym (zero-add n) }
      go (inr l) rest =
          let k : n - w x < length (flat_map f xs) = omega (arith, length-append (f x) (flat_map f xs), same x) in
          let r = rest k in
          record { part = suc r.part; inner = r.inner; within = omega (arith, r.within); short = r.short; sum_is = omega (arith, r.sum_is, sum_by-cons w x (take r.part xs)) }

pub all_counting : (P : ℕ → Type 0) (b n : ℕ) → ((j : ℕ) → j < n → P (b + j)) → AllByRecursion P (range_with_len b n)
all_counting P b zero h = tt
all_counting P b (suc n) h = (subst P (add-zero b) (h 0 (omega arith)), all_counting P (b + 1) n (λ j l. subst P (omega arith) (h (suc j) (omega arith))))

pub all-joined : {X Y : Type 0} (P : Y → Type 0) (f : X → List Y) → ((x : X) → AllByRecursion P (f x)) → (xs : List X) → AllByRecursion P (flat_map f xs)
all-joined P f h [] = tt
all-joined P f h (x ∷ xs) = All-append P (f x) (flat_map f xs) (h x) (all-joined P f h xs)

-- the lists of the numbers below n, joined
module _ {Y : Type 0} (f : ℕ → List Y) where
  take_counting : (n i : ℕ) → i ≤ n → take i (range_with_len 0 n) ≡ range_with_len 0 i
  take_counting n i h = ap (take i) (sym (map-id (range_with_len 0 n))) ∙ take-map-range_with_len (λ k. k) 0 n i h ∙ map-id (range_with_len 0 i)

  pub numbered-at : (n i j : ℕ) (e : Y) → i < n → j < length (f i) → get_or (flat_map f (range_with_len 0 n)) (sum_by (λ k. length (f k)) (range_with_len 0 i) + j) e ≡ get_or (f i) j e
  numbered-at n i j e h l =
      let k : i < length (range_with_len 0 n) = omega (arith, length-range_with_len 0 n) in
      let g : get_or (range_with_len 0 n) i 0 ≡ i = get_or-range_with_len 0 n i 0 h ∙ zero-add i in
      ap (λ xs. get_or (flat_map f (range_with_len 0 n)) (sum_by (λ k. length (f k)) xs + j) e) (sym (take_counting n i (omega arith)))
      ∙ joined_at f (λ k. length (f k)) (λ k. refl) (range_with_len 0 n) i j 0 e k (subst (λ (x : ℕ). j < length (f x)) (sym g) l)
      ∙ ap (λ (x : ℕ). get_or (f x) j e) g

  pub numbered-room : (n i : ℕ) → i < n → sum_by (λ k. length (f k)) (range_with_len 0 i) + length (f i) ≤ length (flat_map f (range_with_len 0 n))
  numbered-room n i h =
      let k : n ≤ length (range_with_len 0 n) = omega (arith, length-range_with_len 0 n) in
      let g : get_or (range_with_len 0 n) i 0 ≡ i = get_or-range_with_len 0 n i 0 h ∙ zero-add i in
      omega (arith, length-joined f (λ k. length (f k)) (λ k. refl) (range_with_len 0 n), sum_by_room (λ k. length (f k)) (range_with_len 0 n) i n 0 h k, ap (λ (x : ℕ). length (f x)) g, ap (sum_by (λ k. length (f k))) (take_counting n i (omega arith)), ap (sum_by (λ k. length (f k))) (take_counting n n (omega arith)))
