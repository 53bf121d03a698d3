-- Lemmas on `cross`.
use Rattle.std.specs.Prelude.{◌≡◌, ℕ, zero, suc, ◌-◌, ◌*◌, ◌/◌, ◌%◌, ◌<◌, ◌≤◌, ◌⊎◌, List, [], ◌∷◌, ◌++◌, map, length, sum_by, slice_index_or}
use Rattle.std.proofs.Math.Path.{refl, sym, ap}
use Rattle.std.proofs.Common.{subst, ◌∙◌, inl, inr, arith, zero-mul, mul-add, mul-zero, not-suc-le-zero, add-one}
use Rattle.std.proofs.Math.Nat.{suc-mul, add-mul, div-eq_of_lt, mod-eq_of_lt, div-eq-sub-div, mod-eq-sub-mod}
use Rattle.std.proofs.Math.ListN.{length-append, length-map}
use Rattle.std.proofs.lemmas.List.{get_or_append_left, get_or-append_right, get_or-map}
use Rattle.std.proofs.lemmas.Bool.{cases_lt}
use Rattle.std.proofs.ByRecursion.{All-append, All-map, All-weaker}
use Rattle.std.proofs.lemmas.List.Sums.{sum_by-cons, sum_by-append}
use Rattle.std.specs.List.{AllByRecursion}
use Rattle.systems.specs.Piles.{cross}

-- a product with something below it has no factor 0
pub pos_right : (a n i : ℕ) → i < a * n → 0 < n
pos_right a zero i h = absurd (not-suc-le-zero (subst (λ (m : ℕ). i < m) (mul-zero a) h))
pos_right a (suc n) i h = omega arith

module _ {X Y Z : Type 0} (f : X → Y → Z) where
  pub length_cross : (xs : List X) (ys : List Y) → length (cross f xs ys) ≡ length xs * length ys
  unfolding cross
  length_cross [] ys = sym (zero-mul (length ys))
  length_cross (x ∷ xs) ys =
      length-append (map (f x) ys) (cross f xs ys) ∙ omega (arith, length-map ys (f x), length_cross xs ys, suc-mul (length xs) (length ys))

  pub get_or_cross : (xs : List X) (ys : List Y) (i : ℕ) (dx : X) (dy : Y) (dz : Z) → i < length xs * length ys → slice_index_or (cross f xs ys) i dz ≡ f (slice_index_or xs (i / length ys) dx) (slice_index_or ys (i % length ys) dy)
  unfolding cross
  get_or_cross [] ys i dx dy dz h = absurd (not-suc-le-zero (subst (λ (n : ℕ). i < n) (zero-mul (length ys)) h))
  get_or_cross (x ∷ xs) ys i dx dy dz h = go (cases_lt i (length ys)) (get_or_cross xs ys (i - length ys) dx dy dz)
    where
      go : (i < length ys) ⊎ (length ys ≤ i) → (i - length ys < length xs * length ys → slice_index_or (cross f xs ys) (i - length ys) dz ≡ f (slice_index_or xs ((i - length ys) / length ys) dx) (slice_index_or ys ((i - length ys) % length ys) dy)) → slice_index_or (map (f x) ys ++ cross f xs ys) i dz ≡ f (slice_index_or (x ∷ xs) (i / length ys) dx) (slice_index_or ys (i % length ys) dy)
      go (inl l) ih =
          let l' : i < length (map (f x) ys) = omega (arith, length-map ys (f x)) in
          get_or_append_left (map (f x) ys) (cross f xs ys) dz i l' ∙ get_or-map (f x) ys i dy dz l ∙ rw (div-eq_of_lt l, mod-eq_of_lt l) refl
      go (inr g) ih =
          let pos : 0 < length ys = pos_right (suc (length xs)) (length ys) i h in
          get_or-append_right (map (f x) ys) (cross f xs ys) (length ys) i dz (length-map ys (f x)) g ∙ ih (omega (arith, suc-mul (length xs) (length ys))) ∙ rw (div-eq-sub-div pos g, mod-eq-sub-mod g, add-one) refl

  pub all_cross : (P : X → Type 0) (Q : Y → Type 0) (R : Z → Type 0) → ((x : X) (y : Y) → P x → Q y → R (f x y)) → (xs : List X) (ys : List Y) → AllByRecursion P xs → AllByRecursion Q ys → AllByRecursion R (cross f xs ys)
  unfolding cross
  all_cross P Q R each [] ys p q = tt
  all_cross P Q R each (x ∷ xs) ys p q =
      All-append R (map (f x) ys) (cross f xs ys) (All-map R (f x) ys (All-weaker Q (λ y. R (f x y)) (λ y. each x y p.0) ys q)) (all_cross P Q R each xs ys p.1 q)

-- weights that multiply add up to the product
module _ {X Y Z : Type 0} (f : X → Y → Z) (v : X → ℕ) (w : Y → ℕ) (vw : Z → ℕ) (times : (x : X) (y : Y) → vw (f x y) ≡ v x * w y) where
  pub sum_row : (x : X) (ys : List Y) → sum_by vw (map (f x) ys) ≡ v x * sum_by w ys
  sum_row x [] = sym (mul-zero (v x))
  sum_row x (y ∷ ys) =
      sum_by-cons vw (f x y) (map (f x) ys) ∙ omega (arith, times x y, sum_row x ys, mul-add (v x) (w y) (sum_by w ys), ap (λ n. v x * n) (sum_by-cons w y ys))

  pub sum_cross : (xs : List X) (ys : List Y) → sum_by vw (cross f xs ys) ≡ sum_by v xs * sum_by w ys
  unfolding cross
  sum_cross [] ys = sym (zero-mul (sum_by w ys))
  sum_cross (x ∷ xs) ys =
      sum_by-append vw (map (f x) ys) (cross f xs ys) ∙ omega (arith, sum_row x ys, sum_cross xs ys, add-mul (v x) (sum_by v xs) (sum_by w ys), ap (λ n. n * sum_by w ys) (sum_by-cons v x xs))
