-- One more at the end: sums, joined lists and crossed lists, number after number.
use Rattle.std.proofs.Common.{◌≡◌, ℕ, ◌+◌, ◌<◌, List, [], ◌∷◌, ◌++◌, map, length, get_or, take, sum_by, sym, refl, ap, ◌∙◌, append_assoc, append-nil, arith}
use Rattle.std.specs.List.{range_with_len, flat_map}
use Rattle.std.proofs.lemmas.List.{take_more, flat_map_more, map-id}
use Rattle.std.proofs.lemmas.List.FromFn.{map-range_with_len_more}
use Rattle.std.proofs.lemmas.List.Sums.{sum_by_push}
use Rattle.systems.specs.Piles.{cross}

counting_more : (n : ℕ) → range_with_len 0 (n + 1) ≡ range_with_len 0 n ++ (n ∷ [])
counting_more n =
    sym (map-id (range_with_len 0 (n + 1))) ∙ map-range_with_len_more (λ x. x) 0 n n (omega arith) ∙ ap (λ l. l ++ (n ∷ [])) (map-id (range_with_len 0 n))

pub sum_by_counting_more : (f : ℕ → ℕ) (n : ℕ) → sum_by f (range_with_len 0 (n + 1)) ≡ sum_by f (range_with_len 0 n) + f n
sum_by_counting_more f n = ap (sum_by f) (counting_more n) ∙ sum_by_push f (range_with_len 0 n) n

pub joined-counting_more : {X : Type 0} (f : ℕ → List X) (n : ℕ) → flat_map f (range_with_len 0 (n + 1)) ≡ flat_map f (range_with_len 0 n) ++ f n
joined-counting_more f n = ap (flat_map f) (counting_more n) ∙ sym (flat_map_more f [] (range_with_len 0 n) n)

module _ {X Y Z : Type 0} (f : X → Y → Z) where
  cross_push : (xs : List X) (x : X) (ys : List Y) → cross f (xs ++ (x ∷ [])) ys ≡ cross f xs ys ++ map (f x) ys
  unfolding cross
  cross_push [] x ys = append-nil (map (f x) ys)
  cross_push (z ∷ xs) x ys = ap (λ l. map (f z) ys ++ l) (cross_push xs x ys) ∙ sym (append_assoc (map (f z) ys) (cross f xs ys) (map (f x) ys))

  pub cross-none : (ys : List Y) → cross f [] ys ≡ []
  unfolding cross
  cross-none ys = refl

  pub cross-more : (xs : List X) (i : ℕ) (d : X) (ys : List Y) → i < length xs → cross f (take (i + 1) xs) ys ≡ cross f (take i xs) ys ++ map (f (get_or xs i d)) ys
  cross-more xs i d ys h = ap (λ l. cross f l ys) (take_more xs i d h) ∙ cross_push (take i xs) (get_or xs i d) ys
