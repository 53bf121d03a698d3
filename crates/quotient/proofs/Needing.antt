-- Counts that stop at the largest number.
use Rattle.std.proofs.Common.{◌≡◌, ℕ, ◌+◌, min, List, [], ◌∷◌, map, sum_by, ap, ◌∙◌, arith}
use Rattle.std.specs.List.{range_with_len}
use Rattle.std.specs.Prelude.{fold}
use Rattle.std.proofs.lemmas.List.Sums.{sum_by-cons}
use Rattle.quotient.specs.Plans.{topped}
use Rattle.quotient.proofs.Countings.{sum_by_counting_more}

topped_add : (S X s x n : ℕ) → s ≡ topped S → x ≡ topped X → n ≡ min (s + x) 18446744073709551615 → n ≡ topped (S + X)
topped_add S X s x n e f h = grind arith

-- one number more, after a count of b
pub topped-next : (f : ℕ → ℕ) (b i s x n : ℕ) → s ≡ topped (b + sum_by f (range_with_len 0 i)) → x ≡ topped (f i) → n ≡ min (s + x) 18446744073709551615 → n ≡ topped (b + sum_by f (range_with_len 0 (i + 1)))
topped-next f b i s x n e g k = topped_add (b + sum_by f (range_with_len 0 i)) (f i) s x n e g k ∙ ap topped (omega (arith, sum_by_counting_more f i))

-- a sum that stops at 2^64 - 1
abbrev pub plus : ℕ → ℕ → ℕ
plus a b = min (a + b) 18446744073709551615

pub summed-topped : {X : Type 0} (f : X → ℕ) (s : ℕ) (xs : List X) → fold plus (topped s) (map (λ x. topped (f x)) xs) ≡ topped (s + sum_by f xs)
summed-topped f s [] = ap topped (omega arith)
summed-topped f s (x ∷ xs) =
    let next : plus (topped s) (topped (f x)) ≡ topped (s + f x) = grind arith in
    ap (λ n. fold plus n (map (λ y. topped (f y)) xs)) next ∙ summed-topped f (s + f x) xs ∙ ap topped (omega (arith, sum_by-cons f x xs))
