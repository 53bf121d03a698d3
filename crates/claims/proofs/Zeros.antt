-- Zeros over a part of a row.
use Rattle.std.proofs.Common.{◌≡◌, ℕ, ◌+◌, ◌-◌, ◌<◌, ◌≤◌, List, ◌++◌, length, get_or, take, drop, replicate, ap, ◌∙◌, arith}
use Rattle.std.proofs.lemmas.List.{length-append, length-take-le, length-drop, length-replicate, get_or_append_left, get_or-append_right, get_or-take, get_or-drop, get_or-replicate}

-- xs with zeros from low up to before high
module _ (low high : ℕ) (xs : List ℕ) (ordered : low ≤ high) (top : high ≤ length xs) where
  abbrev pub zeroed : List ℕ
  zeroed = take low xs ++ (replicate (high - low) 0 ++ drop (high - low) (drop low xs))

  front : length (take low xs) ≡ low
  front = length-take-le low xs (omega arith)

  pub zeroed-length : length zeroed ≡ length xs
  zeroed-length =
      omega (
        arith,
        length-append (take low xs) (replicate (high - low) 0 ++ drop (high - low) (drop low xs)),
        length-append (replicate (high - low) 0) (drop (high - low) (drop low xs)),
        front,
        length-replicate {A = ℕ} (high - low) 0,
        length-drop (high - low) (drop low xs),
        length-drop low xs,
      )

  pub zeroed-below : (k : ℕ) → k < low → get_or zeroed k 0 ≡ get_or xs k 0
  zeroed-below k h = get_or_append_left (take low xs) _ 0 k (omega (arith, front)) ∙ get_or-take low xs k 0 h

  past : (k : ℕ) → low ≤ k → get_or zeroed k 0 ≡ get_or (replicate (high - low) 0 ++ drop (high - low) (drop low xs)) (k - low) 0
  past k h = get_or-append_right (take low xs) _ low k 0 front h

  pub zeroed-within : (k : ℕ) → low ≤ k → k < high → get_or zeroed k 0 ≡ 0
  zeroed-within k h l =
      past k h
      ∙ get_or_append_left (replicate (high - low) 0) _ 0 (k - low) (omega (arith, length-replicate {A = ℕ} (high - low) 0))
      ∙ get_or-replicate (high - low) (k - low) 0 0 (omega arith)

  pub zeroed-above : (k : ℕ) → high ≤ k → get_or zeroed k 0 ≡ get_or xs k 0
  zeroed-above k h =
      past k (omega arith)
      ∙ get_or-append_right (replicate (high - low) 0) _ (high - low) (k - low) 0 (length-replicate {A = ℕ} (high - low) 0) (omega arith)
      ∙ get_or-drop (high - low) (drop low xs) (k - low - (high - low)) 0
      ∙ get_or-drop low xs (high - low + (k - low - (high - low))) 0
      ∙ ap (λ i. get_or xs i 0) (omega arith)
