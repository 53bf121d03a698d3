-- The sum of a move, target by target.
use Rattle.std.proofs.Common.{◌≡◌, ℕ, zero, suc, ◌+◌, ◌*◌, ◌<◌, ◌≤◌, Bool, true, false, cond, List, [], ◌∷◌, ◌++◌, length, get_or, take, Some, sum_by, sym, refl, ap, ◌∙◌, mul_comm, add-mul, mul-le-mul_left, mul-zero, mul-add, arith}
use Rattle.std.proofs.lemmas.List.{take_all, take_more}
use Rattle.std.proofs.lemmas.List.Sums.{sum_by-cons, sum_by_push, get_or-le-sum_by}
use Rattle.std.proofs.lemmas.Nat.{mul-le}
use Rattle.std.proofs.lemmas.Option.{slice_get-get_or}
use Rattle.std.specs.List.{range_with_len, slice_get}
use Rattle.systems.specs.declared.system.Target.{Target}
use Rattle.systems.specs.Meaning.{Meaning, Move}
use Rattle.formulas.specs.declared.node.Term.{Term}
use Rattle.formulas.specs.Truths.{weigh, total}
use Rattle.claims.specs.Sums.{coefficients, coefficients_of, no_target}
use Rattle.claims.proofs.Pastes.{counting_more}
use Rattle.claims.proofs.Soundness.{Light}

swapped : (b : Bool) (c w : ℕ) → c * cond b w 0 ≡ w * cond b c 0
swapped true c w = mul_comm c w
swapped false c w = mul-zero c ∙ sym (mul-zero w)

-- one target more, for all the terms at once
total_push : (at : ℕ → ℕ → Bool) (ks : List Term) (mv : Move) (t : Target) → total at ks (mv ++ (t ∷ [])) ≡ total at ks mv + t.weight * coefficients_of (λ i. at i t.state) ks
total_push at [] mv t = omega (arith, mul-zero t.weight)
total_push at (k ∷ ks) mv t =
    let c = k.coefficient in
    let P = at k.node in
    let b = P t.state in
    let rest = coefficients_of (λ i. at i t.state) ks in
    let whole = sum_by-cons (λ u. u.coefficient * weigh (at u.node) (mv ++ (t ∷ []))) k ks in
    let before = sum_by-cons (λ u. u.coefficient * weigh (at u.node) mv) k ks in
    let here = ap (λ n. c * n) (sum_by_push (λ u. cond (P u.state) u.weight 0) mv t) ∙ mul-add c (weigh P mv) (cond b t.weight 0) in
    let spread = ap (λ n. t.weight * n) (sum_by-cons (λ u. cond (at u.node t.state) u.coefficient 0) k ks) ∙ mul-add t.weight (cond b c 0) rest in
    omega (arith, whole, before, here, spread, swapped b c t.weight, total_push at ks mv t)

total_none : (at : ℕ → ℕ → Bool) (ks : List Term) → total at ks [] ≡ 0
total_none at [] = refl
total_none at (k ∷ ks) = omega (arith, sum_by-cons (λ u. u.coefficient * weigh (at u.node) []) k ks, mul-zero k.coefficient, total_none at ks)

-- what the target at a place adds
abbrev pub part : (ℕ → ℕ → Bool) → List Term → Move → ℕ → ℕ
part at ks mv i = (get_or mv i no_target).weight * coefficients_of (λ j. at j (get_or mv i no_target).state) ks

total_parts : (at : ℕ → ℕ → Bool) (ks : List Term) (mv : Move) (n : ℕ) → n ≤ length mv → sum_by (part at ks mv) (range_with_len 0 n) ≡ total at ks (take n mv)
total_parts at ks mv zero h = sym (total_none at ks)
total_parts at ks mv (suc n) h =
    let next : suc n ≡ n + 1 = omega arith in
    omega (
      arith,
      ap (λ m. sum_by (part at ks mv) (range_with_len 0 m)) next,
      ap (sum_by (part at ks mv)) (counting_more n),
      sum_by_push (part at ks mv) (range_with_len 0 n) n,
      total_parts at ks mv n (omega arith),
      total_push at ks (take n mv) (get_or mv n no_target),
      ap (total at ks) (take_more mv n no_target (omega arith)),
      ap (λ m. total at ks (take m mv)) next,
    )

-- all the targets together
pub total_whole : (at : ℕ → ℕ → Bool) (ks : List Term) (mv : Move) (n : ℕ) → n ≡ length mv → sum_by (part at ks mv) (range_with_len 0 n) ≡ total at ks mv
total_whole at ks mv n e = total_parts at ks mv n (omega arith) ∙ ap (total at ks) (take_all n mv (omega arith))

chosen : (b : Bool) (n : ℕ) → cond b n 0 ≤ n
chosen true n = omega arith
chosen false n = omega arith

weigh-le : (P : ℕ → Bool) (mv : Move) → weigh P mv ≤ sum_by (λ t. t.weight) mv
weigh-le P [] = omega arith
weigh-le P (t ∷ mv) =
    omega (arith, chosen (P t.state) t.weight, sum_by-cons (λ u. cond (P u.state) u.weight 0) t mv, sum_by-cons (λ u. u.weight) t mv, weigh-le P mv)

pub coefficients-le : (P : ℕ → Bool) (ks : List Term) → coefficients_of P ks ≤ coefficients ks
coefficients-le P [] = omega arith
coefficients-le P (k ∷ ks) =
    omega (arith, chosen (P k.node) k.coefficient, sum_by-cons (λ u. cond (P u.node) u.coefficient 0) k ks, sum_by-cons (λ u. u.coefficient) k ks, coefficients-le P ks)

total-le : (at : ℕ → ℕ → Bool) (ks : List Term) (mv : Move) (w : ℕ) → sum_by (λ t. t.weight) mv ≤ w → total at ks mv ≤ coefficients ks * w
total-le at [] mv w l = omega arith
total-le at (k ∷ ks) mv w l =
    let heavy : weigh (at k.node) mv ≤ w = omega (arith, weigh-le (at k.node) mv) in
    let one = mul-le-mul_left k.coefficient heavy in
    let grown = ap (λ n. n * w) (sum_by-cons (λ u. u.coefficient) k ks) ∙ add-mul k.coefficient (coefficients ks) w in
    omega (arith, sum_by-cons (λ u. u.coefficient * weigh (at u.node) mv) k ks, total-le at ks mv w l, one, grown)

-- no sum wraps
pub total-fits : (M : Meaning) (at : ℕ → ℕ → Bool) (ks : List Term) (mv : Move) → Light M mv → coefficients ks * M.mass ≤ 1000000000000000000 → total at ks mv ≤ 1000000000000000000
total-fits M at ks mv l small = omega (arith, total-le at ks mv M.mass l.whole)

pub share_fits : (M : Meaning) (P : ℕ → Bool) (ks : List Term) (mv : Move) → Light M mv → coefficients ks * M.mass ≤ 1000000000000000000 → (i : ℕ) → i < length mv → (get_or mv i no_target).weight * coefficients_of P ks ≤ 1000000000000000000
share_fits M P ks mv l small i h =
    omega (arith, mul-le (get_or mv i no_target).weight (coefficients_of P ks) M.mass (coefficients ks) (omega (arith, get_or-le-sum_by (λ t. t.weight) mv i no_target h, l.whole)) (coefficients-le P ks), mul_comm M.mass (coefficients ks))

-- what is asked for by its index is there
module _ (mv : Move) (i : ℕ) (h : i < length mv) where
  pub target_is : (t : Target) → Some t ≡ slice_get mv i → t ≡ get_or mv i no_target
  target_is t e = let f = slice_get-get_or mv i no_target h in cc
