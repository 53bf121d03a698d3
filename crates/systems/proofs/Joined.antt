-- A set of bits with one more.
use Rattle.std.proofs.Common.{◌≡◌, ℕ, suc, ◌+◌, ◌-◌, ◌*◌, ◌/◌, ◌%◌, ◌^◌, ◌<◌, ◌≤◌, max, ◌||◌, eqb, ◌⊎◌, sym, refl, ap, ◌∙◌, inl, inr, pow-suc, arith}
use native.Mathlib.Nat.{div-eq_of_lt, mul-mod_left}
use lib.Bits.{bit_or, or_step}
use Rattle.std.proofs.lemmas.Nat.{pow-add, pow_below, shl-shr, or_shr, mod-mul-add, mod_below, one_shl}
use Rattle.std.proofs.lemmas.Bool.{cases_order, cases_lt, cases_eq, eq-eqb, ne_eqb, lt-ltb, le-ltb}
use Rattle.systems.specs.declared.actions.ActionSet.{ActionSet}
use Rattle.systems.specs.Actions.{has}

-- the one bit of a power
same_bit : (b : ℕ) → 2 ^ b / 2 ^ b % 2 ≡ 1
same_bit b = let e : 1 * 2 ^ b ≡ 2 ^ b = omega arith in ap (λ (x : ℕ). x / 2 ^ b % 2) (sym e) ∙ ap (λ (x : ℕ). x % 2) (shl-shr 1 b)

other_bit : (a b : ℕ) → (a ≡ b → ⊥) → 2 ^ b / 2 ^ a % 2 ≡ 0
other_bit a b ne = go (cases_order a b)
  where
    go : (a ≡ b) ⊎ ((a < b) ⊎ (b < a)) → 2 ^ b / 2 ^ a % 2 ≡ 0
    go (inl e) = absurd (ne e)
    go (inr (inr g)) = ap (λ (x : ℕ). x % 2) (div-eq_of_lt (pow_below b a g))
    go (inr (inl l)) =
        let j = b - a - 1 in
        let e : b ≡ suc j + a = omega arith in
        ap (λ (x : ℕ). 2 ^ x / 2 ^ a % 2) e
        ∙ ap (λ (x : ℕ). x / 2 ^ a % 2) (pow-add 2 (suc j) a)
        ∙ ap (λ (x : ℕ). x % 2) (shl-shr (2 ^ suc j) a)
        ∙ ap (λ (x : ℕ). x % 2) (pow-suc 2 j)
        ∙ mul-mod_left (2 ^ j) 2

or_bit : (x y a : ℕ) → bit_or x y / 2 ^ a % 2 ≡ max (x / 2 ^ a % 2) (y / 2 ^ a % 2)
or_bit x y a =
    let p = x / 2 ^ a in
    let q = y / 2 ^ a in
    let small : max (p % 2) (q % 2) < 2 = omega (arith, mod_below p 2 (omega arith), mod_below q 2 (omega arith)) in
    ap (λ (z : ℕ). z % 2) (or_shr x y a ∙ or_step p q) ∙ mod-mul-add (bit_or (p / 2) (q / 2)) 2 (max (p % 2) (q % 2)) small

pub has_with : (set : ActionSet) (b a : ℕ) → b ≤ 31 → has (record { bits = bit_or set.bits (1 * 2 ^ b % 4294967296) }) a ≡ (eqb a b || has set a)
has_with set b a h = ap (λ (y : ℕ). has (record { bits = bit_or set.bits y }) a) (one_shl b 32 (omega arith)) ∙ go (cases_lt a 32) (cases_eq a b)
  where
    go : (a < 32) ⊎ (32 ≤ a) → (a ≡ b) ⊎ (a ≡ b → ⊥) → has (record { bits = bit_or set.bits (2 ^ b) }) a ≡ (eqb a b || has set a)
    go (inr g) (inl e) = absurd (omega arith)
    go (inr g) (inr ne) = rw (le-ltb a 32 g, ne_eqb a b ne) refl
    go (inl l) (inl e) =
        let s : 2 ^ b / 2 ^ a % 2 ≡ 1 = ap (λ (x : ℕ). 2 ^ b / 2 ^ x % 2) e ∙ same_bit b in
        let m = mod_below (set.bits / 2 ^ a) 2 (omega arith) in
        let j : bit_or set.bits (2 ^ b) / 2 ^ a % 2 ≡ 1 = or_bit set.bits (2 ^ b) a ∙ omega arith in
        rw (lt-ltb a 32 l, eq-eqb a b e, j) refl
    go (inl l) (inr ne) =
        let j : bit_or set.bits (2 ^ b) / 2 ^ a % 2 ≡ set.bits / 2 ^ a % 2 = or_bit set.bits (2 ^ b) a ∙ omega (arith, other_bit a b ne) in
        rw (lt-ltb a 32 l, ne_eqb a b ne, j) refl
