use Rattle.std.proofs.Common.{◌≡◌, ℕ, ◌+◌, ◌-◌, ◌*◌, ◌<◌, ◌≤◌, min, List, [], ◌∷◌, length, get_or, drop, sym, ap, ◌∙◌, add-one, arith, drop-cons}
use Rattle.std.proofs.lemmas.List.{drop_all}
use Rattle.std.proofs.lemmas.Bool.Decides.{nat_tests}
use Rattle.formulas.specs.Tokens.{digits, decimal, canonical}

-- an over-large number stays over-large
capped : (a b d : ℕ) → min a 1073741825 ≡ min b 1073741825 → min (a * 10 + d) 1073741825 ≡ min (b * 10 + d) 1073741825
capped a b d e = grind arith

decimal-capped : (bs : List ℕ) (a b : ℕ) → min a 1073741825 ≡ min b 1073741825 → min (decimal a bs) 1073741825 ≡ min (decimal b bs) 1073741825
decimal-capped [] a b e = e
decimal-capped (d ∷ bs) a b e = decimal-capped bs (a * 10 + (d - 48)) (b * 10 + (d - 48)) (capped a b (d - 48) e)

min-min : (a : ℕ) → min (min a 1073741825) 1073741825 ≡ min a 1073741825
min-min a = grind arith

-- the digits before i are read, as v
pub record Sofar (w : List ℕ) (i v : ℕ) : Type 0 where
  pub small : v ≤ 1073741825
  pub value : min (decimal v (drop i w)) 1073741825 ≡ min (decimal 0 w) 1073741825
  pub rest : digits (drop i w) ≡ canonical w

module _ (w : List ℕ) (i v : ℕ) (h : Sofar w i v) (lt : i < length w) where
  next : drop i w ≡ get_or w i 0 ∷ drop (i + 1) w
  next = rw (add-one, drop-cons w i 0)

  pub more : (u : ℕ) → u ≡ min (v * 10 + (get_or w i 0 - 48)) 1073741825 → 48 ≤ get_or w i 0 → get_or w i 0 ≤ 57 → Sofar w (i + 1) u
  more u e low high = record {
    small = grind arith;
    value = decimal-capped (drop (i + 1) w) u (v * 10 + (get_or w i 0 - 48)) (ap (λ x. min x 1073741825) e ∙ min-min _) ∙ sym (ap (λ l. min (decimal v l) 1073741825) next) ∙ h.value;
    rest = sym (here (get_or w i 0) (drop (i + 1) w) low high) ∙ sym (ap digits next) ∙ h.rest;
  }
    where
      here : (d : ℕ) (l : List ℕ) → 48 ≤ d → d ≤ 57 → digits (d ∷ l) ≡ digits l
      here d l a b = grind (arith, nat_tests)

-- the elements of w from i on are those of l
abbrev pub Spells : List ℕ → ℕ → List ℕ → Type 0
Spells w i [] = Unit {0}
Spells w i (x ∷ xs) = (get_or w i 0 ≡ x) × Spells w (i + 1) xs

spelled_from : (l w : List ℕ) (i : ℕ) → length w ≡ i + length l → Spells w i l → drop i w ≡ l
spelled_from [] w i e s = drop_all i w (omega arith)
spelled_from (x ∷ xs) w i e s =
    let lt : i < length w = omega arith in
    drop-cons w i 0 lt ∙ rw (s.0, ← add-one, spelled_from xs w (i + 1) (omega arith) s.1)

pub spelled : (w l : List ℕ) → length w ≡ length l → Spells w 0 l → w ≡ l
spelled w l e s = spelled_from l w 0 (omega arith) s
