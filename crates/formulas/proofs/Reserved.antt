use Rattle.std.proofs.Common.{◌≡◌, ℕ, ◌≤◌, true, eqb, List, [], ◌∷◌, length, get_or, Option, refl, ap, ◌∙◌, ⊎_elim, arith}
use Rattle.std.proofs.lemmas.Bool.{cases_Bool, cond-false, and_parts, eqb-true}
use Rattle.formulas.specs.declared.token.Token.{Token}
use Rattle.formulas.specs.Tokens.{same, reserved, entry, token_of, numeral_of, numeral_token}

same_true : (v w : List ℕ) → same v w ≡ true → v ≡ w
same_true [] [] e = refl
same_true [] (y ∷ ys) e = absurd (grind arith)
same_true (x ∷ xs) [] e = absurd (grind arith)
same_true (x ∷ xs) (y ∷ ys) e = let p = and_parts (eqb x y) (same xs ys) e in let h = eqb-true x y p.0 in let t = same_true xs ys p.1 in cc

abbrev pub Apart : List ℕ → List (List ℕ × Token) → Type 0
Apart w [] = Unit {0}
Apart w (e ∷ es) = (w ≡ e.0 → ⊥) × Apart w es

entry_none : (w : List ℕ) (es : List (List ℕ × Token)) (o : Option Token) → Apart w es → entry w es o ≡ o
entry_none w [] o a = refl
entry_none w (e ∷ es) o a = ⊎_elim (λ t. absurd (a.0 (same_true w e.0 t))) (λ f. cond-false (same w e.0) _ _ f ∙ entry_none w es o a.1) (cases_Bool (same w e.0))

pub not-reserved : (w : List ℕ) → Apart w reserved → token_of w ≡ numeral_token (numeral_of w)
not-reserved w a = entry_none w reserved _ a

pub other_0 : (w : List ℕ) → length w ≡ 0 → Apart w reserved
other_0 w n = (λ e. omega (arith, ap length e), (λ e. omega (arith, ap length e), (λ e. omega (arith, ap length e), (λ e. omega (arith, ap length e), (λ e. omega (arith, ap length e), (λ e. omega (arith, ap length e), (λ e. omega (arith, ap length e), (λ e. omega (arith, ap length e), (λ e. omega (arith, ap length e), (λ e. omega (arith, ap length e), (λ e. omega (arith, ap length e), (λ e. omega (arith, ap length e), tt))))))))))))

pub other_1 : (w : List ℕ) → length w ≡ 1 → (get_or w 0 0 ≡ 40 → ⊥) → (get_or w 0 0 ≡ 41 → ⊥) → (get_or w 0 0 ≡ 43 → ⊥) → (get_or w 0 0 ≡ 42 → ⊥) → Apart w reserved
other_1 w n p0 p1 p2 p3 = (λ e. p0 (ap (λ l. get_or l 0 0) e), (λ e. p1 (ap (λ l. get_or l 0 0) e), (λ e. p2 (ap (λ l. get_or l 0 0) e), (λ e. p3 (ap (λ l. get_or l 0 0) e), (λ e. omega (arith, ap length e), (λ e. omega (arith, ap length e), (λ e. omega (arith, ap length e), (λ e. omega (arith, ap length e), (λ e. omega (arith, ap length e), (λ e. omega (arith, ap length e), (λ e. omega (arith, ap length e), (λ e. omega (arith, ap length e), tt))))))))))))

pub other_2 : (w : List ℕ) → length w ≡ 2 → (get_or w 0 0 ≡ 62 → get_or w 1 0 ≡ 61 → ⊥) → Apart w reserved
other_2 w n p4 = (λ e. omega (arith, ap length e), (λ e. omega (arith, ap length e), (λ e. omega (arith, ap length e), (λ e. omega (arith, ap length e), (λ e. p4 (ap (λ l. get_or l 0 0) e) (ap (λ l. get_or l 1 0) e), (λ e. omega (arith, ap length e), (λ e. omega (arith, ap length e), (λ e. omega (arith, ap length e), (λ e. omega (arith, ap length e), (λ e. omega (arith, ap length e), (λ e. omega (arith, ap length e), (λ e. omega (arith, ap length e), tt))))))))))))

pub other_3 : (w : List ℕ) → length w ≡ 3 → (get_or w 0 0 ≡ 97 → get_or w 1 0 ≡ 110 → get_or w 2 0 ≡ 100 → ⊥) → (get_or w 0 0 ≡ 110 → get_or w 1 0 ≡ 111 → get_or w 2 0 ≡ 116 → ⊥) → (get_or w 0 0 ≡ 100 → get_or w 1 0 ≡ 105 → get_or w 2 0 ≡ 97 → ⊥) → Apart w reserved
other_3 w n p5 p6 p7 = (λ e. omega (arith, ap length e), (λ e. omega (arith, ap length e), (λ e. omega (arith, ap length e), (λ e. omega (arith, ap length e), (λ e. omega (arith, ap length e), (λ e. p5 (ap (λ l. get_or l 0 0) e) (ap (λ l. get_or l 1 0) e) (ap (λ l. get_or l 2 0) e), (λ e. p6 (ap (λ l. get_or l 0 0) e) (ap (λ l. get_or l 1 0) e) (ap (λ l. get_or l 2 0) e), (λ e. p7 (ap (λ l. get_or l 0 0) e) (ap (λ l. get_or l 1 0) e) (ap (λ l. get_or l 2 0) e), (λ e. omega (arith, ap length e), (λ e. omega (arith, ap length e), (λ e. omega (arith, ap length e), (λ e. omega (arith, ap length e), tt))))))))))))

pub other_4 : (w : List ℕ) → length w ≡ 4 → (get_or w 0 0 ≡ 116 → get_or w 1 0 ≡ 114 → get_or w 2 0 ≡ 117 → get_or w 3 0 ≡ 101 → ⊥) → (get_or w 0 0 ≡ 104 → get_or w 1 0 ≡ 101 → get_or w 2 0 ≡ 114 → get_or w 3 0 ≡ 101 → ⊥) → (get_or w 0 0 ≡ 112 → get_or w 1 0 ≡ 114 → get_or w 2 0 ≡ 111 → get_or w 3 0 ≡ 98 → ⊥) → Apart w reserved
other_4 w n p8 p9 p10 = (λ e. omega (arith, ap length e), (λ e. omega (arith, ap length e), (λ e. omega (arith, ap length e), (λ e. omega (arith, ap length e), (λ e. omega (arith, ap length e), (λ e. omega (arith, ap length e), (λ e. omega (arith, ap length e), (λ e. omega (arith, ap length e), (λ e. p8 (ap (λ l. get_or l 0 0) e) (ap (λ l. get_or l 1 0) e) (ap (λ l. get_or l 2 0) e) (ap (λ l. get_or l 3 0) e), (λ e. p9 (ap (λ l. get_or l 0 0) e) (ap (λ l. get_or l 1 0) e) (ap (λ l. get_or l 2 0) e) (ap (λ l. get_or l 3 0) e), (λ e. p10 (ap (λ l. get_or l 0 0) e) (ap (λ l. get_or l 1 0) e) (ap (λ l. get_or l 2 0) e) (ap (λ l. get_or l 3 0) e), (λ e. omega (arith, ap length e), tt))))))))))))

pub other_5 : (w : List ℕ) → length w ≡ 5 → (get_or w 0 0 ≡ 102 → get_or w 1 0 ≡ 97 → get_or w 2 0 ≡ 108 → get_or w 3 0 ≡ 115 → get_or w 4 0 ≡ 101 → ⊥) → Apart w reserved
other_5 w n p11 = (λ e. omega (arith, ap length e), (λ e. omega (arith, ap length e), (λ e. omega (arith, ap length e), (λ e. omega (arith, ap length e), (λ e. omega (arith, ap length e), (λ e. omega (arith, ap length e), (λ e. omega (arith, ap length e), (λ e. omega (arith, ap length e), (λ e. omega (arith, ap length e), (λ e. omega (arith, ap length e), (λ e. omega (arith, ap length e), (λ e. p11 (ap (λ l. get_or l 0 0) e) (ap (λ l. get_or l 1 0) e) (ap (λ l. get_or l 2 0) e) (ap (λ l. get_or l 3 0) e) (ap (λ l. get_or l 4 0) e), tt))))))))))))

pub other_6 : (w : List ℕ) → 6 ≤ length w → Apart w reserved
other_6 w n = (λ e. omega (arith, ap length e), (λ e. omega (arith, ap length e), (λ e. omega (arith, ap length e), (λ e. omega (arith, ap length e), (λ e. omega (arith, ap length e), (λ e. omega (arith, ap length e), (λ e. omega (arith, ap length e), (λ e. omega (arith, ap length e), (λ e. omega (arith, ap length e), (λ e. omega (arith, ap length e), (λ e. omega (arith, ap length e), (λ e. omega (arith, ap length e), tt))))))))))))
