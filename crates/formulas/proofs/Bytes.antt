-- The words of the language by their bytes.
use Rattle.std.proofs.Common.{◌≡◌, ℕ, zero, suc, ◌^◌, ◌<◌, ◌≤◌, min, Bool, true, false, cond, eqb, leb, ◌⊎◌, ◌↔◌, List, [], ◌∷◌, ◌++◌, map, length, get_or, Some, None, Option, sym, refl, ap, ◌∙◌, subst, ap₂, inl, inr, arith, rules}
use Rattle.std.proofs.lemmas.Fmt.{decimal_digit, decimal_nonempty, first_decimal, digits_decimal, digits_value-decimal, decimal-digits_value}
use Rattle.std.proofs.lemmas.Str.Parse.{IsNumeralModel, numerals_by_fold}
use Rattle.std.proofs.lemmas.Bool.{and_parts, and_left, eqb-true, eqb-false, ne_eqb, leb-true, both_ways}
use Rattle.std.specs.Fmt as written
use Rattle.formulas.specs.declared.token.Token.{Token}
use Rattle.formulas.specs.declared.token.Token.TheVariants.{Open, Close, True, False, And, Not, Dia, Here, Prob, AtLeast, Plus, Times, Numeral}
use Rattle.formulas.specs.Grammar.{item}
use Rattle.formulas.specs.Spelling.{word, Small, parts, Spells}
use Rattle.formulas.specs.Tokens.{same, digit, digits, decimal, canonical, numeral_of, numeral_token, reserved, entry, token_of}
use Rattle.formulas.specs.Trees.{Tree, leaf, conj, neg, dia, here, at_least, Products, none, product, leaf_token, summed, spell, spell_products, InRange, InRanges, coefficients}
use Rattle.formulas.specs.Words.{onward, part}

own : IsNumeralModel (λ ds. digits ds ≡ true) (decimal 0)
own = numerals_by_fold _ (search rules) decimal (search rules)

same-told : (v w : List ℕ) → same v w ≡ true → v ≡ w
same-told [] [] e = refl
same-told [] (y ∷ ys) e = absurd (both_ways false refl e)
same-told (x ∷ xs) [] e = absurd (both_ways false refl e)
same-told (x ∷ xs) (y ∷ ys) e =
    let h = and_parts (eqb x y) (same xs ys) e in
    ap₂ (λ a l. a ∷ l) (eqb-true x y h.0) (same-told xs ys h.1)

-- a numeral has digits, and no zero in front of another
record Plain (w : List ℕ) : Type 0 where
  all : digits w ≡ true
  some : 0 < length w
  lead : get_or w 0 0 ≡ 48 → length w ≡ 1

plain-canonical : (w : List ℕ) → Plain w → canonical w ≡ true
plain-canonical [] p = let h = p.some in absurd (let z : ⊥ = omega arith in z)
plain-canonical (b ∷ []) p = p.all
plain-canonical (b ∷ c ∷ bs) p =
    ap (λ t. cond t false (digits (b ∷ c ∷ bs))) (ne_eqb b 48 (λ e. let h : suc (suc (length bs)) ≡ 1 = p.lead e in omega arith)) ∙ p.all

canonical-plain : (w : List ℕ) → canonical w ≡ true → Plain w
canonical-plain [] e = absurd (both_ways false refl e)
canonical-plain (b ∷ []) e = record { all = e; some = omega arith; lead = λ _. refl }
canonical-plain (b ∷ c ∷ bs) e = by (eqb b 48) refl e
  where
    by : (t : Bool) → eqb b 48 ≡ t → cond t false (digits (b ∷ c ∷ bs)) ≡ true → Plain (b ∷ c ∷ bs)
    by true h k = absurd (both_ways false refl k)
    by false h k = record { all = k; some = omega arith; lead = λ z. absurd (eqb-false b 48 h z) }

decimal-lead : (n : ℕ) → n < 2 ^ 64 → get_or (written.decimal n) 0 0 ≡ 48 → length (written.decimal n) ≡ 1
decimal-lead zero h e = ap length (decimal_digit 0 (omega arith))
decimal-lead (suc n) h e = absurd (let k = first_decimal (suc n) (omega arith) h in let z : ⊥ = omega arith in z)

decimal-plain : (n : ℕ) → n < 2 ^ 64 → Plain (written.decimal n)
decimal-plain n h = record { all = digits_decimal own n h; some = decimal_nonempty n h; lead = decimal-lead n h }

-- no reserved word begins with a digit
abbrev Apart : List ℕ → List (List ℕ × Token) → Type 0
Apart w [] = Unit {0}
Apart w (e ∷ es) = (same w e.0 ≡ false) × Apart w es

entry_apart : (w : List ℕ) (es : List (List ℕ × Token)) (o : Option Token) → Apart w es → entry w es o ≡ o
entry_apart w [] o h = refl
entry_apart w (e ∷ es) o h = ap (λ t. cond t (Some e.1) (entry w es o)) h.0 ∙ entry_apart w es o h.1

digit_apart : (w : List ℕ) → digits w ≡ true → 0 < length w → Apart w reserved
digit_apart [] e h = absurd (let z : ⊥ = omega arith in z)
digit_apart (b ∷ bs) e h =
    let d = and_parts (leb 48 b) (leb b 57) (and_parts (digit b) (digits bs) e).0 in
    let low = leb-true 48 b d.0 in
    let high = leb-true b 57 d.1 in (
      and_left _ _ (ne_eqb b 40 (λ k. omega arith)),
      (
        and_left _ _ (ne_eqb b 41 (λ k. omega arith)),
        (
          and_left _ _ (ne_eqb b 43 (λ k. omega arith)),
          (
            and_left _ _ (ne_eqb b 42 (λ k. omega arith)),
            (
              and_left _ _ (ne_eqb b 62 (λ k. omega arith)),
              (
                and_left _ _ (ne_eqb b 97 (λ k. omega arith)),
                (
                  and_left _ _ (ne_eqb b 110 (λ k. omega arith)),
                  (
                    and_left _ _ (ne_eqb b 100 (λ k. omega arith)),
                    (
                      and_left _ _ (ne_eqb b 116 (λ k. omega arith)),
                      (
                        and_left _ _ (ne_eqb b 104 (λ k. omega arith)),
                        (
                          and_left _ _ (ne_eqb b 112 (λ k. omega arith)),
                          (and_left _ _ (ne_eqb b 102 (λ k. omega arith)), tt),
                        ),
                      ),
                    ),
                  ),
                ),
              ),
            ),
          ),
        ),
      ),
    )

numeral_word : (n : ℕ) → n ≤ 1073741824 → token_of (written.decimal n) ≡ Some (Numeral n)
numeral_word n h =
    let small : n < 2 ^ 64 = omega arith in
    let w = written.decimal n in
    let p = decimal-plain n small in
    entry_apart w reserved (numeral_token (numeral_of w)) (digit_apart w p.all p.some)
    ∙ ap (λ t. numeral_token (cond t (Some (min (decimal 0 w) 1073741825)) None)) (plain-canonical w p)
    ∙ ap (λ m. Some (Numeral m)) (let v : decimal 0 w ≡ n = digits_value-decimal own n small in let z : min (decimal 0 w) 1073741825 ≡ n = omega arith in z)

pub token_word : (t : Token) → Small t → token_of (word t) ≡ Some t
token_word Open h = refl
token_word Close h = refl
token_word True h = refl
token_word False h = refl
token_word And h = refl
token_word Not h = refl
token_word Dia h = refl
token_word Here h = refl
token_word Prob h = refl
token_word AtLeast h = refl
token_word Plus h = refl
token_word Times h = refl
token_word (Numeral n) h = numeral_word n h

-- each entry has the bytes of its token
abbrev Named : List (List ℕ × Token) → Type 0
Named [] = Unit {0}
Named (e ∷ es) = (e.0 ≡ word e.1) × Named es

entry-told : (w : List ℕ) (t : Token) (es : List (List ℕ × Token)) (o : Option Token) → Named es → entry w es o ≡ Some t → (w ≡ word t) ⊎ (o ≡ Some t)
entry-told w t [] o h e = inr e
entry-told w t (k ∷ es) o h e = by (same w k.0) refl (entry-told w t es o h.1) e
  where
    by : (b : Bool) → same w k.0 ≡ b → (entry w es o ≡ Some t → (w ≡ word t) ⊎ (o ≡ Some t)) → cond b (Some k.1) (entry w es o) ≡ Some t
        → (w ≡ word t) ⊎ (o ≡ Some t)
    by true q later z = let r : k.1 ≡ t = cc in inl (same-told w k.0 q ∙ h.0 ∙ ap word r)
    by false q later z = later z

reserved-named : Named reserved
reserved-named = (refl, (refl, (refl, (refl, (refl, (refl, (refl, (refl, (refl, (refl, (refl, (refl, tt))))))))))))

numeral_told : (w : List ℕ) (t : Token) → Small t → numeral_token (numeral_of w) ≡ Some t → w ≡ word t
numeral_told w t s e = by (canonical w) refl e
  where
    by : (b : Bool) → canonical w ≡ b → numeral_token (cond b (Some (min (decimal 0 w) 1073741825)) None) ≡ Some t → w ≡ word t
    by true q z =
        let r : Numeral (min (decimal 0 w) 1073741825) ≡ t = cc in
        let p = canonical-plain w q in
        let k : min (decimal 0 w) 1073741825 ≤ 1073741824 = subst (λ x. Small x) (sym r) s in
        let v : min (decimal 0 w) 1073741825 ≡ decimal 0 w = omega arith in
        sym (decimal-digits_value own w p.all p.some p.lead (let u : decimal 0 w < 2 ^ 64 = omega arith in u))
        ∙ ap (λ n. written.decimal n) (sym v) ∙ ap word r
    by false q z = absurd (let y : ◌≡◌ {A = ℕ} 0 1 = cc in let x : ⊥ = omega arith in x)

pub word_token : (w : List ℕ) (t : Token) → Small t → token_of w ≡ Some t → w ≡ word t
word_token w t s e =
    elim (entry-told w t reserved (numeral_token (numeral_of w)) reserved-named e) [ inl h ↦ h | inr h ↦ numeral_told w t s h ]

-- small numerals alone
abbrev AllSmall : List Token → Type 0
AllSmall [] = Unit {0}
AllSmall (t ∷ ts) = Small t × AllSmall ts

small-append : (ks ls : List Token) → AllSmall ks → AllSmall ls → AllSmall (ks ++ ls)
small-append [] ls h k = k
small-append (t ∷ ks) ls h k = (h.0, small-append ks ls h.1 k)

close-small : (ks : List Token) → AllSmall ks → AllSmall (ks ++ (Close ∷ []))
close-small ks h = small-append ks (Close ∷ []) h (tt, tt)

leaf_small : (b : Bool) → AllSmall (leaf_token b ∷ [])
leaf_small true = (tt, tt)
leaf_small false = (tt, tt)

summed-small : (ks : Products) (l : List Token) → AllSmall l → AllSmall (summed ks l)
summed-small none l h = (omega arith, tt)
summed-small (product c s none) l h = h
summed-small (product c s (product d r ks)) l h = (tt, (tt, close-small l h))

mutual
  spell-small : (x : Tree) → InRange x → AllSmall (spell x)
  spell-small (leaf b) h = leaf_small b
  spell-small (conj x y) h = (tt, (tt, small-append (spell x) _ (spell-small x h.0) (close-small (spell y) (spell-small y h.1))))
  spell-small (neg x) h = (tt, (tt, close-small (spell x) (spell-small x h)))
  spell-small (dia a d) h = (tt, (tt, (omega arith, close-small (spell d) (spell-small d h.1))))
  spell-small (here d) h = (tt, (tt, close-small (spell d) (spell-small d h)))
  spell-small (at_least ks t) h =
      (tt, (tt, small-append (summed ks (spell_products ks)) _ (summed-small ks (spell_products ks) (products-small ks h.0 h.2)) (omega arith, (tt, tt))))

  products-small : (ks : Products) → InRanges ks → coefficients ks ≤ 1000 → AllSmall (spell_products ks)
  products-small none h k = tt
  products-small (product c s ks) h k =
      (tt, (tt, (omega arith, (tt, (tt, small-append (spell s) _ (spell-small s h.1) (tt, (tt, products-small ks h.2 (omega arith))))))))

-- words that have tokens, one by one
words-told : (ps : List (List ℕ)) (ts : List Token) → AllSmall ts → map token_of ps ≡ map Some ts → ps ≡ map word ts
words-told [] [] h e = refl
words-told [] (t ∷ ts) h e = absurd (let z : ◌≡◌ {A = ℕ} 0 1 = cc in let x : ⊥ = omega arith in x)
words-told (p ∷ ps) [] h e = absurd (let z : ◌≡◌ {A = ℕ} 0 1 = cc in let x : ⊥ = omega arith in x)
words-told (p ∷ ps) (t ∷ ts) h e =
    let q : token_of p ≡ Some t = cc in
    let r : map token_of ps ≡ map Some ts = cc in
    ap₂ (λ a l. a ∷ l) (word_token p t h.0 q) (words-told ps ts h.1 r)

tokens-told : (ts : List Token) → AllSmall ts → map token_of (map word ts) ≡ map Some ts
tokens-told [] h = refl
tokens-told (t ∷ ts) h = ap₂ (λ a l. a ∷ l) (token_word t h.0) (tokens-told ts h.1)

tokens-parts : (text : List ℕ) (ws : List (ℕ × ℕ)) → map (λ i. i.1) (map (item text) ws) ≡ map token_of (map (λ w. part text w.0 w.1) ws)
tokens-parts text [] = refl
tokens-parts text (w ∷ ws) = ap (λ l. token_of (part text w.0 w.1) ∷ l) (tokens-parts text ws)

pub spells-parts : (text : List ℕ) (t : Tree) → InRange t → Spells text t ↔ (parts text ≡ map word (spell t))
spells-parts text t h =
    let s = spell-small t h in
    let e = tokens-parts text (onward text 0) in (
      (λ k. words-told (parts text) (spell t) s (sym e ∙ k)),
      (λ k. e ∙ ap (λ l. map token_of l) k ∙ tokens-told (spell t) s),
    )
