-- What it means that a reader answers rightly, for any language, and how this passes on from reader to reader.
use Rattle.std.proofs.Common.{◌≡◌, ℕ, List, [], ◌∷◌, ◌++◌, map, Some, None, Ok, Err, Option, sym, refl, ap, ◌∙◌, subst}
use Rattle.std.proofs.lemmas.List.{append_assoc, map-append}
use Rattle.formulas.specs.declared.fault.GrammarFault.{GrammarFault}
use Rattle.formulas.specs.declared.fault.GrammarFault.TheVariants.{Word, Misplaced, OutOfRange, TooMany}
use Rattle.formulas.specs.declared.token.Token.{Token}
use Rattle.formulas.specs.declared.token.Token.TheVariants.{Open, Close, Numeral}
use Rattle.formulas.specs.declared.token.Lexeme.{Lexeme}
use Rattle.formulas.specs.Grammar.{Item, Out, then, lexed, next}
use Rattle.formulas.proofs.Written.{Toks}

abbrev pub toks : List Item → Toks
toks ws = map (λ i. i.1) ws

pub toks-append : (k l : List Item) (v : Toks) → toks (k ++ l) ++ v ≡ toks k ++ (toks l ++ v)
toks-append k l v = ap (λ u. u ++ v) (map-append (λ i. i.1) k l) ∙ append_assoc (toks k) (toks l) v

-- which limits are kept: none, those of numbers, those of sums and of depth
pub data Limits : Type 0 where
  free numbers sizes : Limits

-- a language, within limits: the value is said by the first words up to the second ones
abbrev pub Lang : Type 0 → Type 1
Lang A = Limits → A → Toks → Toks → Type 0

-- the words begin to say some value, whatever comes behind it
abbrev pub Begins : {A : Type 0} → Lang A → Toks → Type 0
Begins {A} L u = (b : A) × ((v : Toks) → (n : Toks) × L free b (u ++ n) v)

-- the words say some value, and may go on
abbrev pub Starts : {A : Type 0} → Lang A → Limits → Toks → Type 0
Starts {A} L w u = (b : A) × (v : Toks) × L w b u v

-- nothing that goes on with this word says a value
abbrev pub Bars : {A : Type 0} → Lang A → Limits → Toks → Option Token → Type 0
Bars L w u x = (r : Toks) → Starts L w (u ++ (x ∷ r)) → ⊥

-- why a fault is found behind u, where the words left are those of the list
abbrev pub Cause : {A : Type 0} → ℕ → Lang A → Toks → List Item → GrammarFault → Type 0
Cause stop L u [] f = (f ≡ Misplaced stop) × (Starts L free u → ⊥)
Cause stop L u (i ∷ is) (Word g) = (i.0 ≡ g.place) × (i.1 ≡ None) × Bars L free u i.1
Cause stop L u (i ∷ is) (Misplaced p) = (i.0 ≡ p) × ((t : Token) × (i.1 ≡ Some t)) × Bars L free u i.1
Cause stop L u (i ∷ is) (OutOfRange p) = (i.0 ≡ p) × ((n : ℕ) × (i.1 ≡ Some (Numeral n))) × Begins L (u ++ (i.1 ∷ [])) × Bars L numbers u i.1
Cause stop L u (i ∷ is) (TooMany p) = (i.0 ≡ p) × (i.1 ≡ Some Open) × Begins L (u ++ (i.1 ∷ [])) × Bars L sizes u i.1

abbrev pub Refused : {A : Type 0} → ℕ → Lang A → List Item → GrammarFault → Type 0
Refused stop L ws f =
    (front : List Item) × (back : List Item) × (ws ≡ front ++ back) × Begins L (toks front) × Cause stop L (toks front) back f

-- what is read is said by the words in front of what is left; or the fault is found where it should be
abbrev pub Right : {A : Type 0} → ℕ → Lang A → Out A → List Item → Type 0
Right stop L (Ok x) ws = (front : List Item) × (ws ≡ front ++ x.1) × ((w : Limits) (v : Toks) → L w x.0 (toks front ++ v) v)
Right stop L (Err f) ws = Refused stop L ws f

-- the value can be told from the words
abbrev pub Clear : {A : Type 0} → Lang A → Type 0
Clear {A} L = (w w' : Limits) (a a' : A) (u v v' : Toks) → L w a u v → L w' a' u v' → (a ≡ a') × (v ≡ v')

module _ {A B : Type 0} (stop : ℕ) (L : Lang A) (M : Lang B) where
  cause_behind : (p u : Toks) (begins : (k : Toks) → Begins L k → Begins M (p ++ k)) (starts : (w : Limits) (k : Toks) → Starts M w (p ++ k) → Starts L w k)
      (back : List Item) (f : GrammarFault) → Cause stop L u back f → Cause stop M (p ++ u) back f
  cause_behind p u begins starts [] f c = (c.0, λ s. c.1 (starts free u s))
  cause_behind p u begins starts (i ∷ is) (Word g) c = (c.0, c.1, λ r s. c.2 r (starts free _ (rw append_assoc at s)))
  cause_behind p u begins starts (i ∷ is) (Misplaced q) c = (c.0, c.1, λ r s. c.2 r (starts free _ (rw append_assoc at s)))
  cause_behind p u begins starts (i ∷ is) (OutOfRange q) c =
      (c.0, c.1, rw append_assoc (begins _ c.2), λ r s. c.3 r (starts numbers _ (rw append_assoc at s)))
  cause_behind p u begins starts (i ∷ is) (TooMany q) c =
      (c.0, c.1, rw append_assoc (begins _ c.2), λ r s. c.3 r (starts sizes _ (rw append_assoc at s)))

  -- a fault in one language is a fault in another, behind words
  pub refused-behind : (pre ws : List Item) (f : GrammarFault)
      → ((k : Toks) → Begins L k → Begins M (toks pre ++ k)) → ((w : Limits) (k : Toks) → Starts M w (toks pre ++ k) → Starts L w k)
      → Refused stop L ws f → Refused stop M (pre ++ ws) f
  refused-behind pre ws f begins starts r =
      let front = r.0 in
      let whole = subst (λ u. Begins M u × Cause stop M u r.1 f) (sym (map-append (λ i. i.1) pre front))
      (begins (toks front) r.3, cause_behind (toks pre) (toks front) begins starts r.1 f r.4) in
      (pre ++ front, r.1, ap (λ l. pre ++ l) r.2 ∙ sym (append_assoc pre front r.1), whole.0, whole.1)

-- a language is what is left of another behind words
pub right-behind : {A : Type 0} (stop : ℕ) (L M : Lang A) (pre ws : List Item) (o : Out A)
    → ((w : Limits) (b : A) (u v : Toks) → L w b u v → M w b (toks pre ++ u) v)
    → ((w : Limits) (b : A) (u v : Toks) → M w b (toks pre ++ u) v → L w b u v)
    → Right stop L o ws → Right stop M o (pre ++ ws)
right-behind stop L M pre ws (Ok x) to from r =
    (pre ++ r.0, ap (λ l. pre ++ l) r.1 ∙ sym (append_assoc pre r.0 x.1), λ w v. rw toks-append (to w x.0 _ v (r.2 w v)))
right-behind stop L M pre ws (Err f) to from r =
    refused-behind stop L M pre ws f
    (λ k g. (g.0, λ v. ((g.1 v).0, rw append_assoc (to free g.0 _ v (g.1 v).1))))
    (λ w k s. (s.0, s.1, from w s.0 k s.1 s.2)) r

-- a value, and then another behind it
abbrev pub Seq : {A B : Type 0} → Lang A → (A → Lang B) → Lang B
Seq {A} L M w b u v = (a : A) × (s : Toks) × L w a u s × M a w b s v

pub seq_begins : {A B : Type 0} (L : Lang A) (M : A → Lang B) (k : Toks) → Begins L k → ((a : A) → Begins (M a) []) → Begins (Seq L M) k
seq_begins L M k g some =
    let b = some g.0 in (b.0, λ v. let s = b.1 v in let n = g.1 s.0 in (n.0, (g.0, s.0, n.1, s.1)))

pub seq_clear : {A B : Type 0} (L : Lang A) (M : A → Lang B) → Clear L → ((a : A) → Clear (M a)) → Clear (Seq L M)
seq_clear L M l m w w' b b' u v v' h h' =
    let e = l w w' h.0 h'.0 u h.1 h'.1 h.2 h'.2 in
    let k = subst (λ a. M a w b h'.1 v) e.0 (subst (λ s. M h.0 w b s v) e.1 h.3) in
    m h'.0 w w' b b' h'.1 v v' k h'.3

module _ {A B : Type 0} (stop : ℕ) (L : Lang A) (M : A → Lang B) (clear : Clear L) where
  seq_rest : (a : A) (front rest : List Item) (o : Out B) → ((w : Limits) (v : Toks) → L w a (toks front ++ v) v)
      → Right stop (M a) o rest → Right stop (Seq L M) o (front ++ rest)
  seq_rest a front rest (Ok y) said r = (
    front ++ r.0,
    ap (λ l. front ++ l) r.1 ∙ sym (append_assoc front r.0 y.1),
    λ w v. (a, toks r.0 ++ v, rw toks-append (said w (toks r.0 ++ v)), r.2 w v),
  )
  seq_rest a front rest (Err f) said r =
      refused-behind stop (M a) (Seq L M) front rest f
      (λ k g. (g.0, λ v. ((g.1 v).0, (a, k ++ (g.1 v).0, rw append_assoc (said free (k ++ (g.1 v).0)), (g.1 v).1))))
      (λ w k s.
      let h = s.2 in
      let e = clear w w a h.0 (toks front ++ k) k h.1 (said w k) h.2 in
      (s.0, s.1, subst (λ c. M c w s.0 k s.1) (sym e.0) (subst (λ z. M h.0 w s.0 z s.1) (sym e.1) h.3)))
      r

  pub right-then : (o : Out A) (f : A → List Item → Out B) (ws : List Item) → ((a : A) → Begins (M a) []) → Right stop L o ws
      → ((a : A) (rest : List Item) → Right stop (M a) (f a rest) rest) → Right stop (Seq L M) (then o f) ws
  right-then (Ok x) f ws some r rs =
      subst (λ l. Right stop (Seq L M) (f x.0 x.1) l) (sym r.1) (seq_rest x.0 r.0 x.1 (f x.0 x.1) r.2 (rs x.0 x.1))
  right-then (Err e) f ws some r rs =
      refused-behind stop L (Seq L M) [] ws e
      (λ k g. seq_begins L M k g some)
      (λ w k s. (s.2.0, s.2.1, s.2.2))
      r

-- a value that no word says
abbrev pub Done : {A : Type 0} → A → Lang A
Done a w b u v = (b ≡ a) × (u ≡ v)

pub right-done : {A : Type 0} (stop : ℕ) (a : A) (rest : List Item) → Right stop (Done a) (Ok (a, rest)) rest
right-done stop a rest = ([], refl, λ w v. (refl, refl))

pub done-some : {A : Type 0} (a : A) → Begins (Done a) []
done-some a = (a, λ v. (v, (refl, refl)))

-- a value that one word says
abbrev pub Just : {A : Type 0} → Token → A → Lang A
Just t a w b u v = (b ≡ a) × (u ≡ Some t ∷ v)

pub just_clear : {A : Type 0} (t : Token) (a : A) → Clear (Just t a)
just_clear t a w w' b b' u v v' h h' = (h.0 ∙ sym h'.0, let e = h.1 in let e' = h'.1 in cc)

pub just_some : {A : Type 0} (t : Token) (a : A) → Begins (Just t a) []
just_some t a = (a, λ v. (Some t ∷ v, (refl, refl)))

-- a part and a `)`; two parts and a `)`
abbrev pub One : {X B : Type 0} → Lang X → (X → B) → Lang B
One L make = Seq L (λ x. Just Close (make x))

abbrev pub Two : {X Y B : Type 0} → Lang X → Lang Y → (X → Y → B) → Lang B
Two L M make = Seq L (λ x. One M (make x))

pub one_some : {X B : Type 0} (L : Lang X) (make : X → B) → Begins L [] → Begins (One L make) []
one_some L make h = seq_begins L (λ x. Just Close (make x)) [] h (λ x. just_some Close (make x))

pub two_some : {X Y B : Type 0} (L : Lang X) (M : Lang Y) (make : X → Y → B) → Begins L [] → Begins M [] → Begins (Two L M make) []
two_some L M make h k = seq_begins L (λ x. One M (make x)) [] h (λ x. one_some M (make x) k)

pub two_clear : {X Y B : Type 0} (L : Lang X) (M : Lang Y) (make : X → Y → B) → Clear L → Clear M → Clear (Two L M make)
two_clear L M make h k = seq_clear L (λ x. One M (make x)) h (λ x. seq_clear M (λ y. Just Close (make x y)) k (λ y. just_clear Close (make x y)))

-- what reading the first word asks of a language
pub record Proper {A : Type 0} (L : Lang A) : Type 0 where
  pub some : Begins L []
  pub full : (b : A) (v : Toks) → L free b [] v → ⊥
  pub known : (b : A) (u v : Toks) → L free b (None ∷ u) v → ⊥

module _ {A : Type 0} (stop : ℕ) (L : Lang A) (proper : Proper L) where
  right-lexed : (k : Lexeme → List Item → Out A)
      → ((p : ℕ) (t : Token) (rest : List Item) → Right stop L (k (record { token = t; place = p }) rest) ((p, Some t) ∷ rest))
      → (p : ℕ) (o : Option Token) (rest : List Item) → Right stop L (then (lexed p o rest) k) ((p, o) ∷ rest)
  right-lexed k each p (Some t) rest = each p t rest
  right-lexed k each p None rest = ([], (p, None) ∷ rest, refl, proper.some, (refl, refl, λ r s. proper.known s.0 r s.1 s.2))

  pub right-next : (k : Lexeme → List Item → Out A)
      → ((p : ℕ) (t : Token) (rest : List Item) → Right stop L (k (record { token = t; place = p }) rest) ((p, Some t) ∷ rest))
      → (ws : List Item) → Right stop L (then (next stop ws) k) ws
  right-next k each [] = ([], [], refl, proper.some, (refl, λ s. proper.full s.0 s.1 s.2))
  right-next k each (i ∷ is) = right-lexed k each i.0 i.1 is

  pub right-misplaced : (p : ℕ) (t : Token) (rest : List Item) → ((b : A) (u v : Toks) → L free b (Some t ∷ u) v → ⊥)
      → Right stop L (Err (Misplaced p)) ((p, Some t) ∷ rest)
  right-misplaced p t rest bars = ([], (p, Some t) ∷ rest, refl, proper.some, (refl, (t, refl), λ r s. bars s.0 r s.1 s.2))

  pub right-too_many : (p : ℕ) (rest : List Item) → Begins L (Some Open ∷ []) → ((b : A) (u v : Toks) → L sizes b (Some Open ∷ u) v → ⊥)
      → Right stop L (Err (TooMany p)) ((p, Some Open) ∷ rest)
  right-too_many p rest begins bars = ([], (p, Some Open) ∷ rest, refl, proper.some, (refl, refl, begins, λ r s. bars s.0 r s.1 s.2))

  pub right_out_of_range : (p n : ℕ) (rest : List Item) → Begins L (Some (Numeral n) ∷ []) → ((b : A) (u v : Toks) → L numbers b (Some (Numeral n) ∷ u) v → ⊥)
      → Right stop L (Err (OutOfRange p)) ((p, Some (Numeral n)) ∷ rest)
  right_out_of_range p n rest begins bars =
      ([], (p, Some (Numeral n)) ∷ rest, refl, proper.some, (refl, (n, refl), begins, λ r s. bars s.0 r s.1 s.2))
