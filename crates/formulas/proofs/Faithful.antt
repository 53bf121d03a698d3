-- What is read is what is spelled, and what is refused is not spelled.
use Rattle.std.proofs.Common.{◌≡◌, ℕ, Bool, true, false, cond, ◌↔◌, List, [], ◌∷◌, ◌++◌, map, length, Some, None, Ok, Err, Option, Result, sym, refl, ap, ◌∙◌, subst, arith}
use Rattle.std.proofs.lemmas.List.{append_assoc, append-nil, map-append}
use Rattle.formulas.specs.declared.fault.GrammarFault.{GrammarFault}
use Rattle.formulas.specs.declared.fault.GrammarFault.TheVariants.{Word, Misplaced, OutOfRange, TooMany}
use Rattle.formulas.specs.declared.fault.ReadFault.{ReadFault}
use Rattle.formulas.specs.declared.fault.ReadFault.TheVariants.{Text, Tables}
use Rattle.formulas.specs.declared.token.Token.{Token}
use Rattle.formulas.specs.Grammar.{Item, Out, items, term, stray, lone, finish, parse}
use Rattle.formulas.specs.Layout.{fills}
use Rattle.formulas.specs.Lines.{state}
use Rattle.formulas.specs.Reading.{placed, reading}
use Rattle.formulas.specs.Tables.{Slots, fits}
use Rattle.formulas.specs.Spelling.{Spells, Allowed, Accepts, NumbersFit, CoefficientsFit, SumsShort, PartsShort, BeginTerm, Wrong, Refusal}
use Rattle.formulas.specs.Trees.{Tree, leaf, conj, neg, dia, here, at_least, Products, none, product, spell, OfSort, InRange, InRanges, lay}
use Rattle.formulas.proofs.Written.{Toks, write, write-spell, told}
use Rattle.formulas.proofs.Outcomes.{Limits, free, numbers, sizes, toks, Begins, Starts, Cause, Right}
use Rattle.formulas.proofs.Languages.{Said, Within}
use Rattle.formulas.proofs.ReadTokens.{by_test}
use Rattle.formulas.proofs.Readers.{readings}

spell_write : (t : Tree) → map Some (spell t) ≡ write t []
spell_write t = sym (append-nil (map Some (spell t))) ∙ write-spell t []

pub spell_told : (x y : Tree) → spell x ≡ spell y → x ≡ y
spell_told x y e = (told x y [] [] (sym (spell_write x) ∙ ap (λ l. map Some l) e ∙ spell_write y)).0

-- the limits of numbers and those of sums are all limits but that of depth
mutual
  split_range : (x : Tree) → InRange x ↔ (NumbersFit x × SumsShort x)
  split_range (leaf b) = (λ h. (tt, tt), λ h. tt)
  split_range (conj x y) =
      let p = split_range x in
      let q = split_range y in
      (λ h. let a = p.0 h.0 in let b = q.0 h.1 in ((a.0, b.0), (a.1, b.1)), λ h. (p.1 (h.0.0, h.1.0), q.1 (h.0.1, h.1.1)))
  split_range (neg x) = split_range x
  split_range (dia a d) = let p = split_range d in (λ h. let b = p.0 h.1 in ((h.0, b.0), b.1), λ h. (h.0.0, p.1 (h.0.1, h.1)))
  split_range (here d) = split_range d
  split_range (at_least ks t) =
      let p = split_ranges ks in
      (λ h. let b = p.0 h.0 in ((b.0, h.2, h.3), (b.1, h.1)), λ h. (p.1 (h.0.0, h.1.0), h.1.1, h.0.1, h.0.2))

  split_ranges : (ks : Products) → InRanges ks ↔ (CoefficientsFit ks × PartsShort ks)
  split_ranges none = (λ h. (tt, tt), λ h. tt)
  split_ranges (product c s ks) =
      let p = split_range s in
      let q = split_ranges ks in (
        λ h. let a = p.0 h.1 in let b = q.0 h.2 in ((h.0, a.0, b.0), (a.1, b.1)),
        λ h. (h.0.0, p.1 (h.0.1, h.1.0), q.1 (h.0.2, h.1.1)),
      )

allowed-within : (t : Tree) → Allowed t → (w : Limits) → Within 64 w t
allowed-within t a free = tt
allowed-within t a numbers = ((split_range t).0 a.ranged).0
allowed-within t a sizes = (((split_range t).0 a.ranged).1, a.shallow)

-- a tree is said by its spelling
spelling_said : (t : Tree) (u : Toks) (w : Limits) → OfSort state t → Within 64 w t → map Some (spell t) ≡ u → Said 64 state w t u []
spelling_said t u w s h e = record { sorted = s; within = h; spelled = sym e ∙ spell_write t }

begin-term : (u : Toks) → Begins (Said 64 state) u → BeginTerm u
begin-term u g =
    let n = g.1 [] in
    (g.0, n.0, n.1.sorted, spell_write g.0 ∙ sym n.1.spelled)

toks-split : (ws front back : List Item) → ws ≡ front ++ back → toks ws ≡ toks front ++ toks back
toks-split ws front back e = ap toks e ∙ map-append (λ i. i.1) front back

-- words that are refused say nothing that is allowed
never_said : {A : Type 0} (stop : ℕ) (L : Limits → A → Toks → Toks → Type 0) (u : Toks) (back : List Item) (f : GrammarFault)
    → Cause stop L u back f → ((w : Limits) → Starts L w (u ++ toks back)) → ⊥
never_said stop L u [] f c s = c.1 (subst (λ k. Starts L free k) (append-nil u) (s free))
never_said stop L u (i ∷ is) (Word g) c s = c.2 (toks is) (s free)
never_said stop L u (i ∷ is) (Misplaced p) c s = c.2 (toks is) (s free)
never_said stop L u (i ∷ is) (OutOfRange p) c s = c.3 (toks is) (s numbers)
never_said stop L u (i ∷ is) (TooMany p) c s = c.3 (toks is) (s sizes)

module _ (stop : ℕ) (ws : List Item) where
  sound-lone : (t x : Tree) (front rest : List Item) → ws ≡ front ++ rest → ((w : Limits) (v : Toks) → Said 64 state w x (toks front ++ v) v)
      → lone x rest ≡ Ok t → (toks ws ≡ map Some (spell t)) × Allowed t
  sound-lone t x front [] e said o =
      let same : x ≡ t = cc in
      let h : (w : Limits) → Said 64 state w t (toks front ++ []) [] = λ w. subst (λ y. Said 64 state w y (toks front ++ []) []) same (said w []) in (
        toks-split ws front [] e ∙ (h free).spelled ∙ sym (spell_write t),
        record { sorted = (h free).sorted; ranged = (split_range t).1 ((h numbers).within, (h sizes).within.0); shallow = (h sizes).within.1 },
      )
  sound-lone t x front (i ∷ rest) e said o = absurd (let z : ◌≡◌ {A = ℕ} 0 1 = cc in let y : ⊥ = omega arith in y)

  sound-of : (o : Out Tree) (t : Tree) → Right stop (Said 64 state) o ws → finish o ≡ Ok t → (toks ws ≡ map Some (spell t)) × Allowed t
  sound-of (Ok x) t r e = sound-lone t x.0 r.0 x.1 r.1 r.2 e
  sound-of (Err f) t r e = absurd (let z : ◌≡◌ {A = ℕ} 0 1 = cc in let y : ⊥ = omega arith in y)

  complete-lone : (t x : Tree) (rest : List Item) → t ≡ x → ◌≡◌ {A = Toks} [] (toks rest) → lone x rest ≡ Ok t
  complete-lone t x [] e h = ap (λ y. Ok y) (sym e)
  complete-lone t x (i ∷ rest) e h = absurd (let z : ◌≡◌ {A = ℕ} 0 1 = cc in let y : ⊥ = omega arith in y)

  complete-of : (o : Out Tree) (t : Tree) → Right stop (Said 64 state) o ws → toks ws ≡ map Some (spell t) → Allowed t → finish o ≡ Ok t
  complete-of (Ok x) t r e a =
      let k = told t x.0 [] (toks x.1) (sym (spell_write t) ∙ sym e ∙ toks-split ws r.0 x.1 r.1 ∙ (r.2 free (toks x.1)).spelled) in
      complete-lone t x.0 x.1 k.0 k.1
  complete-of (Err f) t r e a =
      absurd (never_said stop (Said 64 state) (toks r.0) r.1 f r.4
      (λ w. (t, [], spelling_said t (toks r.0 ++ toks r.1) w a.sorted (allowed-within t a w) (sym e ∙ toks-split ws r.0 r.1 r.2))))

  -- a word behind the words of a term
  behind-term : (x t : Tree) (u more : Toks) (k : Option Token) → ((v : Toks) → u ++ v ≡ write x v) → map Some (spell t) ≡ (u ++ (k ∷ [])) ++ more → ⊥
  behind-term x t u more k h e =
      let q = (told t x [] (k ∷ more) (sym (spell_write t) ∙ e ∙ append_assoc u (k ∷ []) more ∙ h (k ∷ more))).1 in
      let z : ◌≡◌ {A = ℕ} 0 1 = cc in
      omega arith

  -- what is wrong with a stray word
  stray-wrong : (x : Tree) (u : Toks) (p : ℕ) (k : Option Token) (rest : List Item) → ((v : Toks) → u ++ v ≡ write x v) → Wrong stop u ((p, k) ∷ rest) (stray p k)
  stray-wrong x u p (Some t) rest h = (refl, (t, refl), λ b. behind-term x b.0 u b.1 (Some t) h b.3)
  stray-wrong x u p None rest h = (refl, refl)

  abbrev RefusalOf : GrammarFault → Type 0
  RefusalOf f = (front : List Item) × (back : List Item) × (ws ≡ front ++ back) × BeginTerm (toks front) × Wrong stop (toks front) back f

  refused-lone : (f : GrammarFault) (x : Tree) (front rest : List Item) → ws ≡ front ++ rest → ((w : Limits) (v : Toks) → Said 64 state w x (toks front ++ v) v)
      → lone x rest ≡ Err f → RefusalOf f
  refused-lone f x front [] e said o = absurd (let z : ◌≡◌ {A = ℕ} 0 1 = cc in let y : ⊥ = omega arith in y)
  refused-lone f x front (i ∷ rest) e said o =
      let g : stray i.0 i.1 ≡ f = cc in (
        front,
        i ∷ rest,
        e,
        begin-term (toks front) (x, λ v. (v, said free v)),
        subst (λ y. Wrong stop (toks front) (i ∷ rest) y) g (stray-wrong x (toks front) i.0 i.1 rest (λ v. (said free v).spelled)),
      )

  wrong-of : (u : Toks) (back : List Item) (f : GrammarFault) → Cause stop (Said 64 state) u back f → Wrong stop u back f
  wrong-of u [] f c = (c.0, λ t s e. c.1 (t, [], spelling_said t u free s tt e))
  wrong-of u (i ∷ is) (Word g) c = (c.0, c.1)
  wrong-of u (i ∷ is) (Misplaced p) c =
      (c.0, c.1, λ b. c.2 b.1 (b.0, [], spelling_said b.0 (u ++ (i.1 ∷ b.1)) free b.2 tt (b.3 ∙ append_assoc u (i.1 ∷ []) b.1)))
  wrong-of u (i ∷ is) (OutOfRange p) c = (
    c.0,
    c.1,
    begin-term (u ++ (i.1 ∷ [])) c.2,
    λ b. c.3 b.1 (b.0, [], spelling_said b.0 (u ++ (i.1 ∷ b.1)) numbers b.2.0 b.2.1 (b.3 ∙ append_assoc u (i.1 ∷ []) b.1)),
  )
  wrong-of u (i ∷ is) (TooMany p) c = (
    c.0,
    c.1,
    begin-term (u ++ (i.1 ∷ [])) c.2,
    λ b. c.3 b.1 (b.0, [], spelling_said b.0 (u ++ (i.1 ∷ b.1)) sizes b.2.0 (b.2.1, b.2.2) (b.3 ∙ append_assoc u (i.1 ∷ []) b.1)),
  )

  refused-of : (o : Out Tree) (f : GrammarFault) → Right stop (Said 64 state) o ws → finish o ≡ Err f → RefusalOf f
  refused-of (Ok x) f r e = refused-lone f x.0 r.0 x.1 r.1 r.2 e
  refused-of (Err g) f r e =
      let same : g ≡ f = cc in
      (r.0, r.1, r.2, begin-term (toks r.0) r.3, wrong-of (toks r.0) r.1 f (subst (λ y. Cause stop (Said 64 state) (toks r.0) r.1 y) same r.4))

module _ (text : List ℕ) where
  reads : Right (length text) (Said 64 state) (term (length text) 64 state (items text 0)) (items text 0)
  reads = (readings (length text) 64).terms state (items text 0)

  pub parsed-sound : (t : Tree) → parse text ≡ Ok t → Spells text t × Allowed t
  unfolding parse
  parsed-sound t e = sound-of (length text) (items text 0) _ t reads e

  pub parsed-complete : (t : Tree) → Spells text t → Allowed t → parse text ≡ Ok t
  unfolding parse
  parsed-complete t e a = complete-of (length text) (items text 0) _ t reads e a

  pub parsed-refused : (f : GrammarFault) → parse text ≡ Err f → Refusal text f
  unfolding parse
  parsed-refused f e =
      let r = refused-of (length text) (items text 0) _ f reads e in
      record { front = r.0; back = r.1; split = r.2; begun = r.3; wrong = r.4 }

-- what fits is handed on, and nothing else
placed_ok : (s : Slots) (t : Tree) (r : Result Tree GrammarFault) → placed s r ≡ Ok t → (r ≡ Ok t) × (fits (fills (lay state 0 t)) s ≡ true)
placed_ok s t (Ok x) e = by (fits (fills (lay state 0 x)) s) refl e
  where
    by : (b : Bool) → fits (fills (lay state 0 x)) s ≡ b → cond b (Ok x) (Err Tables) ≡ Ok t → (◌≡◌ {A = Result Tree GrammarFault} (Ok x) (Ok t)) × (fits (fills (lay state 0 t)) s ≡ true)
    by true h k =
        let same : x ≡ t = cc in
        (ap (λ y. Ok y) same, subst (λ y. fits (fills (lay state 0 y)) s ≡ true) same h)
    by false h k = absurd (let z : ◌≡◌ {A = ℕ} 0 1 = cc in let y : ⊥ = omega arith in y)
placed_ok s t (Err f) e = absurd (let z : ◌≡◌ {A = ℕ} 0 1 = cc in let y : ⊥ = omega arith in y)

pub reading-sound : (text : List ℕ) (s : Slots) (t : Tree) → reading text s ≡ Ok t → Accepts text s t
reading-sound text s t e =
    let r = placed_ok s t (parse text) e in
    let p = parsed-sound text t r.0 in
    record { spells = p.0; allowed = p.1; room = r.1 }

pub reading-complete : (text : List ℕ) (s : Slots) (t : Tree) → Accepts text s t → reading text s ≡ Ok t
reading-complete text s t a =
    ap (λ r. placed s r) (parsed-complete text t a.spells a.allowed) ∙ ap (λ b. cond b (Ok t) (Err Tables)) a.room

-- a fault is handed on, and nothing else is called one
placed_err : (s : Slots) (f : GrammarFault) (r : Result Tree GrammarFault) → placed s r ≡ Err (Text f) → r ≡ Err f
placed_err s f (Ok x) e =
    by_test (λ o. o ≡ Err (Text f) → ◌≡◌ {A = Result Tree GrammarFault} (Ok x) (Err f)) (fits (fills (lay state 0 x)) s) (Ok x) (Err Tables) (λ _ k. cc) (λ _ k. cc) e
placed_err s f (Err g) e = cc

placed-crowded : (s : Slots) (r : Result Tree GrammarFault) → placed s r ≡ Err Tables → (t : Tree) × (r ≡ Ok t) × (fits (fills (lay state 0 t)) s ≡ false)
placed-crowded s (Ok x) e =
    by_test (λ o. o ≡ Err Tables → (t : Tree) × (◌≡◌ {A = Result Tree GrammarFault} (Ok x) (Ok t)) × (fits (fills (lay state 0 t)) s ≡ false))
    (fits (fills (lay state 0 x)) s) (Ok x) (Err Tables) (λ _ k. never k) (λ h k. (x, refl, h)) e
  where
    never : {A : Type 0} → ◌≡◌ {A = Result Tree ReadFault} (Ok x) (Err Tables) → A
    never k = absurd (let z : ◌≡◌ {A = ℕ} 0 1 = cc in let y : ⊥ = omega arith in y)
placed-crowded s (Err f) e = absurd (let z : ◌≡◌ {A = ℕ} 0 1 = cc in let y : ⊥ = omega arith in y)

pub reading-refused : (text : List ℕ) (s : Slots) (f : GrammarFault) → reading text s ≡ Err (Text f) → Refusal text f
reading-refused text s f e = parsed-refused text f (placed_err s f (parse text) e)

pub reading-crowded : (text : List ℕ) (s : Slots) → reading text s ≡ Err Tables → (t : Tree) × Spells text t × Allowed t × (fits (fills (lay state 0 t)) s ≡ false)
reading-crowded text s e =
    let r = placed-crowded s (parse text) e in
    let p = parsed-sound text r.0 r.1 in
    (r.0, p.0, p.1, r.2)
