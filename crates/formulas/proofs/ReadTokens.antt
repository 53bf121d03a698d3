-- Readers of one token, of a number, and of parts with a `)` behind them.
use Rattle.std.proofs.Common.{◌≡◌, ℕ, ◌≤◌, Bool, true, false, cond, ◌&&◌, eqb, leb, List, [], ◌∷◌, Some, Ok, Err, sym, refl, ap, ◌∙◌, arith}
use Rattle.std.proofs.lemmas.Bool.{eqb-true, eq-eqb, leb-true, le-leb, and_parts, and_from, both_ways}
use Rattle.formulas.specs.declared.fault.GrammarFault.TheVariants.{Misplaced, OutOfRange}
use Rattle.formulas.specs.declared.token.Token.{Token}
use Rattle.formulas.specs.declared.token.Token.TheVariants.{Open, Close, True, False, And, Not, Dia, Here, Prob, AtLeast, Plus, Times, Numeral}
use Rattle.formulas.specs.Grammar.{Item, Out, then, code, expect, value, ranged, number, closed}
use Rattle.formulas.proofs.Written.{Toks}
use Rattle.formulas.proofs.Outcomes.{Limits, free, numbers, sizes, Lang, Begins, Right, Clear, Proper, right-behind, Seq, right-then, Done, right-done, done-some, Just, just_clear, just_some, One, Two, one_some, right-next, right-misplaced, right_out_of_range}
use Rattle.formulas.proofs.Languages.{InBounds, Counted, counted_proper, number-shape, NumberStarted}

-- a test keeps what both of its ways have
pub by_test : {A : Type 0} (P : A → Type 0) (b : Bool) (x y : A) → (b ≡ true → P x) → (b ≡ false → P y) → P (cond b x y)
by_test P true x y this that = this refl
by_test P false x y this that = that refl

-- tokens other than numerals are told by their codes
named : ℕ → Token
named n = cond (eqb n 0) Open (cond (eqb n 1) Close (cond (eqb n 2) True (cond (eqb n 3) False (cond (eqb n 4) And (cond (eqb n 5) Not (cond (eqb n 6) Dia (cond (eqb n 7) Here (cond (eqb n 8) Prob (cond (eqb n 9) AtLeast (cond (eqb n 10) Plus Times))))))))))

named-code : (t : Token) → (code t ≡ 12 → ⊥) → named (code t) ≡ t
unfolding named
named-code Open h = refl
named-code Close h = refl
named-code True h = refl
named-code False h = refl
named-code And h = refl
named-code Not h = refl
named-code Dia h = refl
named-code Here h = refl
named-code Prob h = refl
named-code AtLeast h = refl
named-code Plus h = refl
named-code Times h = refl
named-code (Numeral n) h = absurd (h refl)

pub code-told : (s t : Token) → (code s ≡ 12 → ⊥) → eqb (code s) (code t) ≡ true → t ≡ s
code-told s t h e =
    let c = eqb-true (code s) (code t) e in
    sym (named-code t (λ k. h (c ∙ k))) ∙ ap named (sym c) ∙ named-code s h

module _ (stop : ℕ) where
  -- a given token
  pub right-expect : (s : Token) → (code s ≡ 12 → ⊥) → (ws : List Item) → Right stop (Just {A = Unit {0}} s tt) (expect s stop ws) ws
  right-expect s plain ws =
      right-next stop (Just {A = Unit {0}} s tt) proper _ (λ p t rest.
      by_test (λ o. Right stop (Just {A = Unit {0}} s tt) o ((p, Some t) ∷ rest)) (eqb (code s) (code t)) (Ok (tt, rest)) (Err (Misplaced p))
      (λ e. ((p, Some t) ∷ [], refl, λ w v. (refl, ap (λ k. Some k ∷ v) (code-told s t plain e))))
      (λ e. right-misplaced stop (Just {A = Unit {0}} s tt) proper p t rest (λ b u v h.
      let q = h.1 in
      let k : s ≡ t = cc in
      both_ways (eqb (code s) (code t)) e (eq-eqb (code s) (code t) (ap code k))))) ws
    where
      proper : Proper (Just {A = Unit {0}} s tt)
      proper = record {
        some = just_some {A = Unit {0}} s tt;
        full = λ b v h. let q = h.1 in let z : ◌≡◌ {A = ℕ} 0 1 = cc in omega arith;
        known = λ b u v h. let q = h.1 in let z : ◌≡◌ {A = ℕ} 0 1 = cc in omega arith;
      }

  pub right-closed : {A : Type 0} (x : A) (ws : List Item) → Right stop (Just Close x) (closed stop x ws) ws
  right-closed x ws =
      right-behind stop (Seq (Just {A = Unit {0}} Close tt) (λ _. Done x)) (Just Close x) [] ws (closed stop x ws)
      (λ w b u v h. (h.3.0, h.2.1 ∙ ap (λ l. Some Close ∷ l) h.3.1))
      (λ w b u v h. (tt, v, (refl, h.1), (h.0, refl)))
      (right-then stop (Just {A = Unit {0}} Close tt) (λ _. Done x) (just_clear {A = Unit {0}} Close tt) (expect Close stop ws) _ ws (λ _. done-some x)
      (right-expect Close (λ e. omega arith) ws) (λ _ rest. right-done stop x rest))

  -- a number
  pub right-number : (low high : ℕ) (ws : List Item) → Right stop (Counted low high) (number low high stop ws) ws
  right-number low high ws = right-next stop (Counted low high) (counted_proper low high) _ each ws
    where
      out : (p : ℕ) (t : Token) (rest : List Item) → ((n : ℕ) (u v : Toks) → NumberStarted t n u v → ⊥)
          → Right stop (Counted low high) (Err (Misplaced p)) ((p, Some t) ∷ rest)
      out p t rest never = right-misplaced stop (Counted low high) (counted_proper low high) p t rest (λ b u v h. never b u v (number-shape b (Some t ∷ u) v h.1))

      inside : (n : ℕ) → (leb low n && leb n high) ≡ true → (w : Limits) → InBounds low high w n
      inside n e free = tt
      inside n e numbers = let h = and_parts _ _ e in (leb-true low n h.0, leb-true n high h.1)
      inside n e sizes = tt

      outside : (n m : ℕ) → (leb low n && leb n high) ≡ false → m ≡ n → low ≤ m → m ≤ high → ⊥
      outside n m e q l h = both_ways _ e (and_from _ _ (le-leb low n (omega arith)) (le-leb n high (omega arith)))

      each : (p : ℕ) (t : Token) (rest : List Item) → Right stop (Counted low high) (ranged low high p (value t) rest) ((p, Some t) ∷ rest)
      each p Open rest = out p Open rest (λ n u v h. h)
      each p Close rest = out p Close rest (λ n u v h. h)
      each p True rest = out p True rest (λ n u v h. h)
      each p False rest = out p False rest (λ n u v h. h)
      each p And rest = out p And rest (λ n u v h. h)
      each p Not rest = out p Not rest (λ n u v h. h)
      each p Dia rest = out p Dia rest (λ n u v h. h)
      each p Here rest = out p Here rest (λ n u v h. h)
      each p Prob rest = out p Prob rest (λ n u v h. h)
      each p AtLeast rest = out p AtLeast rest (λ n u v h. h)
      each p Plus rest = out p Plus rest (λ n u v h. h)
      each p Times rest = out p Times rest (λ n u v h. h)
      each p (Numeral n) rest =
          by_test (λ o. Right stop (Counted low high) o ((p, Some (Numeral n)) ∷ rest)) (leb low n && leb n high) (Ok (n, rest)) (Err (OutOfRange p))
          (λ e. ((p, Some (Numeral n)) ∷ [], refl, λ w v. (inside n e w, refl)))
          (λ e. right_out_of_range stop (Counted low high) (counted_proper low high) p n rest (n, λ v. (v, (tt, refl)))
          (λ b u v h. outside n b e (number-shape b (Some (Numeral n) ∷ u) v h.1).0 h.0.0 h.0.1))

  -- a part and a `)`; two parts and a `)`
  pub right-one : {X B : Type 0} (L : Lang X) (make : X → B) → Clear L → (o : Out X) (ws : List Item) → Right stop L o ws
      → Right stop (One L make) (then o (λ x r. closed stop (make x) r)) ws
  right-one L make clear o ws h =
      right-then stop L (λ x. Just Close (make x)) clear o _ ws (λ x. just_some Close (make x)) h (λ x r. right-closed (make x) r)

  pub right_two : {X Y B : Type 0} (L : Lang X) (M : Lang Y) (make : X → Y → B) → Clear L → Clear M → Begins M [] → (o : Out X) (f : List Item → Out Y) (ws : List Item)
      → Right stop L o ws → ((l : List Item) → Right stop M (f l) l) → Right stop (Two L M make) (then o (λ x r. then (f r) (λ y s. closed stop (make x y) s))) ws
  right_two L M make clear clear' some o f ws h k =
      right-then stop L (λ x. One M (make x)) clear o _ ws (λ x. one_some M (make x) some) h (λ x r. right-one M (make x) clear' (f r) r (k r))
