-- Ticks: those asked for, and what the root reaches.
use Rattle.std.proofs.Common.{◌≡◌, ℕ, ◌+◌, ◌<◌, Bool, true, false, cond, ◌||◌, eqb, ◌⊎◌, List, [], ◌∷◌, ◌++◌, length, get_or, take, drop, set, sym, refl, ap, ◌∙◌, inl, inr, arith, length-set}
use Rattle.std.specs.List.{AllByRecursion}
use Rattle.std.proofs.lemmas.List.{get_or-set_same, get_or-set_other, length_push, get_or-take, get_or_push, take_at, take-take}
use Rattle.std.proofs.ByRecursion.{All-weaker}
use Rattle.std.proofs.lemmas.Bool.{eq-eqb, ne_eqb, cases_eq}
use Rattle.formulas.specs.Lines.{Line}
use Rattle.formulas.specs.WellFormed.{line_at}
use Rattle.simplification.specs.Simplify.{parts, member, reached}
use Rattle.simplification.specs.Reaching.{ticked, Ticks}
use Rattle.simplification.proofs.Prune.{member-append}
use Rattle.simplification.proofs.InPlace.{reached-back}

tick_one : (m : List ℕ) (k j : ℕ) (b : Bool) → k < length m → cond b 1 (get_or (set m k 1) j 0) ≡ cond (eqb k j || b) 1 (get_or m j 0)
tick_one m k j b h = go b (cases_eq j k)
  where
    go : (b : Bool) → (j ≡ k) ⊎ (j ≡ k → ⊥) → cond b 1 (get_or (set m k 1) j 0) ≡ cond (eqb k j || b) 1 (get_or m j 0)
    go true (inl e) = ap (λ (x : Bool). cond (x || true) 1 (get_or m j 0)) (sym (eq-eqb k j (sym e)))
    go false (inl e) =
        ap (λ i. get_or (set m k 1) i 0) e ∙ (get_or-set_same m k 1 0 h ∙ ap (λ (x : Bool). cond (x || false) 1 (get_or m j 0)) (sym (eq-eqb k j (sym e))))
    go true (inr e) = ap (λ (x : Bool). cond (x || true) 1 (get_or m j 0)) (sym (ne_eqb k j (λ z. e (sym z))))
    go false (inr e) = get_or-set_other m k j 1 0 e ∙ ap (λ (x : Bool). cond (x || false) 1 (get_or m j 0)) (sym (ne_eqb k j (λ z. e (sym z))))

ticked-at : (m ks : List ℕ) (j : ℕ) → AllByRecursion (λ k. k < length m) ks → get_or (ticked m ks) j 0 ≡ cond (member j ks) 1 (get_or m j 0)
ticked-at m [] j h = refl
ticked-at m (k ∷ ks) j h =
    ticked-at (set m k 1) ks j (All-weaker (λ x. x < length m) (λ x. x < length (set m k 1)) (λ x l. omega (arith, length-set m k 1)) ks h.1)
    ∙ tick_one m k j (member j ks) h.0

ticked-long : (m ks : List ℕ) → length (ticked m ks) ≡ length m
ticked-long m [] = refl
ticked-long m (k ∷ ks) = ticked-long (set m k 1) ks ∙ length-set m k 1

-- of the first entries of a list, the last is at its place, and those before it are the first again
module _ {X : Type 0} (ns rest more : List X) (x : X) (p : more ≡ rest ++ (x ∷ [])) (q : more ≡ take (length more) ns) where
  pub last-long : length more ≡ length rest + 1
  last-long = ap length p ∙ length_push rest x

  pub last-is : (d : X) → get_or ns (length rest) d ≡ x
  last-is d =
      sym (get_or-take (length more) ns (length rest) d (omega (arith, last-long)))
      ∙ (ap (λ l. get_or l (length rest) d) (sym q ∙ p) ∙ get_or_push rest x d (length rest) refl)

  pub last-front : rest ≡ take (length rest) ns
  last-front =
      sym (take_at rest (x ∷ []) (length rest) refl)
      ∙ (ap (take (length rest)) (sym p ∙ q) ∙ take-take (length rest) (length more) ns (omega (arith, last-long)))

-- one line back
module _ (ls : List Line) (r : List ℕ) (i : ℕ) (h : i < length ls) where
  abbrev later : List ℕ
  later = reached (i + 1) (drop (i + 1) ls) r

  pub ticks_turn : (m m' : List ℕ) → length ls ≡ length m → AllByRecursion (λ d. d < length m) (parts (line_at ls i)) → Ticks m later
      → m' ≡ cond (eqb (get_or m i 0) 1) (ticked m (parts (line_at ls i))) m → Ticks m' (reached i (drop i ls) r)
  ticks_turn m m' s a k e = go (member i later) refl
    where
      ps : List ℕ
      ps = parts (line_at ls i)

      mark : (b : Bool) → member i later ≡ b → eqb (get_or m i 0) 1 ≡ b
      mark true q = eq-eqb (get_or m i 0) 1 (k i (omega arith) ∙ ap (λ (x : Bool). cond x 1 0) q)
      mark false q = ne_eqb (get_or m i 0) 1 (λ z. let w = k i (omega arith) ∙ ap (λ (x : Bool). cond x 1 0) q in omega arith)

      pick : (b c : Bool) → ◌≡◌ {A = ℕ} (cond b 1 (cond c 1 0)) (cond (b || c) 1 0)
      pick true c = refl
      pick false c = refl

      go : (b : Bool) → member i later ≡ b → Ticks m' (reached i (drop i ls) r)
      go true q j l =
          let f : m' ≡ ticked m ps = e ∙ ap (λ (x : Bool). cond x (ticked m ps) m) (mark true q) in
          let g : reached i (drop i ls) r ≡ ps ++ later = reached-back ls r i h ∙ ap (λ (x : Bool). cond x (ps ++ later) later) q in
          ap (λ xs. get_or xs j 0) f
          ∙ (ticked-at m ps j a
          ∙ (ap (λ (x : ℕ). cond (member j ps) 1 x) (k j (omega (arith, ap length f, ticked-long m ps)))
          ∙ (pick (member j ps) (member j later)
          ∙ ap (λ (x : Bool). cond x 1 0) (sym (member-append j ps later) ∙ ap (member j) (sym g)))))
      go false q j l =
          let f : m' ≡ m = e ∙ ap (λ (x : Bool). cond x (ticked m ps) m) (mark false q) in
          let g : reached i (drop i ls) r ≡ later = reached-back ls r i h ∙ ap (λ (x : Bool). cond x (ps ++ later) later) q in
          ap (λ xs. get_or xs j 0) f ∙ (k j (omega (arith, ap length f)) ∙ ap (λ xs. cond (member j xs) 1 0) (sym g))
