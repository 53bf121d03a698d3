-- The readers of a sum and of its products, where those of terms answer rightly.
use Rattle.std.proofs.Common.{◌≡◌, ℕ, zero, suc, ◌+◌, ◌-◌, ◌≤◌, false, cond, ◌&&◌, eqb, leb, ◌⊎◌, ◌↔◌, List, [], ◌∷◌, Some, Ok, Err, sym, refl, ap, ◌∙◌, subst, inl, inr, arith}
use Rattle.std.proofs.lemmas.Bool.{eqb-true, eqb-false, leb-true, leb-false}
use Rattle.formulas.specs.declared.fault.GrammarFault.TheVariants.{Misplaced, TooMany}
use Rattle.formulas.specs.declared.token.Token.{Token}
use Rattle.formulas.specs.declared.token.Token.TheVariants.{Open, Close, True, False, And, Not, Dia, Here, Prob, AtLeast, Plus, Times, Numeral}
use Rattle.formulas.specs.declared.token.Lexeme.{Lexeme}
use Rattle.formulas.specs.Grammar.{Item, Out, then, next, code, expect, number, closed, sum_begun, factor, alone, several, sum_headed}
use Rattle.formulas.specs.Lines.{state}
use Rattle.formulas.specs.Trees.{Tree, Products, none, product, OfSort, OfProducts, count, sum_depth, products_depth}
use Rattle.formulas.proofs.Written.{Toks, write, write-products, write_sum, sum-shape, SumStarted, SumHeaded, products-shape, ProductsStarted}
use Rattle.formulas.proofs.Outcomes.{Limits, free, numbers, sizes, Lang, Begins, Right, Clear, right-behind, Seq, seq_begins, seq_clear, right-then, Done, right-done, done-some, Just, just_clear, just_some, One, one_some, two_some, two_clear, right-next, right-misplaced, right-too_many}
use Rattle.formulas.proofs.Languages.{InBounds, Counted, counted_proper, counted_clear, Within, Said, said_proper, said_clear, SumWithin, Summed, summed_proper, Sum-body, sum-body_proper, ProbWithin, ProbSaid, prob_proper, prob_opens, prob_clear, Factor, SeveralWithin, Several, several_proper, several_clear, several-opens}
use Rattle.formulas.proofs.ReadTokens.{by_test, code-told, right-expect, right-one, right_two, right-number}

-- the limits of products, and of those behind the first
product_within : (room r more left : ℕ) → room ≡ suc r → (w : Limits) (c : ℕ) (s : Tree) (ks : Products)
    → SeveralWithin (suc more) left room w (product c s ks) ↔ (InBounds 1 left w c × ProbWithin r w s × SeveralWithin more (left - c) room w ks)
product_within room r more left e free c s ks = (λ h. (tt, tt, tt), λ h. tt)
product_within room r more left e numbers c s ks =
    (λ h. ((h.0.0, omega arith), h.0.1, (h.0.2, omega arith)), λ h. ((h.0.0, h.1, h.2.0), omega arith))
product_within room r more left e sizes c s ks =
    (λ h. (tt, (h.0.0, omega arith), (h.0.1, omega arith, omega arith)), λ h. ((h.1.0, h.2.0), omega arith, omega arith))

alone-within : (room : ℕ) (w : Limits) (c : ℕ) (s : Tree) → SumWithin (suc room) w (product c s none) ↔ (InBounds 1 1000 w c × ProbWithin room w s)
alone-within room free c s = (λ h. (tt, tt), λ h. tt)
alone-within room numbers c s = (λ h. ((h.0.0, omega arith), h.0.1), λ h. ((h.0.0, h.1, tt), omega arith))
alone-within room sizes c s = (λ h. (tt, (h.0.0, omega arith)), λ h. ((h.1.0, tt), omega arith, omega arith))

-- two products or more
many-spelled : (ks : Products) (v : Toks) → 2 ≤ count ks → write_sum ks v ≡ Some Open ∷ Some Plus ∷ write-products ks (Some Close ∷ v)
many-spelled none v h = absurd (let z : ⊥ = omega arith in z)
many-spelled (product c s none) v h = absurd (let z : ⊥ = omega arith in z)
many-spelled (product c s (product d r ks)) v h = refl

many_deep : (ks : Products) (d : ℕ) → 2 ≤ count ks → sum_depth ks d ≡ suc d
many_deep none d h = absurd (let z : ⊥ = omega arith in z)
many_deep (product c s none) d h = absurd (let z : ⊥ = omega arith in z)
many_deep (product c s (product e r ks)) d h = refl

many-within : (room : ℕ) (w : Limits) (ks : Products) → 2 ≤ count ks → SumWithin (suc room) w ks ↔ SeveralWithin 8 1000 room w ks
many-within room free ks m = (λ h. tt, λ h. tt)
many-within room numbers ks m = (λ h. h, λ h. h)
many-within room sizes ks m =
    let d = many_deep ks (products_depth ks) m in
    (λ h. (h.0, h.1, omega arith), λ h. (h.0, h.1, omega arith))

-- whether a token closes or opens products, or neither
by_mark : (P : Token → Type 0) → P Close → P Open
    → ((t : Token) → eqb 1 (code t) ≡ false → eqb 0 (code t) ≡ false → ((ks : Products) (u v : Toks) → ProductsStarted t ks u v → ⊥) → P t)
    → (t : Token) → P t
by_mark P shut open' rest Open = open'
by_mark P shut open' rest Close = shut
by_mark P shut open' rest True = rest True refl refl (λ ks u v h. h)
by_mark P shut open' rest False = rest False refl refl (λ ks u v h. h)
by_mark P shut open' rest And = rest And refl refl (λ ks u v h. h)
by_mark P shut open' rest Not = rest Not refl refl (λ ks u v h. h)
by_mark P shut open' rest Dia = rest Dia refl refl (λ ks u v h. h)
by_mark P shut open' rest Here = rest Here refl refl (λ ks u v h. h)
by_mark P shut open' rest Prob = rest Prob refl refl (λ ks u v h. h)
by_mark P shut open' rest AtLeast = rest AtLeast refl refl (λ ks u v h. h)
by_mark P shut open' rest Plus = rest Plus refl refl (λ ks u v h. h)
by_mark P shut open' rest Times = rest Times refl refl (λ ks u v h. h)
by_mark P shut open' rest (Numeral n) = rest (Numeral n) refl refl (λ ks u v h. h)

factor_clear : (room left : ℕ) → Clear (Factor room left)
factor_clear room left = two_clear (Counted 1 left) (ProbSaid room) (λ c s. (c, s)) (counted_clear 1 left) (prob_clear room)

right-factor : (stop room : ℕ) (quantity : List Item → Out Tree) → ((l : List Item) → Right stop (ProbSaid room) (quantity l) l) → (left : ℕ) (ws : List Item)
    → Right stop (Factor room left) (factor stop quantity left ws) ws
right-factor stop room quantity h left ws =
    right_two stop (Counted 1 left) (ProbSaid room) (λ c s. (c, s)) (counted_clear 1 left) (prob_clear room) (prob_proper room).some
    (number 1 left stop ws) quantity ws (right-number stop 1 left ws) h

-- what a product behind its `*` is
record Factored (room left : ℕ) (w : Limits) (k : ℕ × Tree) (u v : Toks) : Type 0 where
  bounded : InBounds 1 left w k.0
  sorted : OfSort state k.1
  within : ProbWithin room w k.1
  spelled : u ≡ Some (Numeral k.0) ∷ Some Open ∷ Some Prob ∷ write k.1 (Some Close ∷ Some Close ∷ v)

factored : (room left : ℕ) (w : Limits) (k : ℕ × Tree) (u v : Toks) → Factor room left w k u v → Factored room left w k u v
factored room left w k u v h =
    let q = h.3.2 in
    let e = h.3.3 in
    subst (λ x. Factored room left w x u v) (sym e.0) (record {
      bounded = h.2.0;
      sorted = q.sorted;
      within = q.within;
      spelled = h.2.1 ∙ ap (λ l. Some (Numeral h.0) ∷ l) (q.spelled ∙ ap (λ l. Some Open ∷ Some Prob ∷ write h.3.0 (Some Close ∷ l)) e.1);
    })

factor-of : (room left : ℕ) (w : Limits) (c : ℕ) (s : Tree) (v : Toks) → InBounds 1 left w c → OfSort state s → ProbWithin room w s
    → Factor room left w (c, s) (Some (Numeral c) ∷ Some Open ∷ Some Prob ∷ write s (Some Close ∷ Some Close ∷ v)) v
factor-of room left w c s v b g h = (
  c,
  Some Open ∷ Some Prob ∷ write s (Some Close ∷ Some Close ∷ v),
  (b, refl),
  (s, Some Close ∷ v, record { sorted = g; within = h; spelled = refl }, (refl, refl)),
)

-- a product behind its opening parenthesis
abbrev pub Element : ℕ → ℕ → Lang (ℕ × Tree)
Element r left = Seq (Just {A = Unit {0}} Times tt) (λ _. Factor r left)

-- what a reader of products does behind an opening parenthesis
abbrev pub RightElement : ℕ → ℕ → (Lexeme → ℕ → List Item → Out (ℕ × Tree)) → Type 0
RightElement stop room element =
    (p left : ℕ) (rest : List Item)
    → ((room ≡ 0) × (element (record { token = Open; place = p }) left rest ≡ Err (TooMany p)))
    ⊎ ((r : ℕ) × (room ≡ suc r) × Right stop (Element r left) (element (record { token = Open; place = p }) left rest) rest)

module _ (stop room : ℕ) (element : Lexeme → ℕ → List Item → Out (ℕ × Tree)) (elements : RightElement stop room element) where
  no-products : (more left : ℕ) → more ≤ 6 → (w : Limits) (v : Toks) → Several more left room w none (Some Close ∷ v) v
  no-products more left h free v = record { sorted = tt; enough = omega arith; within = tt; spelled = refl }
  no-products more left h numbers v = record { sorted = tt; enough = omega arith; within = (tt, omega arith); spelled = refl }
  no-products more left h sizes v = record { sorted = tt; enough = omega arith; within = (tt, omega arith, omega arith); spelled = refl }

  neither : (more left p : ℕ) (t : Token) (rest : List Item) → ((ks : Products) (u v : Toks) → ProductsStarted t ks u v → ⊥)
      → Right stop (Several more left room) (Err (Misplaced p)) ((p, Some t) ∷ rest)
  neither more left p t rest never =
      right-misplaced stop (Several more left room) (several_proper more left room) p t rest (λ ks u v h. never ks u v (products-shape ks (Some t ∷ u) v h.spelled))

  -- one product more, and those behind it
  abbrev rest_of : ℕ → ℕ → ℕ × Tree → Lang Products
  rest_of more left k = Seq (Several more (left - k.0) room) (λ ks. Done (product k.0 k.1 ks))

  more-products : (r more left : ℕ) → room ≡ suc r → (w : Limits) (b : Products) (u v : Toks)
      → Seq (Element r left) (rest_of more left) w b u v → Several (suc more) left room w b (Some Open ∷ u) v
  more-products r more left e w b u v h =
      let f = factored r left w h.0 h.2.1 h.1 h.2.3 in
      let ks = h.3.2 in
      let z = h.3.3 in
      subst (λ x. Several (suc more) left room w x (Some Open ∷ u) v) (sym z.0) (record {
        sorted = (f.sorted, ks.sorted);
        enough = let m = ks.enough in omega arith;
        within = (product_within room r more left e w h.0.0 h.0.1 h.3.0).1 (f.bounded, f.within, ks.within);
        spelled = ap (λ l. Some Open ∷ l) (h.2.2.1 ∙ ap (λ l. Some Times ∷ l) (f.spelled
            ∙ ap (λ l. Some (Numeral h.0.0) ∷ Some Open ∷ Some Prob ∷ write h.0.1 (Some Close ∷ Some Close ∷ l))
            (ks.spelled ∙ ap (λ l. write-products h.3.0 (Some Close ∷ l)) z.1)));
      })

  products-more : (r more left : ℕ) → room ≡ suc r → (w : Limits) (b : Products) (u v : Toks)
      → Several (suc more) left room w b (Some Open ∷ u) v → Seq (Element r left) (rest_of more left) w b u v
  products-more r more left e w b u v h =
      let k = products-shape b (Some Open ∷ u) v h.spelled in
      let c = k.0 in
      let s = k.1 in
      let ks = k.2 in
      let good : OfProducts (product c s ks) = subst (λ x. OfProducts x) k.3 h.sorted in
      let d = (product_within room r more left e w c s ks).0 (subst (λ x. SeveralWithin (suc more) left room w x) k.3 h.within) in
      let n : suc more ≤ 6 + count (product c s ks) = subst (λ x. suc more ≤ 6 + count x) k.3 h.enough in (
        (c, s),
        write-products ks (Some Close ∷ v),
        (
          tt,
          Some (Numeral c) ∷ Some Open ∷ Some Prob ∷ write s (Some Close ∷ Some Close ∷ write-products ks (Some Close ∷ v)),
          (refl, k.4),
          factor-of r left w c s (write-products ks (Some Close ∷ v)) d.0 good.0 d.1,
        ),
        (ks, v, record { sorted = good.1; enough = omega arith; within = d.2; spelled = refl }, (k.3, refl)),
      )

  -- behind the opening parenthesis of a product, where later reads the products behind it
  right-product : (more left p : ℕ) (later : ℕ → List Item → Out Products) (rest : List Item)
      → ((n : ℕ) (l : List Item) → Right stop (Several more n room) (later n l) l)
      → Right stop (Several (suc more) left room)
      (then (element (record { token = Open; place = p }) left rest) (λ k r. then (later (left - k.0) r) (λ ks q. Ok (product k.0 k.1 ks, q))))
      ((p, Some Open) ∷ rest)
  right-product more left p later rest laters = elim (elements p left rest) [ inl h ↦ deep h | inr h ↦ fine h ]
    where
      read : Out (ℕ × Tree) → Out Products
      read o = then o (λ k r. then (later (left - k.0) r) (λ ks q. Ok (product k.0 k.1 ks, q)))

      deep : (room ≡ 0) × (element (record { token = Open; place = p }) left rest ≡ Err (TooMany p))
          → Right stop (Several (suc more) left room) (read (element (record { token = Open; place = p }) left rest)) ((p, Some Open) ∷ rest)
      deep h =
          subst (λ o. Right stop (Several (suc more) left room) (read o) ((p, Some Open) ∷ rest)) (sym h.1)
          (right-too_many stop (Several (suc more) left room) (several_proper (suc more) left room) p rest (several-opens (suc more) left room)
          (λ b u v k.
          let g = products-shape b (Some Open ∷ u) v k.spelled in
          let d : SeveralWithin (suc more) left room sizes (product g.0 g.1 g.2) = subst (λ x. SeveralWithin (suc more) left room sizes x) g.3 k.within in
          let none_left = h.0 in
          let far = d.2 in
          omega arith))

      fine : (r : ℕ) × (room ≡ suc r) × Right stop (Element r left) (element (record { token = Open; place = p }) left rest) rest
          → Right stop (Several (suc more) left room) (read (element (record { token = Open; place = p }) left rest)) ((p, Some Open) ∷ rest)
      fine h =
          right-behind stop (Seq (Element h.0 left) (rest_of more left)) (Several (suc more) left room) ((p, Some Open) ∷ []) rest _
          (more-products h.0 more left h.1) (products-more h.0 more left h.1)
          (right-then stop (Element h.0 left) (rest_of more left)
          (seq_clear (Just {A = Unit {0}} Times tt) (λ _. Factor h.0 left) (just_clear {A = Unit {0}} Times tt) (λ _. factor_clear h.0 left))
          (element (record { token = Open; place = p }) left rest) _ rest
          (λ k. seq_begins (Several more (left - k.0) room) (λ ks. Done (product k.0 k.1 ks)) [] (several_proper more (left - k.0) room).some (λ ks. done-some (product k.0 k.1 ks)))
          h.2
          (λ k r. right-then stop (Several more (left - k.0) room) (λ ks. Done (product k.0 k.1 ks)) (several_clear more (left - k.0) room) (later (left - k.0) r) _ r
          (λ ks. done-some (product k.0 k.1 ks)) (laters (left - k.0) r) (λ ks q. right-done stop (product k.0 k.1 ks) q)))

  right-several : (more left : ℕ) (ws : List Item) → Right stop (Several more left room) (several stop element more left ws) ws
  unfolding several
  right-several zero left ws =
      right-next stop (Several 0 left room) (several_proper 0 left room) _ (λ p t rest.
      by_mark (λ k. Right stop (Several 0 left room) (cond (eqb 1 (code k)) (Ok (none, rest)) (cond (eqb 0 (code k)) (Err (TooMany p)) (Err (Misplaced p)))) ((p, Some k) ∷ rest))
      ((p, Some Close) ∷ [], refl, no-products 0 left (omega arith))
      (right-too_many stop (Several 0 left room) (several_proper 0 left room) p rest (several-opens 0 left room)
      (λ b u v k.
      let g = products-shape b (Some Open ∷ u) v k.spelled in
      let d : SeveralWithin 0 left room sizes (product g.0 g.1 g.2) = subst (λ x. SeveralWithin 0 left room sizes x) g.3 k.within in
      let many = d.1 in
      omega arith))
      (λ k e f never. rw (e, f) (neither 0 left p k rest never)) t) ws
  right-several (suc more) left ws =
      right-next stop (Several (suc more) left room) (several_proper (suc more) left room) _ (λ p t rest.
      by_mark (λ k. Right stop (Several (suc more) left room)
      (cond (eqb 1 (code k) && leb (suc more) 6) (Ok (none, rest))
      (cond (eqb 0 (code k))
      (then (element (record { token = k; place = p }) left rest) (λ i r. then (several stop element more (left - i.0) r) (λ ks q. Ok (product i.0 i.1 ks, q))))
      (Err (Misplaced p))))
      ((p, Some k) ∷ rest))
      (by_test (λ o. Right stop (Several (suc more) left room) o ((p, Some Close) ∷ rest)) (leb (suc more) 6) (Ok (none, rest)) (Err (Misplaced p))
      (λ e. ((p, Some Close) ∷ [], refl, no-products (suc more) left (leb-true (suc more) 6 e)))
      (λ e. right-misplaced stop (Several (suc more) left room) (several_proper (suc more) left room) p Close rest (λ b u v h.
      let g = products-shape b (Some Close ∷ u) v h.spelled in
      let m : suc more ≤ 6 + count none = subst (λ x. suc more ≤ 6 + count x) g.0 h.enough in
      omega (arith, leb-false (suc more) 6 e))))
      (right-product more left p (λ n l. several stop element more n l) rest (λ n l. right-several more n l))
      (λ k e f never. rw (e, f) (neither (suc more) left p k rest never)) t) ws

module _ (stop room : ℕ) where
  sum-out : (deep p : ℕ) (t : Token) (rest : List Item) → ((b : Products) (u v : Toks) → SumStarted t b u v → ⊥)
      → Right stop (Summed deep) (Err (Misplaced p)) ((p, Some t) ∷ rest)
  sum-out deep p t rest never = right-misplaced stop (Summed deep) (summed_proper deep) p t rest (λ b u v h. never b u v (sum-shape b (Some t ∷ u) v h.spelled))

  no-sum : (w : Limits) (v : Toks) → Summed room w none (Some (Numeral 0) ∷ v) v
  no-sum free v = record { sorted = tt; within = tt; spelled = refl }
  no-sum numbers v = record { sorted = tt; within = (tt, omega arith); spelled = refl }
  no-sum sizes v = record { sorted = tt; within = (tt, omega arith, omega arith); spelled = refl }

  -- a sum that is 0, or begins with `(`
  pub right-sum_begun : (behind : Out Products) (p : ℕ) (t : Token) (rest : List Item) → Right stop (Summed room) behind ((p, Some Open) ∷ rest)
      → Right stop (Summed room) (sum_begun (record { token = t; place = p }) rest behind) ((p, Some t) ∷ rest)
  right-sum_begun behind p Open rest h = h
  right-sum_begun behind p Close rest h = sum-out room p Close rest (λ b u v k. k)
  right-sum_begun behind p True rest h = sum-out room p True rest (λ b u v k. k)
  right-sum_begun behind p False rest h = sum-out room p False rest (λ b u v k. k)
  right-sum_begun behind p And rest h = sum-out room p And rest (λ b u v k. k)
  right-sum_begun behind p Not rest h = sum-out room p Not rest (λ b u v k. k)
  right-sum_begun behind p Dia rest h = sum-out room p Dia rest (λ b u v k. k)
  right-sum_begun behind p Here rest h = sum-out room p Here rest (λ b u v k. k)
  right-sum_begun behind p Prob rest h = sum-out room p Prob rest (λ b u v k. k)
  right-sum_begun behind p AtLeast rest h = sum-out room p AtLeast rest (λ b u v k. k)
  right-sum_begun behind p Plus rest h = sum-out room p Plus rest (λ b u v k. k)
  right-sum_begun behind p Times rest h = sum-out room p Times rest (λ b u v k. k)
  right-sum_begun behind p (Numeral n) rest h =
      by_test (λ o. Right stop (Summed room) o ((p, Some (Numeral n)) ∷ rest)) (eqb n 0) (Ok (none, rest)) (Err (Misplaced p))
      (λ e. ((p, Some (Numeral n)) ∷ [], refl, λ w v. subst (λ m. Summed room w none (Some (Numeral m) ∷ v) v) (sym (eqb-true n 0 e)) (no-sum w v)))
      (λ e. sum-out room p (Numeral n) rest (λ b u v k. eqb-false n 0 e k.1))

  sum-no_head : (p : ℕ) (t : Token) (rest : List Item) → ((b : Products) (u v : Toks) → SumHeaded t b u v → ⊥)
      → Right stop (Sum-body room) (Err (Misplaced p)) ((p, Some t) ∷ rest)
  sum-no_head p t rest never = right-misplaced stop (Sum-body room) (sum-body_proper room) p t rest (λ b u v h. never b u v (sum-shape b (Some Open ∷ Some t ∷ u) v h.spelled))

  module _ (quantity : List Item → Out Tree) (element : Lexeme → ℕ → List Item → Out (ℕ × Tree))
      (quantities : (l : List Item) → Right stop (ProbSaid room) (quantity l) l) (elements : RightElement stop room element) where
    right_times : (p : ℕ) (ws : List Item) → Right stop (Sum-body room) (alone (factor stop quantity 1000 ws)) ((p, Some Times) ∷ ws)
    right_times p ws =
        right-behind stop (Seq (Factor room 1000) (λ k. Done (product k.0 k.1 none))) (Sum-body room) ((p, Some Times) ∷ []) ws _
        (λ w b u v h.
        let f = factored room 1000 w h.0 u h.1 h.2 in
        let e = h.3 in
        subst (λ x. Summed (suc room) w x (Some Open ∷ Some Times ∷ u) v) (sym e.0) (record {
          sorted = (f.sorted, tt);
          within = (alone-within room w h.0.0 h.0.1).1 (f.bounded, f.within);
          spelled = ap (λ l. Some Open ∷ Some Times ∷ l) (f.spelled ∙ ap (λ l. Some (Numeral h.0.0) ∷ Some Open ∷ Some Prob ∷ write h.0.1 (Some Close ∷ Some Close ∷ l)) e.1);
        }))
        (λ w b u v h.
        let k = sum-shape b (Some Open ∷ Some Times ∷ u) v h.spelled in
        let good : OfProducts (product k.0 k.1 none) = subst (λ x. OfProducts x) k.2 h.sorted in
        let d = (alone-within room w k.0 k.1).0 (subst (λ x. SumWithin (suc room) w x) k.2 h.within) in
        ((k.0, k.1), v, subst (λ l. Factor room 1000 w (k.0, k.1) l v) (sym k.3) (factor-of room 1000 w k.0 k.1 v d.0 good.0 d.1), (k.2, refl)))
        (right-then stop (Factor room 1000) (λ k. Done (product k.0 k.1 none)) (factor_clear room 1000) (factor stop quantity 1000 ws) _ ws
        (λ k. done-some (product k.0 k.1 none)) (right-factor stop room quantity quantities 1000 ws)
        (λ k r. right-done stop (product k.0 k.1 none) r))

    right_plus : (p : ℕ) (ws : List Item) → Right stop (Sum-body room) (several stop element 8 1000 ws) ((p, Some Plus) ∷ ws)
    right_plus p ws =
        right-behind stop (Several 8 1000 room) (Sum-body room) ((p, Some Plus) ∷ []) ws _
        (λ w b u v h.
        let m : 2 ≤ count b = let n = h.enough in omega arith in
        record {
          sorted = h.sorted;
          within = (many-within room w b m).1 h.within;
          spelled = ap (λ l. Some Open ∷ Some Plus ∷ l) h.spelled ∙ sym (many-spelled b v m);
        })
        (λ w b u v h.
        let k = sum-shape b (Some Open ∷ Some Plus ∷ u) v h.spelled in
        record { sorted = h.sorted; enough = let n = k.0 in omega arith; within = (many-within room w b k.0).0 h.within; spelled = k.1 })
        (right-several stop room element elements 8 1000 ws)

    pub right-sum_headed : (p : ℕ) (t : Token) (rest : List Item)
        → Right stop (Sum-body room) (sum_headed stop quantity element (record { token = t; place = p }) rest) ((p, Some t) ∷ rest)
    right-sum_headed p Open rest = sum-no_head p Open rest (λ b u v k. k)
    right-sum_headed p Close rest = sum-no_head p Close rest (λ b u v k. k)
    right-sum_headed p True rest = sum-no_head p True rest (λ b u v k. k)
    right-sum_headed p False rest = sum-no_head p False rest (λ b u v k. k)
    right-sum_headed p And rest = sum-no_head p And rest (λ b u v k. k)
    right-sum_headed p Not rest = sum-no_head p Not rest (λ b u v k. k)
    right-sum_headed p Dia rest = sum-no_head p Dia rest (λ b u v k. k)
    right-sum_headed p Here rest = sum-no_head p Here rest (λ b u v k. k)
    right-sum_headed p Prob rest = sum-no_head p Prob rest (λ b u v k. k)
    right-sum_headed p AtLeast rest = sum-no_head p AtLeast rest (λ b u v k. k)
    right-sum_headed p Plus rest = right_plus p rest
    right-sum_headed p Times rest = right_times p rest
    right-sum_headed p (Numeral n) rest = sum-no_head p (Numeral n) rest (λ b u v k. k)

-- the probability of a state term, where no parenthesis may open any more, and where one may
pub quantity_closed : (stop : ℕ) (ws : List Item)
    → Right stop (ProbSaid 0) (then (next stop ws) (λ x rest. cond (eqb 0 (code x.token)) (Err (TooMany x.place)) (Err (Misplaced x.place)))) ws
quantity_closed stop ws =
    right-next stop (ProbSaid 0) (prob_proper 0) _ (λ p t rest.
    by_test (λ o. Right stop (ProbSaid 0) o ((p, Some t) ∷ rest)) (eqb 0 (code t)) (Err (TooMany p)) (Err (Misplaced p))
    (λ e. subst (λ k. Right stop (ProbSaid 0) (Err (TooMany p)) ((p, Some k) ∷ rest)) (sym (code-told Open t (λ k. omega arith) e))
    (right-too_many stop (ProbSaid 0) (prob_proper 0) p rest (prob_opens 0) (λ b u v h. let d = h.within.1 in omega arith)))
    (λ e. right-misplaced stop (ProbSaid 0) (prob_proper 0) p t rest (λ b u v h.
    let q = h.spelled in
    let k : t ≡ Open = cc in
    eqb-false 0 (code t) e (sym (ap code k))))) ws

pub quantity_opened : (stop room : ℕ) (terms : List Item → Out Tree) → ((ws : List Item) → Right stop (Said room state) (terms ws) ws) → (ws : List Item)
    → Right stop (ProbSaid (suc room)) (then (expect Open stop ws) (λ _ r. then (expect Prob stop r) (λ _ q. then (terms q) (λ s l. closed stop s l)))) ws
quantity_opened stop room terms rights ws =
    right-behind stop (Seq (Just {A = Unit {0}} Open tt) (λ _. inner)) (ProbSaid (suc room)) [] ws _
    (λ w b u v h.
    let s = h.3.3.2 in
    let e = h.3.3.3 in
    let k : h.3.3.0 ≡ b = sym e.0 in
    record {
      sorted = subst (λ x. OfSort state x) k s.sorted;
      within = subst (λ x. ProbWithin (suc room) w x) k ((prob_within w h.3.3.0).1 s.within);
      spelled = h.2.1 ∙ ap (λ l. Some Open ∷ l) (h.3.2.1
          ∙ ap (λ l. Some Prob ∷ l) (s.spelled ∙ ap (λ l. write h.3.3.0 l) e.1 ∙ ap (λ x. write x (Some Close ∷ v)) k));
    })
    (λ w b u v h. (
      tt,
      Some Prob ∷ write b (Some Close ∷ v),
      (refl, h.spelled),
      (
        tt,
        write b (Some Close ∷ v),
        (refl, refl),
        (b, Some Close ∷ v, record { sorted = h.sorted; within = (prob_within w b).0 h.within; spelled = refl }, (refl, refl)),
      ),
    ))
    (right-then stop (Just {A = Unit {0}} Open tt) (λ _. inner) (just_clear {A = Unit {0}} Open tt) (expect Open stop ws) _ ws
    (λ _. seq_begins (Just {A = Unit {0}} Prob tt) (λ _. inmost) [] (just_some {A = Unit {0}} Prob tt) (λ _. some))
    (right-expect stop Open (λ e. omega arith) ws)
    (λ _ r. right-then stop (Just {A = Unit {0}} Prob tt) (λ _. inmost) (just_clear {A = Unit {0}} Prob tt) (expect Prob stop r) _ r
    (λ _. some) (right-expect stop Prob (λ e. omega arith) r)
    (λ _ q. right-one stop (Said room state) (λ s. s) (said_clear room state) (terms q) q (rights q))))
  where
    inmost : Lang Tree
    inmost = One (Said room state) (λ s. s)

    inner : Lang Tree
    inner = Seq (Just {A = Unit {0}} Prob tt) (λ _. inmost)

    some : Begins inmost []
    some = one_some (Said room state) (λ s. s) (said_proper room state).some

    prob_within : (w : Limits) (s : Tree) → ProbWithin (suc room) w s ↔ Within room w s
    prob_within free s = (λ h. tt, λ h. tt)
    prob_within numbers s = (λ h. h, λ h. h)
    prob_within sizes s = (λ h. (h.0, omega arith), λ h. (h.0, omega arith))

-- a product behind its opening parenthesis, where another may open
pub element_opened : (stop r left : ℕ) (quantity : List Item → Out Tree) → ((ws : List Item) → Right stop (ProbSaid r) (quantity ws) ws) → (ws : List Item)
    → Right stop (Element r left) (then (expect Times stop ws) (λ _ l. factor stop quantity left l)) ws
element_opened stop r left quantity rights ws =
    right-then stop (Just {A = Unit {0}} Times tt) (λ _. Factor r left) (just_clear {A = Unit {0}} Times tt) (expect Times stop ws) _ ws
    (λ _. two_some (Counted 1 left) (ProbSaid r) (λ c s. (c, s)) (counted_proper 1 left).some (prob_proper r).some)
    (right-expect stop Times (λ e. omega arith) ws)
    (λ _ l. right-factor stop r quantity rights left l)
