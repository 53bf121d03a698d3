-- The words of a tree in front of others: how they begin, and that they tell the tree.
use Rattle.std.proofs.Common.{◌≡◌, ℕ, ◌≤◌, Bool, true, false, List, [], ◌∷◌, ◌++◌, map, Some, None, Option, sym, refl, ap, ◌∙◌, subst, ap₂, arith}
use Rattle.std.proofs.lemmas.List.{append_assoc, map-append}
use Rattle.formulas.specs.declared.token.Token.{Token}
use Rattle.formulas.specs.declared.token.Token.TheVariants.{Open, Close, True, False, And, Not, Dia, Here, Prob, AtLeast, Plus, Times, Numeral}
use Rattle.formulas.specs.Trees.{Tree, leaf, conj, neg, dia, here, at_least, Products, none, product, leaf_token, summed, spell, spell_products, count}

-- words, each by its token if it has one
abbrev pub Toks : Type 0
Toks = List (Option Token)

-- what stands around the products of a sum
abbrev pub sum_open : Products → Toks → Toks
sum_open none u = Some (Numeral 0) ∷ u
sum_open (product c s none) u = u
sum_open (product c s (product d r ks)) u = Some Open ∷ Some Plus ∷ u

abbrev pub sum-close : Products → Toks → Toks
sum-close none v = v
sum-close (product c s none) v = v
sum-close (product c s (product d r ks)) v = Some Close ∷ v

-- the words of a tree, and v behind them
abbrev mutual
  pub write : Tree → Toks → Toks
  write (leaf b) v = Some (leaf_token b) ∷ v
  write (conj x y) v = Some Open ∷ Some And ∷ write x (write y (Some Close ∷ v))
  write (neg x) v = Some Open ∷ Some Not ∷ write x (Some Close ∷ v)
  write (dia a d) v = Some Open ∷ Some Dia ∷ Some (Numeral a) ∷ write d (Some Close ∷ v)
  write (here d) v = Some Open ∷ Some Here ∷ write d (Some Close ∷ v)
  write (at_least ks t) v = Some Open ∷ Some AtLeast ∷ sum_open ks (write-products ks (sum-close ks (Some (Numeral t) ∷ Some Close ∷ v)))

  pub write-products : Products → Toks → Toks
  write-products none v = v
  write-products (product c s ks) v =
      Some Open ∷ Some Times ∷ Some (Numeral c) ∷ Some Open ∷ Some Prob ∷ write s (Some Close ∷ Some Close ∷ write-products ks v)

abbrev pub write_sum : Products → Toks → Toks
write_sum ks v = sum_open ks (write-products ks (sum-close ks v))

said_append : (k l : List Token) (v : Toks) → map Some (k ++ l) ++ v ≡ map Some k ++ (map Some l ++ v)
said_append k l v = rw (map-append, append_assoc)

-- they are what the tree is spelled as
summed_write : (ks : Products) (v : Toks) → map Some (summed ks (spell_products ks)) ++ v ≡ sum_open ks (map Some (spell_products ks) ++ sum-close ks v)
summed_write none v = refl
summed_write (product c s none) v = refl
summed_write (product c s (product d r ks)) v =
    ap (λ l. Some Open ∷ Some Plus ∷ l) (said_append (spell_products (product c s (product d r ks))) (Close ∷ []) v)

mutual
  pub write-spell : (x : Tree) (v : Toks) → map Some (spell x) ++ v ≡ write x v
  write-spell (leaf b) v = refl
  write-spell (conj x y) v = simp (said_append, write-spell x, write-spell y)
  write-spell (neg x) v = simp (said_append, write-spell x)
  write-spell (dia a d) v = simp (said_append, write-spell d)
  write-spell (here d) v = simp (said_append, write-spell d)
  write-spell (at_least ks t) v =
      ap (λ l. Some Open ∷ Some AtLeast ∷ l)
      (said_append (summed ks (spell_products ks)) (Numeral t ∷ Close ∷ []) v
      ∙ summed_write ks (Some (Numeral t) ∷ Some Close ∷ v)
      ∙ ap (λ l. sum_open ks l) (spell_write_products ks (sum-close ks (Some (Numeral t) ∷ Some Close ∷ v))))

  pub spell_write_products : (ks : Products) (v : Toks) → map Some (spell_products ks) ++ v ≡ write-products ks v
  spell_write_products none v = refl
  spell_write_products (product c s ks) v = simp (said_append, write-spell s, spell_write_products ks)

-- what a tree behind `(` and a token is, where the words behind these are u and v is behind the tree
abbrev pub Headed : Token → Tree → Toks → Toks → Type 0
Headed Open b u v = ⊥
Headed Close b u v = ⊥
Headed True b u v = ⊥
Headed False b u v = ⊥
Headed And b u v = (x : Tree) × (y : Tree) × (b ≡ conj x y) × (u ≡ write x (write y (Some Close ∷ v)))
Headed Not b u v = (x : Tree) × (b ≡ neg x) × (u ≡ write x (Some Close ∷ v))
Headed Dia b u v = (a : ℕ) × (d : Tree) × (b ≡ dia a d) × (u ≡ Some (Numeral a) ∷ write d (Some Close ∷ v))
Headed Here b u v = (d : Tree) × (b ≡ here d) × (u ≡ write d (Some Close ∷ v))
Headed Prob b u v = ⊥
Headed AtLeast b u v = (ks : Products) × (t : ℕ) × (b ≡ at_least ks t) × (u ≡ write_sum ks (Some (Numeral t) ∷ Some Close ∷ v))
Headed Plus b u v = ⊥
Headed Times b u v = ⊥
Headed (Numeral n) b u v = ⊥

abbrev pub Opened : Tree → Toks → Toks → Type 0
Opened b [] v = ⊥
Opened b (None ∷ u) v = ⊥
Opened b (Some t ∷ u) v = Headed t b u v

abbrev pub Started : Token → Tree → Toks → Toks → Type 0
Started Open b u v = Opened b u v
Started Close b u v = ⊥
Started True b u v = (b ≡ leaf true) × (u ≡ v)
Started False b u v = (b ≡ leaf false) × (u ≡ v)
Started And b u v = ⊥
Started Not b u v = ⊥
Started Dia b u v = ⊥
Started Here b u v = ⊥
Started Prob b u v = ⊥
Started AtLeast b u v = ⊥
Started Plus b u v = ⊥
Started Times b u v = ⊥
Started (Numeral n) b u v = ⊥

-- what a tree is, by its first words
abbrev pub Shape : Tree → Toks → Toks → Type 0
Shape b [] v = ⊥
Shape b (None ∷ u) v = ⊥
Shape b (Some t ∷ u) v = Started t b u v

own-shape : (b : Tree) (v : Toks) → Shape b (write b v) v
own-shape (leaf true) v = (refl, refl)
own-shape (leaf false) v = (refl, refl)
own-shape (conj x y) v = (x, y, refl, refl)
own-shape (neg x) v = (x, refl, refl)
own-shape (dia a d) v = (a, d, refl, refl)
own-shape (here d) v = (d, refl, refl)
own-shape (at_least ks t) v = (ks, t, refl, refl)

pub shape : (b : Tree) (o v : Toks) → o ≡ write b v → Shape b o v
shape b o v e = subst (λ k. Shape b k v) (sym e) (own-shape b v)

-- what a sum is, by its first words
abbrev pub SumHeaded : Token → Products → Toks → Toks → Type 0
SumHeaded Open ks u v = ⊥
SumHeaded Close ks u v = ⊥
SumHeaded True ks u v = ⊥
SumHeaded False ks u v = ⊥
SumHeaded And ks u v = ⊥
SumHeaded Not ks u v = ⊥
SumHeaded Dia ks u v = ⊥
SumHeaded Here ks u v = ⊥
SumHeaded Prob ks u v = ⊥
SumHeaded AtLeast ks u v = ⊥
SumHeaded Plus ks u v = (2 ≤ count ks) × (u ≡ write-products ks (Some Close ∷ v))
SumHeaded Times ks u v =
    (c : ℕ) × (s : Tree) × (ks ≡ product c s none) × (u ≡ Some (Numeral c) ∷ Some Open ∷ Some Prob ∷ write s (Some Close ∷ Some Close ∷ v))
SumHeaded (Numeral n) ks u v = ⊥

abbrev pub SumOpened : Products → Toks → Toks → Type 0
SumOpened ks [] v = ⊥
SumOpened ks (None ∷ u) v = ⊥
SumOpened ks (Some t ∷ u) v = SumHeaded t ks u v

abbrev pub SumStarted : Token → Products → Toks → Toks → Type 0
SumStarted Open ks u v = SumOpened ks u v
SumStarted Close ks u v = ⊥
SumStarted True ks u v = ⊥
SumStarted False ks u v = ⊥
SumStarted And ks u v = ⊥
SumStarted Not ks u v = ⊥
SumStarted Dia ks u v = ⊥
SumStarted Here ks u v = ⊥
SumStarted Prob ks u v = ⊥
SumStarted AtLeast ks u v = ⊥
SumStarted Plus ks u v = ⊥
SumStarted Times ks u v = ⊥
SumStarted (Numeral n) ks u v = (ks ≡ none) × (n ≡ 0) × (u ≡ v)

abbrev pub SumShape : Products → Toks → Toks → Type 0
SumShape ks [] v = ⊥
SumShape ks (None ∷ u) v = ⊥
SumShape ks (Some t ∷ u) v = SumStarted t ks u v

own_sum_shape : (ks : Products) (v : Toks) → SumShape ks (write_sum ks v) v
own_sum_shape none v = (refl, refl, refl)
own_sum_shape (product c s none) v = (c, s, refl, refl)
own_sum_shape (product c s (product d r ks)) v = (omega arith, refl)

pub sum-shape : (ks : Products) (o v : Toks) → o ≡ write_sum ks v → SumShape ks o v
sum-shape ks o v e = subst (λ k. SumShape ks k v) (sym e) (own_sum_shape ks v)

-- what products in front of a `)` are, by their first word
abbrev pub ProductsStarted : Token → Products → Toks → Toks → Type 0
ProductsStarted Open ks u v =
    (c : ℕ) × (s : Tree) × (rest : Products) × (ks ≡ product c s rest)
    × (u ≡ Some Times ∷ Some (Numeral c) ∷ Some Open ∷ Some Prob ∷ write s (Some Close ∷ Some Close ∷ write-products rest (Some Close ∷ v)))
ProductsStarted Close ks u v = (ks ≡ none) × (u ≡ v)
ProductsStarted True ks u v = ⊥
ProductsStarted False ks u v = ⊥
ProductsStarted And ks u v = ⊥
ProductsStarted Not ks u v = ⊥
ProductsStarted Dia ks u v = ⊥
ProductsStarted Here ks u v = ⊥
ProductsStarted Prob ks u v = ⊥
ProductsStarted AtLeast ks u v = ⊥
ProductsStarted Plus ks u v = ⊥
ProductsStarted Times ks u v = ⊥
ProductsStarted (Numeral n) ks u v = ⊥

abbrev pub ProductsShape : Products → Toks → Toks → Type 0
ProductsShape ks [] v = ⊥
ProductsShape ks (None ∷ u) v = ⊥
ProductsShape ks (Some t ∷ u) v = ProductsStarted t ks u v

own_products_shape : (ks : Products) (v : Toks) → ProductsShape ks (write-products ks (Some Close ∷ v)) v
own_products_shape none v = (refl, refl)
own_products_shape (product c s ks) v = (c, s, ks, refl, refl)

pub products-shape : (ks : Products) (o v : Toks) → o ≡ write-products ks (Some Close ∷ v) → ProductsShape ks o v
products-shape ks o v e = subst (λ k. ProductsShape ks k v) (sym e) (own_products_shape ks v)

-- the tree x, and what is behind it, can be told from the words
abbrev Told : Tree → Type 0
Told x = (y : Tree) (v v' : Toks) → write x v ≡ write y v' → (x ≡ y) × (v ≡ v')

abbrev AllTold : Products → Type 0
AllTold none = Unit {0}
AllTold (product c s ks) = Told s × AllTold ks

told_leaf : (b : Bool) → Told (leaf b)
told_leaf true y v v' e = let h = shape y (Some True ∷ v) v' e in (sym h.0, h.1)
told_leaf false y v v' e = let h = shape y (Some False ∷ v) v' e in (sym h.0, h.1)

close-told : {v v' : Toks} → ◌≡◌ {A = Toks} (Some Close ∷ v) (Some Close ∷ v') → v ≡ v'
close-told e = cc

told_conj : (x y : Tree) → Told x → Told y → Told (conj x y)
told_conj x y hx hy z v v' e =
    let h = shape z (write (conj x y) v) v' e in
    let p = hx h.0 _ _ h.3 in
    let q = hy h.1 _ _ p.1 in
    (ap₂ (λ a b. conj a b) p.0 q.0 ∙ sym h.2, close-told q.1)

told_neg : (x : Tree) → Told x → Told (neg x)
told_neg x hx z v v' e =
    let h = shape z (write (neg x) v) v' e in
    let p = hx h.0 _ _ h.2 in
    (rw p.0 (sym h.1), close-told p.1)

told_dia : (a : ℕ) (d : Tree) → Told d → Told (dia a d)
told_dia a d hd z v v' e =
    let h = shape z (write (dia a d) v) v' e in
    let n : a ≡ h.0 = cc h.3 in
    let t : write d (Some Close ∷ v) ≡ write h.1 (Some Close ∷ v') = cc h.3 in
    let p = hd h.1 _ _ t in
    (ap₂ (λ k b. dia k b) n p.0 ∙ sym h.2, close-told p.1)

told_here : (x : Tree) → Told x → Told (here x)
told_here x hx z v v' e =
    let h = shape z (write (here x) v) v' e in
    let p = hx h.0 _ _ h.2 in
    (rw p.0 (sym h.1), close-told p.1)

product_told : {c d : ℕ} {s r : Tree} {ks ls : Products} → c ≡ d → s ≡ r → ks ≡ ls → product c s ks ≡ product d r ls
product_told m p q = cc

told-products : (ks : Products) → AllTold ks → (ls : Products) (v v' : Toks)
    → write-products ks (Some Close ∷ v) ≡ write-products ls (Some Close ∷ v') → (ks ≡ ls) × (v ≡ v')
told-products none hs ls v v' e = let h = products-shape ls (Some Close ∷ v) v' e in (sym h.0, h.1)
told-products (product c s ks) hs ls v v' e =
    let h = products-shape ls (write-products (product c s ks) (Some Close ∷ v)) v' e in
    let n : c ≡ h.0 = cc h.4 in
    let t : write s (Some Close ∷ Some Close ∷ write-products ks (Some Close ∷ v)) ≡ write h.1 (Some Close ∷ Some Close ∷ write-products h.2 (Some Close ∷ v')) = cc h.4 in
    let p = hs.0 h.1 _ _ t in
    let q = told-products ks hs.1 h.2 v v' (close-told (close-told p.1)) in
    (product_told n p.0 q.0 ∙ sym h.3, q.1)

told-sum : (ks : Products) → AllTold ks → (ls : Products) (v v' : Toks) → write_sum ks v ≡ write_sum ls v' → (ks ≡ ls) × (v ≡ v')
told-sum none hs ls v v' e = let h = sum-shape ls (Some (Numeral 0) ∷ v) v' e in (sym h.0, h.2)
told-sum (product c s none) hs ls v v' e =
    let h = sum-shape ls (write_sum (product c s none) v) v' e in
    let n : c ≡ h.0 = cc h.3 in
    let t : write s (Some Close ∷ Some Close ∷ v) ≡ write h.1 (Some Close ∷ Some Close ∷ v') = cc h.3 in
    let p = hs.0 h.1 _ _ t in
    (product_told n p.0 refl ∙ sym h.2, close-told (close-told p.1))
told-sum (product c s (product d r ks)) hs ls v v' e =
    let h = sum-shape ls (write_sum (product c s (product d r ks)) v) v' e in
    told-products (product c s (product d r ks)) hs ls v v' h.1

told_at_least : (ks : Products) (t : ℕ) → AllTold ks → Told (at_least ks t)
told_at_least ks t hs z v v' e =
    let h = shape z (write (at_least ks t) v) v' e in
    let p = told-sum ks hs h.0 _ _ h.3 in
    let n : t ≡ h.1 = cc p.1 in
    let q : v ≡ v' = cc p.1 in
    (ap₂ (λ l m. at_least l m) p.0 n ∙ sym h.2, q)

mutual
  pub told : (x : Tree) → Told x
  told (leaf b) = told_leaf b
  told (conj x y) = told_conj x y (told x) (told y)
  told (neg x) = told_neg x (told x)
  told (dia a d) = told_dia a d (told d)
  told (here d) = told_here d (told d)
  told (at_least ks t) = told_at_least ks t (all_told ks)

  all_told : (ks : Products) → AllTold ks
  all_told none = tt
  all_told (product c s ks) = (told s, all_told ks)

pub sum_told : (ks ls : Products) (v v' : Toks) → write_sum ks v ≡ write_sum ls v' → (ks ≡ ls) × (v ≡ v')
sum_told ks ls v v' e = told-sum ks (all_told ks) ls v v' e

pub products-told : (ks ls : Products) (v v' : Toks) → write-products ks (Some Close ∷ v) ≡ write-products ls (Some Close ∷ v') → (ks ≡ ls) × (v ≡ v')
products-told ks ls v v' e = told-products ks (all_told ks) ls v v' e
