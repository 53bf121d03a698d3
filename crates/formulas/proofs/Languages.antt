-- The languages of the readers: terms, sums, quantities, products and numbers.
use Rattle.std.proofs.Common.{◌≡◌, ℕ, zero, suc, ◌+◌, ◌≤◌, true, false, [], ◌∷◌, Some, None, sym, refl, ap, ◌∙◌, subst, arith}
use Rattle.formulas.specs.declared.token.Token.{Token}
use Rattle.formulas.specs.declared.token.Token.TheVariants.{Open, Close, True, False, And, Not, Dia, Here, Prob, AtLeast, Plus, Times, Numeral}
use Rattle.formulas.specs.Lines.{Sort, state}
use Rattle.formulas.specs.Trees.{Tree, leaf, conj, neg, dia, here, at_least, Products, none, product, OfSort, OfProducts, count, coefficients, depth, sum_depth, products_depth}
use Rattle.formulas.specs.Spelling.{NumbersFit, CoefficientsFit, SumsShort, PartsShort}
use Rattle.formulas.proofs.Written.{Toks, write, write-products, write_sum, shape, sum-shape, products-shape, told, products-told, sum_told}
use Rattle.formulas.proofs.Outcomes.{Limits, free, numbers, sizes, Lang, Begins, Clear, Proper, Two}

-- a number from low to high
abbrev pub InBounds : ℕ → ℕ → Limits → ℕ → Type 0
InBounds low high free n = Unit {0}
InBounds low high numbers n = (low ≤ n) × (n ≤ high)
InBounds low high sizes n = Unit {0}

abbrev pub Counted : ℕ → ℕ → Lang ℕ
Counted low high w n u v = InBounds low high w n × (u ≡ Some (Numeral n) ∷ v)

abbrev pub NumberStarted : Token → ℕ → Toks → Toks → Type 0
NumberStarted Open n u v = ⊥
NumberStarted Close n u v = ⊥
NumberStarted True n u v = ⊥
NumberStarted False n u v = ⊥
NumberStarted And n u v = ⊥
NumberStarted Not n u v = ⊥
NumberStarted Dia n u v = ⊥
NumberStarted Here n u v = ⊥
NumberStarted Prob n u v = ⊥
NumberStarted AtLeast n u v = ⊥
NumberStarted Plus n u v = ⊥
NumberStarted Times n u v = ⊥
NumberStarted (Numeral m) n u v = (n ≡ m) × (u ≡ v)

abbrev pub NumberShape : ℕ → Toks → Toks → Type 0
NumberShape n [] v = ⊥
NumberShape n (None ∷ u) v = ⊥
NumberShape n (Some t ∷ u) v = NumberStarted t n u v

pub number-shape : (n : ℕ) (o v : Toks) → o ≡ Some (Numeral n) ∷ v → NumberShape n o v
number-shape n o v e = subst (λ k. NumberShape n k v) (sym e) (refl, refl)

pub counted_proper : (low high : ℕ) → Proper (Counted low high)
counted_proper low high = record {
  some = (0, λ v. (Some (Numeral 0) ∷ v, (tt, refl)));
  full = λ b v h. number-shape b [] v h.1;
  known = λ b u v h. number-shape b (None ∷ u) v h.1;
}

pub counted_clear : (low high : ℕ) → Clear (Counted low high)
counted_clear low high w w' a a' u v v' h h' =
    let e = h.1 in
    let e' = h'.1 in
    ((let z : a ≡ a' = cc in z), (let z : v ≡ v' = cc in z))

-- a term of a sort in which at most room parentheses are open at a time
abbrev pub Within : ℕ → Limits → Tree → Type 0
Within room free b = Unit {0}
Within room numbers b = NumbersFit b
Within room sizes b = SumsShort b × (depth b ≤ room)

pub record Said (room : ℕ) (σ : Sort) (w : Limits) (b : Tree) (u v : Toks) : Type 0 where
  pub sorted : OfSort σ b
  pub within : Within room w b
  pub spelled : u ≡ write b v

pub said_proper : (room : ℕ) (σ : Sort) → Proper (Said room σ)
said_proper room σ = record {
  some = (leaf true, λ v. (Some True ∷ v, record { sorted = tt; within = tt; spelled = refl }));
  full = λ b v h. shape b [] v h.spelled;
  known = λ b u v h. shape b (None ∷ u) v h.spelled;
}

pub said_clear : (room : ℕ) (σ : Sort) → Clear (Said room σ)
said_clear room σ w w' a a' u v v' h h' = told a a' v v' (sym h.spelled ∙ h'.spelled)

-- what is left of a term behind its first parenthesis
abbrev pub Body : ℕ → Sort → Lang Tree
Body room σ w b u v = Said (suc room) σ w b (Some Open ∷ u) v

pub said_opens : (room : ℕ) (σ : Sort) → Begins (Said room σ) (Some Open ∷ [])
said_opens room σ = (neg (leaf true), λ v. (Some Not ∷ Some True ∷ Some Close ∷ v, record { sorted = tt; within = tt; spelled = refl }))

pub body_proper : (room : ℕ) (σ : Sort) → Proper (Body room σ)
body_proper room σ = record {
  some = said_opens (suc room) σ;
  full = λ b v h. shape b (Some Open ∷ []) v h.spelled;
  known = λ b u v h. shape b (Some Open ∷ None ∷ u) v h.spelled;
}

no_room : (b : Tree) (u v : Toks) → depth b ≤ 0 → Some Open ∷ u ≡ write b v → ⊥
no_room (leaf true) u v h e = let z : ◌≡◌ {A = ℕ} 0 1 = cc in omega arith
no_room (leaf false) u v h e = let z : ◌≡◌ {A = ℕ} 0 1 = cc in omega arith
no_room (conj x y) u v h e = omega arith
no_room (neg x) u v h e = omega arith
no_room (dia a d) u v h e = omega arith
no_room (here d) u v h e = omega arith
no_room (at_least ks t) u v h e = omega arith

pub said_shallow : (σ : Sort) (b : Tree) (u v : Toks) → Said 0 σ sizes b (Some Open ∷ u) v → ⊥
said_shallow σ b u v h = no_room b u v h.within.1 h.spelled

-- a sum
abbrev pub SumWithin : ℕ → Limits → Products → Type 0
SumWithin room free ks = Unit {0}
SumWithin room numbers ks = CoefficientsFit ks × (coefficients ks ≤ 1000)
SumWithin room sizes ks = PartsShort ks × (count ks ≤ 8) × (sum_depth ks (products_depth ks) ≤ room)

pub record Summed (room : ℕ) (w : Limits) (ks : Products) (u v : Toks) : Type 0 where
  pub sorted : OfProducts ks
  pub within : SumWithin room w ks
  pub spelled : u ≡ write_sum ks v

pub summed_proper : (room : ℕ) → Proper (Summed room)
summed_proper room = record {
  some = (none, λ v. (Some (Numeral 0) ∷ v, record { sorted = tt; within = tt; spelled = refl }));
  full = λ b v h. sum-shape b [] v h.spelled;
  known = λ b u v h. sum-shape b (None ∷ u) v h.spelled;
}

pub summed_clear : (room : ℕ) → Clear (Summed room)
summed_clear room w w' a a' u v v' h h' = sum_told a a' v v' (sym h.spelled ∙ h'.spelled)

abbrev pub Sum-body : ℕ → Lang Products
Sum-body room w ks u v = Summed (suc room) w ks (Some Open ∷ u) v

pub summed-opens : (room : ℕ) → Begins (Summed room) (Some Open ∷ [])
summed-opens room = (product 0 (leaf true) none, λ v. (Some Times ∷ Some (Numeral 0) ∷ Some Open ∷ Some Prob ∷ Some True ∷ Some Close ∷ Some Close ∷ v, record { sorted = (tt, tt); within = tt; spelled = refl }))

pub sum-body_proper : (room : ℕ) → Proper (Sum-body room)
sum-body_proper room = record {
  some = summed-opens (suc room);
  full = λ b v h. sum-shape b (Some Open ∷ []) v h.spelled;
  known = λ b u v h. sum-shape b (Some Open ∷ None ∷ u) v h.spelled;
}

no_sum_room : (ks : Products) (u v : Toks) → sum_depth ks (products_depth ks) ≤ 0 → Some Open ∷ u ≡ write_sum ks v → ⊥
no_sum_room none u v h e = let z : ◌≡◌ {A = ℕ} 0 1 = cc in omega arith
no_sum_room (product c s none) u v h e = omega arith
no_sum_room (product c s (product d r ks)) u v h e = omega arith

pub summed-shallow : (ks : Products) (u v : Toks) → Summed 0 sizes ks (Some Open ∷ u) v → ⊥
summed-shallow ks u v h = no_sum_room ks u v h.within.2 h.spelled

-- the probability of a state term
abbrev pub ProbWithin : ℕ → Limits → Tree → Type 0
ProbWithin room free s = Unit {0}
ProbWithin room numbers s = NumbersFit s
ProbWithin room sizes s = SumsShort s × (suc (depth s) ≤ room)

pub record ProbSaid (room : ℕ) (w : Limits) (s : Tree) (u v : Toks) : Type 0 where
  pub sorted : OfSort state s
  pub within : ProbWithin room w s
  pub spelled : u ≡ Some Open ∷ Some Prob ∷ write s (Some Close ∷ v)

pub prob_proper : (room : ℕ) → Proper (ProbSaid room)
prob_proper room = record {
  some = (leaf true, λ v. (Some Open ∷ Some Prob ∷ Some True ∷ Some Close ∷ v, record { sorted = tt; within = tt; spelled = refl }));
  full = λ b v h. let e = h.spelled in let z : ◌≡◌ {A = ℕ} 0 1 = cc in omega arith;
  known = λ b u v h. let e = h.spelled in let z : ◌≡◌ {A = ℕ} 0 1 = cc in omega arith;
}

pub prob_opens : (room : ℕ) → Begins (ProbSaid room) (Some Open ∷ [])
prob_opens room = (leaf true, λ v. (Some Prob ∷ Some True ∷ Some Close ∷ v, record { sorted = tt; within = tt; spelled = refl }))

pub prob_clear : (room : ℕ) → Clear (ProbSaid room)
prob_clear room w w' a a' u v v' h h' =
    let e = h.spelled in
    let e' = h'.spelled in
    let k : write a (Some Close ∷ v) ≡ write a' (Some Close ∷ v') = cc in
    let p = told a a' (Some Close ∷ v) (Some Close ∷ v') k in
    (p.0, (let q = p.1 in let z : v ≡ v' = cc in z))

-- a product behind its `*`
abbrev pub Factor : ℕ → ℕ → Lang (ℕ × Tree)
Factor room left = Two (Counted 1 left) (ProbSaid room) (λ c s. (c, s))

-- the products left behind a `+`, of which at most more come, and of which enough must come
abbrev pub SeveralWithin : ℕ → ℕ → ℕ → Limits → Products → Type 0
SeveralWithin more left room free ks = Unit {0}
SeveralWithin more left room numbers ks = CoefficientsFit ks × (coefficients ks ≤ left)
SeveralWithin more left room sizes ks = PartsShort ks × (count ks ≤ more) × (products_depth ks ≤ room)

pub record Several (more left room : ℕ) (w : Limits) (ks : Products) (u v : Toks) : Type 0 where
  pub sorted : OfProducts ks
  pub enough : more ≤ 6 + count ks
  pub within : SeveralWithin more left room w ks
  pub spelled : u ≡ write-products ks (Some Close ∷ v)

-- as many products as are wanted
some-products : ℕ → Products
some-products zero = none
some-products (suc n) = product 0 (leaf true) (some-products n)

some-sorted : (n : ℕ) → OfProducts (some-products n)
unfolding some-products
some-sorted zero = tt
some-sorted (suc n) = (tt, some-sorted n)

some-count : (n : ℕ) → count (some-products n) ≡ n
unfolding some-products
some-count zero = refl
some-count (suc n) = ap suc (some-count n)

some-several : (more left room n : ℕ) → more ≤ 6 + n → (v : Toks) → Several more left room free (some-products n) (write-products (some-products n) (Some Close ∷ v)) v
some-several more left room n h v = record { sorted = some-sorted n; enough = rw (some-count n) h; within = tt; spelled = refl }

pub several_proper : (more left room : ℕ) → Proper (Several more left room)
several_proper more left room = record {
  some = (some-products more, λ v. (write-products (some-products more) (Some Close ∷ v), some-several more left room more (omega arith) v));
  full = λ b v h. products-shape b [] v h.spelled;
  known = λ b u v h. products-shape b (None ∷ u) v h.spelled;
}

pub several-opens : (more left room : ℕ) → Begins (Several more left room) (Some Open ∷ [])
unfolding some-products
several-opens more left room = (
  some-products (suc more),
  λ v. (
    Some Times ∷ Some (Numeral 0) ∷ Some Open ∷ Some Prob ∷ Some True ∷ Some Close ∷ Some Close ∷ write-products (some-products more) (Some Close ∷ v),
    some-several more left room (suc more) (omega arith) v,
  ),
)

pub several_clear : (more left room : ℕ) → Clear (Several more left room)
several_clear more left room w w' a a' u v v' h h' = products-told a a' v v' (sym h.spelled ∙ h'.spelled)
