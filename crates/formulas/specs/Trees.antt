-- Syntax trees: how they are spelled, which of them the language has, and the formula of each.
use Rattle.std.specs.Prelude.{ℕ, suc, ◌+◌, ◌≤◌, max, Bool, true, false, List, [], ◌∷◌, ◌++◌}
use Rattle.formulas.specs.declared.node.Term.{Term}
use Rattle.formulas.specs.declared.token.Token.{Token}
use Rattle.formulas.specs.declared.token.Token.TheVariants.{Open, Close, True, False, And, Not, Dia, Here, Prob, AtLeast, Plus, Times, Numeral}
use Rattle.formulas.specs.Lines.{Sort, state, dist, Line, constant, both, non, step, sum, Formula}

mutual
  pub data Tree : Type 0 where
    -- true or false
    leaf : Bool → Tree
    conj : Tree → Tree → Tree
    neg : Tree → Tree
    -- an action, and what one of its moves is to satisfy
    dia : ℕ → Tree → Tree
    -- what standing still is to satisfy
    here : Tree → Tree
    -- a sum and its threshold
    at_least : Products → ℕ → Tree

  -- products of a coefficient and the probability of a state term, to be added up
  pub data Products : Type 0 where
    none : Products
    product : ℕ → Tree → Products → Products

abbrev pub leaf_token : Bool → Token
leaf_token true = True
leaf_token false = False

-- a sum around its products: none is 0, one stands alone, more of them behind a plus
abbrev pub summed : Products → List Token → List Token
summed none spelled = Numeral 0 ∷ []
summed (product c s none) spelled = spelled
summed (product c s (product d r ks)) spelled = Open ∷ Plus ∷ (spelled ++ (Close ∷ []))

-- the words of a tree
abbrev mutual
  pub spell : Tree → List Token
  spell (leaf b) = leaf_token b ∷ []
  spell (conj x y) = Open ∷ And ∷ (spell x ++ (spell y ++ (Close ∷ [])))
  spell (neg x) = Open ∷ Not ∷ (spell x ++ (Close ∷ []))
  spell (dia a d) = Open ∷ Dia ∷ Numeral a ∷ (spell d ++ (Close ∷ []))
  spell (here d) = Open ∷ Here ∷ (spell d ++ (Close ∷ []))
  spell (at_least ks t) = Open ∷ AtLeast ∷ (summed ks (spell_products ks) ++ (Numeral t ∷ Close ∷ []))

  pub spell_products : Products → List Token
  spell_products none = []
  spell_products (product c s ks) = Open ∷ Times ∷ Numeral c ∷ Open ∷ Prob ∷ (spell s ++ (Close ∷ Close ∷ spell_products ks))

-- the tree is a term of the sort
abbrev mutual
  pub OfSort : Sort → Tree → Type 0
  OfSort σ (leaf b) = Unit {0}
  OfSort σ (conj x y) = OfSort σ x × OfSort σ y
  OfSort σ (neg x) = OfSort σ x
  OfSort state (dia a d) = OfSort dist d
  OfSort dist (dia a d) = ⊥
  OfSort state (here d) = OfSort dist d
  OfSort dist (here d) = ⊥
  OfSort state (at_least ks t) = ⊥
  OfSort dist (at_least ks t) = OfProducts ks

  pub OfProducts : Products → Type 0
  OfProducts none = Unit {0}
  OfProducts (product c s ks) = OfSort state s × OfProducts ks

abbrev pub count : Products → ℕ
count none = 0
count (product c s ks) = suc (count ks)

abbrev pub coefficients : Products → ℕ
coefficients none = 0
coefficients (product c s ks) = c + coefficients ks

-- its numbers are in their ranges, and no sum has more than eight terms
abbrev mutual
  pub InRange : Tree → Type 0
  InRange (leaf b) = Unit {0}
  InRange (conj x y) = InRange x × InRange y
  InRange (neg x) = InRange x
  InRange (dia a d) = (a ≤ 31) × InRange d
  InRange (here d) = InRange d
  InRange (at_least ks t) = InRanges ks × (count ks ≤ 8) × (coefficients ks ≤ 1000) × (t ≤ 1000)

  pub InRanges : Products → Type 0
  InRanges none = Unit {0}
  InRanges (product c s ks) = (1 ≤ c) × InRange s × InRanges ks

abbrev pub sum_depth : Products → ℕ → ℕ
sum_depth none d = 0
sum_depth (product c s none) d = d
sum_depth (product c s (product e r ks)) d = suc d

-- how many parentheses are open at a time
abbrev mutual
  pub depth : Tree → ℕ
  depth (leaf b) = 0
  depth (conj x y) = suc (max (depth x) (depth y))
  depth (neg x) = suc (depth x)
  depth (dia a d) = suc (depth d)
  depth (here d) = suc (depth d)
  depth (at_least ks t) = suc (sum_depth ks (products_depth ks))

  pub products_depth : Products → ℕ
  products_depth none = 0
  products_depth (product c s ks) = max (suc (suc (depth s))) (products_depth ks)

-- the nodes of a tree but its own
abbrev mutual
  pub below : Tree → ℕ
  below (leaf b) = 0
  below (conj x y) = below x + 1 + (below y + 1)
  below (neg x) = below x + 1
  below (dia a d) = below d + 1
  below (here d) = below d + 1
  below (at_least ks t) = below_products ks

  pub below_products : Products → ℕ
  below_products none = 0
  below_products (product c s ks) = below s + 1 + below_products ks

-- the terms of a sum whose first node is number n
abbrev pub terms : ℕ → Products → List Term
terms n none = []
terms n (product c s ks) = record { coefficient = c; node = n + below s } ∷ terms (n + below s + 1) ks

-- the lines of a tree of a sort in the order in which its parts close, the first of them number n
abbrev mutual
  pub lay : Sort → ℕ → Tree → List Line
  lay σ n (leaf b) = constant σ b ∷ []
  lay σ n (conj x y) = lay σ n x ++ (lay σ (n + below x + 1) y ++ (both σ (n + below x) (n + below x + 1 + below y) ∷ []))
  lay σ n (neg x) = lay σ n x ++ (non σ (n + below x) ∷ [])
  lay σ n (dia a d) = lay dist n d ++ (step a ((n + below d) ∷ []) [] ∷ [])
  lay σ n (here d) = lay dist n d ++ (step 0 [] ((n + below d) ∷ []) ∷ [])
  lay σ n (at_least ks t) = lay_products n ks ++ (sum t (terms n ks) ∷ [])

  pub lay_products : ℕ → Products → List Line
  lay_products n none = []
  lay_products n (product c s ks) = lay state n s ++ lay_products (n + below s + 1) ks

-- the formula of a state term
abbrev pub formula_of : Tree → Formula
formula_of t = record { lines = lay state 0 t; root = below t }
