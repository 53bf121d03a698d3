-- Moving what is left of a node's entries down in the tables.
use Rattle.std.specs.Prelude.{◌≡◌, ℕ, ◌+◌, ◌^◌, ◌<◌, ◌≤◌, Option, List, [], ◌∷◌, ◌++◌, length, take, drop}
use Rattle.std.specs.List.{AllByRecursion, cons_option}
use Rattle.formulas.specs.declared.node.Node.{Node}
use Rattle.formulas.specs.declared.node.Node.TheVariants.{State, Dist}
use Rattle.formulas.specs.declared.node.StateNode.{StateNode}
use Rattle.formulas.specs.declared.node.StateNode as sn
use Rattle.formulas.specs.declared.node.DistNode.{DistNode}
use Rattle.formulas.specs.declared.node.DistNode as dn
use Rattle.formulas.specs.declared.node.Run.{Run}
use Rattle.formulas.specs.declared.node.Term.{Term}
use Rattle.formulas.specs.Lines.{Line, entries}
use Rattle.formulas.specs.Layout.{terms_in, alternatives_in, node}

-- a node's entries lie at the place p or further on, and Q holds of each of its parts
pub record FitStep (Q : ℕ → Type 0) (alts : List ℕ) (p : ℕ) (mv h : Run) : Type 0 where
  pub past : p ≤ mv.first
  pub next : mv.first + mv.count ≤ h.first
  pub within : h.first + h.count ≤ length alts
  pub small : length alts < 2 ^ 32
  pub moves : AllByRecursion Q (entries alts mv)
  pub heres : AllByRecursion Q (entries alts h)

pub record FitSum (Q : ℕ → Type 0) (ts : List Term) (p : ℕ) (r : Run) : Type 0 where
  pub past : p ≤ r.first
  pub within : r.first + r.count ≤ length ts
  pub small : length ts < 2 ^ 32
  pub parts : AllByRecursion (λ k. Q k.node) (entries ts r)

-- the same of a node of either sort: t and a are the places of its terms and alternatives
abbrev pub Fit : (ℕ → Type 0) → List Term → List ℕ → ℕ → ℕ → Node → Type 0
Fit Q ts alts t a (State sn.TheVariants.Yes) = Unit {0}
Fit Q ts alts t a (State sn.TheVariants.No) = Unit {0}
Fit Q ts alts t a (State (sn.TheVariants.And i j)) = Q i × Q j
Fit Q ts alts t a (State (sn.TheVariants.Not i)) = Q i
Fit Q ts alts t a (State (sn.TheVariants.Step x mv h)) = FitStep Q alts a mv h
Fit Q ts alts t a (Dist dn.TheVariants.Yes) = Unit {0}
Fit Q ts alts t a (Dist dn.TheVariants.No) = Unit {0}
Fit Q ts alts t a (Dist (dn.TheVariants.And i j)) = Q i × Q j
Fit Q ts alts t a (Dist (dn.TheVariants.Not i)) = Q i
Fit Q ts alts t a (Dist (dn.TheVariants.Sum x r)) = FitSum Q ts t r

-- the list with these from the place p on
abbrev pub put : {X : Type 0} → ℕ → List X → List X → List X
put p [] old = old
put p (x ∷ new) old = take p old ++ ((x ∷ new) ++ drop (p + length (x ∷ new)) old)

-- ys is what R leaves of each of xs: an entry, or nothing
abbrev pub Remains : {X : Type 0} → (X → Option X → Type 0) → List X → List X → Type 0
Remains R [] ys = ys ≡ []
Remains {X} R (x ∷ xs) ys = (o : Option X) × (zs : List X) × R x o × Remains R xs zs × (ys ≡ cons_option o zs)

-- what R leaves of these entries is moved to the place p, and e is where it ends
pub record Moved {X : Type 0} (R : X → Option X → Type 0) (xs : List X) (p : ℕ) (old : List X) (e : ℕ) (new : List X) : Type 0 where
  pub left : List X
  pub each : Remains R xs left
  pub end : e ≡ p + length left
  pub is : new ≡ put p left old

-- the node n stands for the line l at any place, and has no entries
pub record Bare (n : Node) (l : Line) : Type 0 where
  pub is : (t a : ℕ) → n ≡ node t a l
  pub terms : terms_in l ≡ []
  pub alternatives : alternatives_in l ≡ []

-- the line l at the place p: n is its node, and e is where its entries end
pub record StateAt (l : Line) (p : ℕ) (alts : List ℕ) (n : StateNode) (e : ℕ) (alts' : List ℕ) : Type 0 where
  pub is : State n ≡ node 0 p l
  pub end : e ≡ p + length (alternatives_in l)
  pub alternatives : alts' ≡ put p (alternatives_in l) alts

pub record DistAt (l : Line) (p : ℕ) (ts : List Term) (n : DistNode) (e : ℕ) (ts' : List Term) : Type 0 where
  pub is : Dist n ≡ node p 0 l
  pub end : e ≡ p + length (terms_in l)
  pub terms : ts' ≡ put p (terms_in l) ts

-- the same in both tables: t and a are the places, t' and a' the ends
pub record LaidAt (l : Line) (t a : ℕ) (ts : List Term) (alts : List ℕ) (n : Node) (t' a' : ℕ) (ts' : List Term) (alts' : List ℕ) : Type 0 where
  pub is : n ≡ node t a l
  pub term : t' ≡ t + length (terms_in l)
  pub alternative : a' ≡ a + length (alternatives_in l)
  pub terms : ts' ≡ put t (terms_in l) ts
  pub alternatives : alts' ≡ put a (alternatives_in l) alts
