-- A row: for each node, whether it holds of one move or point, or a mark that this is wanted.
use Rattle.std.specs.Prelude.{◌≡◌, ℕ, ◌<◌, ◌≤◌, min, Bool, List, [], ◌∷◌, length, set, fold, ◌==◌, slice_index, slice_index_or}
use Rattle.std.specs.List.{AllByRecursion}
use Rattle.systems.specs.Meaning.{Meaning, Move}
use Rattle.formulas.specs.declared.node.Node.{Node}
use Rattle.formulas.specs.declared.node.Node.TheVariants.{State, Dist}
use Rattle.formulas.specs.declared.node.StateNode as sn
use Rattle.formulas.specs.declared.node.DistNode as dn
use Rattle.formulas.specs.declared.node.Term.{Term}
use Rattle.formulas.specs.Truths.{Truth, of_node}
use Rattle.claims.specs.Sums.{ReadySum}
use Rattle.claims.specs.Verdicts.{byte}

abbrev pub lit_row : List ℕ → ℕ → Bool
lit_row row i = slice_index row i == 1

abbrev pub Mark : List ℕ → ℕ → Type 0
Mark row i = slice_index row i ≡ 2

-- the row with these marked too
abbrev pub marked : List ℕ → List ℕ → List ℕ
marked row ks = fold (λ r k. set r k 2) row ks

abbrev pub lowest : ℕ → List ℕ → ℕ
lowest low ks = fold min low ks

-- the nodes that an and or a not of the distribution sort is made of
abbrev pub parts : Node → List ℕ
parts (State x) = []
parts (Dist dn.TheVariants.Yes) = []
parts (Dist dn.TheVariants.No) = []
parts (Dist (dn.TheVariants.And i j)) = i ∷ j ∷ []
parts (Dist (dn.TheVariants.Not i)) = i ∷ []
parts (Dist (dn.TheVariants.Sum t r)) = []

-- what is read past the end of a table of nodes
abbrev pub no_node : Node
no_node = State sn.TheVariants.Yes

abbrev pub Parted : List Node → Type 0
Parted ns = (k : ℕ) → k < length ns → AllByRecursion (λ p. p < k) (parts (slice_index_or ns k no_node))

-- from the place j on, marked nodes have their parts marked; all new marks are from low to high
pub record Spread (ns : List Node) (j start low high : ℕ) (old row : List ℕ) : Type 0 where
  pub lower : low ≤ start
  pub stays : (k : ℕ) → Mark old k → Mark row k
  pub closed : (k : ℕ) → j ≤ k → k < high → Mark row k → AllByRecursion (Mark row) (parts (slice_index_or ns k no_node))
  pub below : (k : ℕ) → k < low → slice_index row k ≡ slice_index old k
  pub above : (k : ℕ) → high ≤ k → slice_index row k ≡ slice_index old k

-- the marks in a row that was clear below upto: they are from low to high, and are the nodes wanted and what those are made of
pub record Reached (ns : List Node) (wanted : List ℕ) (upto low high : ℕ) (old row : List ℕ) : Type 0 where
  pub ordered : low ≤ high
  pub top : high ≤ upto
  pub named : AllByRecursion (λ d. (d < high) × Mark row d) wanted
  pub closed : (k : ℕ) → k < high → Mark row k → AllByRecursion (Mark row) (parts (slice_index_or ns k no_node))
  pub bare : (k : ℕ) → k < low → Mark row k → ⊥
  pub below : (k : ℕ) → k < low → slice_index row k ≡ slice_index old k
  pub above : (k : ℕ) → high ≤ k → slice_index row k ≡ slice_index old k

-- what it takes to evaluate a node of the distribution sort with a truth table of that size and a row of that length
abbrev pub Ready : Meaning → ℕ → ℕ → List Term → Node → Type 0
Ready M size len ts (State x) = Unit {0}
Ready M size len ts (Dist dn.TheVariants.Yes) = Unit {0}
Ready M size len ts (Dist dn.TheVariants.No) = Unit {0}
Ready M size len ts (Dist (dn.TheVariants.And i j)) = (i < len) × (j < len)
Ready M size len ts (Dist (dn.TheVariants.Not i)) = i < len
Ready M size len ts (Dist (dn.TheVariants.Sum t r)) = ReadySum M size ts t r

-- the marks below j have become the truths of the move; only they have changed
pub record Filling (T : List Truth) (mv : Move) (low j : ℕ) (old row : List ℕ) : Type 0 where
  pub told : (k : ℕ) → k < j → Mark old k → slice_index row k ≡ byte (of_node T k mv)
  pub below : (k : ℕ) → k < low → slice_index row k ≡ slice_index old k
  pub above : (k : ℕ) → j ≤ k → slice_index row k ≡ slice_index old k

-- a row with room for upto nodes, and no mark or truth of theirs
pub record Blank (upto : ℕ) (row : List ℕ) : Type 0 where
  pub long : upto ≤ length row
  pub zeros : (k : ℕ) → k < upto → slice_index row k ≡ 0
