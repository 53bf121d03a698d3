-- A formula as lines: one for each node, with the entries of its runs written out.
use Rattle.std.specs.Prelude.{ℕ, Bool, true, false, List, map, take, drop}
use Rattle.formulas.specs.declared.node.Node.{Node}
use Rattle.formulas.specs.declared.node.Node.TheVariants.{State, Dist}
use Rattle.formulas.specs.declared.node.StateNode.{StateNode}
use Rattle.formulas.specs.declared.node.StateNode as sn
use Rattle.formulas.specs.declared.node.DistNode.{DistNode}
use Rattle.formulas.specs.declared.node.DistNode as dn
use Rattle.formulas.specs.declared.node.Run.{Run}
use Rattle.formulas.specs.declared.node.Term.{Term}

-- what a node speaks of: states; or moves and points, which are distributions over states
pub data Sort : Type 0 where
  state dist : Sort

abbrev pub is_state : Sort → Bool
is_state state = true
is_state dist = false

abbrev pub is_dist : Sort → Bool
is_dist state = false
is_dist dist = true

pub data Line : Type 0 where
  -- yes or no
  constant : Sort → Bool → Line
  both : Sort → ℕ → ℕ → Line
  non : Sort → ℕ → Line
  -- an action, its move alternatives and its here alternatives
  step : ℕ → List ℕ → List ℕ → Line
  -- a threshold and the terms
  sum : ℕ → List Term → Line

abbrev pub sort : Line → Sort
sort (constant σ b) = σ
sort (both σ i j) = σ
sort (non σ i) = σ
sort (step a ms hs) = state
sort (sum t ks) = dist

pub record Formula : Type 0 where
  pub lines : List Line
  pub root : ℕ

-- the n entries from the place p on
abbrev pub part : {X : Type 0} → List X → ℕ → ℕ → List X
part xs p n = take n (drop p xs)

-- the entries of a run
abbrev pub entries : {X : Type 0} → List X → Run → List X
entries xs r = part xs r.first r.count

abbrev pub state_line : List ℕ → StateNode → Line
state_line alts sn.TheVariants.Yes = constant state true
state_line alts sn.TheVariants.No = constant state false
state_line alts (sn.TheVariants.And i j) = both state i j
state_line alts (sn.TheVariants.Not i) = non state i
state_line alts (sn.TheVariants.Step a ms hs) = step a (entries alts ms) (entries alts hs)

abbrev pub dist_line : List Term → DistNode → Line
dist_line ts dn.TheVariants.Yes = constant dist true
dist_line ts dn.TheVariants.No = constant dist false
dist_line ts (dn.TheVariants.And i j) = both dist i j
dist_line ts (dn.TheVariants.Not i) = non dist i
dist_line ts (dn.TheVariants.Sum t r) = sum t (entries ts r)

abbrev pub line : List Term → List ℕ → Node → Line
line ts alts (State x) = state_line alts x
line ts alts (Dist x) = dist_line ts x

-- the lines of the nodes ns, over their terms and alternatives
abbrev pub lines : List Node → List Term → List ℕ → List Line
lines ns ts alts = map (line ts alts) ns
