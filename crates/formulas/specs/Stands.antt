-- When tables hold a formula.
use Rattle.std.specs.Prelude.{ℕ, ◌+◌, ◌-◌, ◌*◌, Bool, true, false, not, ◌&&◌, List, [], ◌∷◌, length, take, ◌==◌, nat_le, nat_lt, slice_index_or}
use Rattle.std.specs.List.{list_all}
use Rattle.formulas.specs.declared.node.Node.{Node}
use Rattle.formulas.specs.declared.node.Node.TheVariants.{State, Dist}
use Rattle.formulas.specs.declared.node.StateNode.{StateNode}
use Rattle.formulas.specs.declared.node.StateNode as sn
use Rattle.formulas.specs.declared.node.DistNode.{DistNode}
use Rattle.formulas.specs.declared.node.DistNode as dn
use Rattle.formulas.specs.declared.node.Run.{Run}
use Rattle.formulas.specs.declared.node.Term.{Term}
use Rattle.formulas.specs.declared.node.Fills.{Fills}
use Rattle.formulas.specs.Lines.{part}

abbrev pub state_sort : Node → Bool
state_sort (State _) = true
state_sort (Dist _) = false

abbrev pub no_dist : Node
no_dist = Dist dn.TheVariants.No

abbrev pub no_state : Node
no_state = State sn.TheVariants.No

-- node i is there, and is of the state sort
abbrev pub is_state_node : List Node → ℕ → Bool
is_state_node ns i = state_sort (slice_index_or ns i no_dist)

-- node i is there, and is of the distribution sort
abbrev pub is_dist_node : List Node → ℕ → Bool
is_dist_node ns i = not (state_sort (slice_index_or ns i no_state))

-- node j comes before node i, and is of the state sort; of the distribution sort
abbrev pub below_state : List Node → ℕ → ℕ → Bool
below_state ns i j = nat_lt j i && is_state_node ns j

abbrev pub below_dist : List Node → ℕ → ℕ → Bool
below_dist ns i j = nat_lt j i && is_dist_node ns j

-- a run starts at the place p, and ends within the table
abbrev pub run_ok : ℕ → ℕ → Run → Bool
run_ok len p r = r.first == p && nat_le (p + r.count) len

abbrev pub all_dist : List Node → ℕ → List ℕ → Bool
all_dist ns i ds = list_all (below_dist ns i) ds

abbrev pub term_ok : List Node → ℕ → ℕ → Term → Bool
term_ok ns i left t = nat_le 1 t.coefficient && (nat_le t.coefficient left && below_state ns i t.node)

-- each term is right, and the coefficients add up to at most left
abbrev pub terms_ok : List Node → ℕ → ℕ → List Term → Bool
terms_ok ns i left [] = true
terms_ok ns i left (t ∷ ts) = term_ok ns i left t && terms_ok ns i (left - t.coefficient) ts

abbrev pub step_ok : List Node → List ℕ → ℕ → ℕ → Run → Run → Bool
step_ok ns alts i a mv h = run_ok (length alts) a mv && (run_ok (length alts) (a + mv.count) h && all_dist ns i (part alts a (mv.count + h.count)))

abbrev pub sum_ok : List Node → List Term → ℕ → ℕ → ℕ → Run → Bool
sum_ok ns ts m i t r = run_ok (length ts) t r && terms_ok ns i (1000 * m) (part ts t r.count)

abbrev pub state_ok : List Node → List ℕ → ℕ → ℕ → StateNode → Bool
state_ok ns alts i a sn.TheVariants.Yes = true
state_ok ns alts i a sn.TheVariants.No = true
state_ok ns alts i a (sn.TheVariants.And j k) = below_state ns i j && below_state ns i k
state_ok ns alts i a (sn.TheVariants.Not j) = below_state ns i j
state_ok ns alts i a (sn.TheVariants.Step act mv h) =
    nat_le act 31 && step_ok ns alts i a mv h

abbrev pub dist_ok : List Node → List Term → ℕ → ℕ → ℕ → DistNode → Bool
dist_ok ns ts m i t dn.TheVariants.Yes = true
dist_ok ns ts m i t dn.TheVariants.No = true
dist_ok ns ts m i t (dn.TheVariants.And j k) = below_dist ns i j && below_dist ns i k
dist_ok ns ts m i t (dn.TheVariants.Not j) = below_dist ns i j
dist_ok ns ts m i t (dn.TheVariants.Sum least r) =
    nat_le least (1000 * m) && sum_ok ns ts m i t r

abbrev pub node_ok : List Node → List Term → List ℕ → ℕ → ℕ → ℕ → ℕ → Node → Bool
node_ok ns ts alts m i t a (State x) = state_ok ns alts i a x
node_ok ns ts alts m i t a (Dist x) = dist_ok ns ts m i t x

-- how many terms and alternatives a node has
abbrev pub terms_of : Node → ℕ
terms_of (State x) = 0
terms_of (Dist dn.TheVariants.Yes) = 0
terms_of (Dist dn.TheVariants.No) = 0
terms_of (Dist (dn.TheVariants.And j k)) = 0
terms_of (Dist (dn.TheVariants.Not j)) = 0
terms_of (Dist (dn.TheVariants.Sum least r)) = r.count

abbrev pub alternatives_of : Node → ℕ
alternatives_of (Dist x) = 0
alternatives_of (State sn.TheVariants.Yes) = 0
alternatives_of (State sn.TheVariants.No) = 0
alternatives_of (State (sn.TheVariants.And j k)) = 0
alternatives_of (State (sn.TheVariants.Not j)) = 0
alternatives_of (State (sn.TheVariants.Step act mv h)) = mv.count + h.count

-- the nodes from number i on, with t terms and a alternatives used by those before
abbrev pub walk : List Node → List Term → List ℕ → ℕ → ℕ → ℕ → ℕ → List Node → Bool
walk ns ts alts m i t a [] = t == length ts && a == length alts
walk ns ts alts m i t a (n ∷ rest) = node_ok ns ts alts m i t a n && walk ns ts alts m (i + 1) (t + terms_of n) (a + alternatives_of n) rest

-- the three lists are the tables of a formula, mass m having been removed
abbrev pub stands : List Node → List Term → List ℕ → ℕ → ℕ → Bool
stands ns ts alts root m = walk ns ts alts m 0 0 0 ns && is_state_node ns root

-- no table is shorter than what is used of it, and what is used holds a formula
abbrev pub formula_in : Fills → ℕ → ℕ → List Node → List Term → List ℕ → Bool
formula_in f root m ns ts alts =
    (nat_le f.nodes (length ns) && (nat_le f.terms (length ts) && nat_le f.alternatives (length alts)))
    && stands (take f.nodes ns) (take f.terms ts) (take f.alternatives alts) root m
