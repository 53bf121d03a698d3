-- Where the lines of a quotient go, and how many entries they take.
use Rattle.std.specs.Prelude.{◌≡◌, ℕ, ◌+◌, ◌*◌, ◌/◌, ◌%◌, ◌<◌, ◌≤◌, min, Bool, cond, List, length, take, sum_by, slice_index, slice_index_or}
use Rattle.std.specs.List.{range_with_len, AllByRecursion}
use Rattle.systems.specs.declared.system.Target.{Target}
use Rattle.systems.specs.Actions.{has}
use Rattle.systems.specs.Meaning.{Meaning, Move}
use Rattle.systems.specs.Piles.{cross}
use Rattle.formulas.specs.declared.node.Node.{Node}
use Rattle.formulas.specs.declared.node.Node.TheVariants.{State, Dist}
use Rattle.formulas.specs.declared.node.StateNode.{StateNode}
use Rattle.formulas.specs.declared.node.StateNode as sn
use Rattle.formulas.specs.declared.node.DistNode.{DistNode}
use Rattle.formulas.specs.declared.node.DistNode as dn
use Rattle.formulas.specs.declared.node.Term.{Term}
use Rattle.formulas.specs.Lines.{Line, sum, line, lines, entries}
use Rattle.formulas.specs.Right.{Right}
use Rattle.quotient.specs.declared.plan.Plan.{Plan}
use Rattle.quotient.specs.declared.write.Step.{Step}
use Rattle.quotient.specs.declared.write.Sum.{Sum}
use Rattle.quotient.specs.Quotient.{rows, first_row, new_line, new_lines, quotient_lines}

-- a number that a state or row may have, or that counts them
abbrev pub Numbered : ℕ → Type 0
Numbered p = p ≤ 1073741824

-- how many lines a node gives, where there are n states and r rows
abbrev pub node_width : ℕ → ℕ → Node → ℕ
node_width n r (State x) = n
node_width n r (Dist x) = r

-- how many lines the first i nodes give
abbrev pub width_before : ℕ → ℕ → List Node → ℕ → ℕ
width_before n r ns i = sum_by (node_width n r) (take i ns)

-- that number is known for every 32nd node before node i
abbrev pub Sampled : ℕ → ℕ → List Node → List ℕ → ℕ → Type 0
Sampled n r ns offsets i = (k : ℕ) → k * 32 < i → slice_index offsets k ≡ width_before n r ns (k * 32)

-- the first row is known for the first n pairs of a state and an action
abbrev pub Firsts : Meaning → List ℕ → ℕ → Type 0
Firsts R firsts n = (i : ℕ) → i < n → slice_index firsts i ≡ first_row R (i / 32) (i % 32)

abbrev pub plan_nodes : Plan → List Node
plan_nodes x = x.tables.nodes.now

abbrev pub plan_lines : Plan → List Line
plan_lines x = lines x.tables.nodes.now x.tables.terms.now x.tables.alternatives.now

-- the number of the line that node d gives at the state or row p
abbrev pub place_in : Plan → ℕ → ℕ → ℕ
place_in x d p = width_before x.states x.rows (plan_nodes x) d + p

-- the samples are right, and the lines are not too many
pub record Sampling (x : Plan) : Type 0 where
  pub sampled : Sampled x.states x.rows (plan_nodes x) x.offsets.now (length (plan_nodes x))
  pub blocks : length (plan_nodes x) ≤ length x.offsets.now * 32
  pub few : width_before x.states x.rows (plan_nodes x) (length (plan_nodes x)) ≤ 1048576

-- the plan is one for the system R
pub record Planned (R : Meaning) (x : Plan) : Type 0 where
  pub states : x.states ≡ R.states
  pub rows : x.rows ≡ length (rows R)
  pub mass : x.mass ≡ R.mass
  pub few : R.states ≤ 4096
  pub narrow : R.breadth ≤ 4096
  pub few_rows : x.rows ≤ 1073741824
  pub sampling : Sampling x
  pub firsts : Firsts R x.firsts.now (R.states * 32)
  pub long : R.states * 32 ≤ length x.firsts.now

-- the node stands rightly in the tables, and the masses are not too heavy for its numbers
pub record Fit (x : Plan) (n : Node) : Type 0 where
  pub index : ℕ
  pub removed : ℕ
  pub inside : index < length (plan_nodes x)
  pub light : removed * x.mass ≤ 1000000000000000
  pub right : Right x.tables.terms.now x.tables.alternatives.now removed index n

-- every node does
abbrev pub AllFit : Plan → Type 0
AllFit x = (i : ℕ) (d : Node) → i < length (plan_nodes x) → Fit x (slice_index_or (plan_nodes x) i d)

-- the parts ds are in the plan
abbrev pub AllInside : Plan → List ℕ → Type 0
AllInside x ds = AllByRecursion (λ d. d < length (plan_nodes x)) ds

-- a step, and a sum, as nodes
abbrev pub step_node : Step → Node
step_node s = State (sn.TheVariants.Step s.action s.moves s.heres)

abbrev pub sum_node : Sum → Node
sum_node s = Dist (dn.TheVariants.Sum s.threshold s.terms)

-- a term whose node is in the plan, and whose coefficient times the mass is small
pub record LightTerm (x : Plan) (k : Term) : Type 0 where
  pub inside : k.node < length (plan_nodes x)
  pub light : k.coefficient * x.mass ≤ 1000000000000000000

-- a target as a system has them
pub record LightTarget (x : Plan) (t : Target) : Type 0 where
  pub near : t.state < 4096
  pub light : t.weight ≤ x.mass

-- a node with its parts renumbered
abbrev pub moved : (ℕ → ℕ) → Node → Node
moved f (State sn.TheVariants.Yes) = State sn.TheVariants.Yes
moved f (State sn.TheVariants.No) = State sn.TheVariants.No
moved f (State (sn.TheVariants.And i j)) = State (sn.TheVariants.And (f i) (f j))
moved f (State (sn.TheVariants.Not i)) = State (sn.TheVariants.Not (f i))
moved f (State (sn.TheVariants.Step a ms hs)) = State (sn.TheVariants.Step a ms hs)
moved f (Dist dn.TheVariants.Yes) = Dist dn.TheVariants.Yes
moved f (Dist dn.TheVariants.No) = Dist dn.TheVariants.No
moved f (Dist (dn.TheVariants.And i j)) = Dist (dn.TheVariants.And (f i) (f j))
moved f (Dist (dn.TheVariants.Not i)) = Dist (dn.TheVariants.Not (f i))
moved f (Dist (dn.TheVariants.Sum t ks)) = Dist (dn.TheVariants.Sum t ks)

-- neither a step nor a sum, and the parts are among n nodes
abbrev pub Plain : ℕ → Node → Type 0
Plain n (State sn.TheVariants.Yes) = Unit {0}
Plain n (State sn.TheVariants.No) = Unit {0}
Plain n (State (sn.TheVariants.And i j)) = (i < n) × (j < n)
Plain n (State (sn.TheVariants.Not i)) = i < n
Plain n (State (sn.TheVariants.Step a ms hs)) = ⊥
Plain n (Dist dn.TheVariants.Yes) = Unit {0}
Plain n (Dist dn.TheVariants.No) = Unit {0}
Plain n (Dist (dn.TheVariants.And i j)) = (i < n) × (j < n)
Plain n (Dist (dn.TheVariants.Not i)) = i < n
Plain n (Dist (dn.TheVariants.Sum t ks)) = ⊥

-- the lines of the quotient
abbrev pub plan_quotient : Meaning → Plan → List Line
plan_quotient R x = quotient_lines (has x.shared) R (plan_lines x)

-- what a node gives at the state or row p, and at all of them
abbrev pub node_line : Meaning → Plan → Node → ℕ → Line
node_line R x n p = new_line (has x.shared) R (plan_lines x) (line x.tables.terms.now x.tables.alternatives.now n) p

abbrev pub node_lines : Meaning → Plan → Node → List Line
node_lines R x n = new_lines (has x.shared) R (plan_lines x) (line x.tables.terms.now x.tables.alternatives.now n)

-- what a term gives at a target, and a sum at a move or point
abbrev pub term_at : Plan → Term → Target → Term
term_at x k t = record { coefficient = k.coefficient * t.weight; node = place_in x k.node t.state }

abbrev pub sum_at : Plan → Sum → Move → Line
sum_at x s mv = sum (s.threshold * x.mass) (cross (term_at x) (entries x.tables.terms.now s.terms) mv)

-- a count, which stops at 2^64 - 1
abbrev pub topped : ℕ → ℕ
topped n = min n 18446744073709551615

-- how many targets the rows have
abbrev pub targets_on : Meaning → ℕ → ℕ → ℕ
targets_on R p a = sum_by length (R.moves p a)

abbrev pub targets_from : Meaning → ℕ → ℕ
targets_from R p = sum_by (targets_on R p) (range_with_len 0 32)

abbrev pub all_targets : Meaning → ℕ
all_targets R = R.states + sum_by (targets_from R) (range_with_len 0 R.states)

-- how many alternatives a step with m move alternatives and h here alternatives gives in a state that has k moves
abbrev pub step_need : Bool → ℕ → ℕ → ℕ → ℕ
step_need shared m h k = cond shared (m * k + h) (m + (m * k + h))

abbrev pub steps_need : Meaning → Bool → ℕ → ℕ → ℕ → ℕ
steps_need R shared a m h = sum_by (λ p. step_need shared m h (length (R.moves p a))) (range_with_len 0 R.states)

-- how many alternatives a node gives
abbrev pub alternative_need : (ℕ → Bool) → Meaning → Node → ℕ
alternative_need A R (Dist x) = 0
alternative_need A R (State sn.TheVariants.Yes) = 0
alternative_need A R (State sn.TheVariants.No) = 0
alternative_need A R (State (sn.TheVariants.And i j)) = 0
alternative_need A R (State (sn.TheVariants.Not i)) = 0
alternative_need A R (State (sn.TheVariants.Step a ms hs)) = steps_need R (A a) a ms.count hs.count
