-- The tables of a formula: its runs follow one another in the order of the nodes, without gaps.
use Rattle.std.specs.Prelude.{ℕ, ◌+◌, Bool, true, false, List, [], ◌∷◌, ◌++◌, length}
use Rattle.formulas.specs.declared.node.Node.{Node}
use Rattle.formulas.specs.declared.node.Node.TheVariants.{State, Dist}
use Rattle.formulas.specs.declared.node.StateNode as sn
use Rattle.formulas.specs.declared.node.DistNode as dn
use Rattle.formulas.specs.declared.node.Run.{Run}
use Rattle.formulas.specs.declared.node.Term.{Term}
use Rattle.formulas.specs.declared.node.Fills.{Fills}
use Rattle.formulas.specs.Lines.{Sort, state, dist, Line, constant, both, non, step, sum}

abbrev pub run : ℕ → ℕ → Run
run first count = record { first = first; count = count }

-- the terms of a line
abbrev pub terms_in : Line → List Term
terms_in (constant σ b) = []
terms_in (both σ i j) = []
terms_in (non σ i) = []
terms_in (step a ms hs) = []
terms_in (sum t ks) = ks

-- the alternatives of a line: those for moves, then those for here
abbrev pub alternatives_in : Line → List ℕ
alternatives_in (constant σ b) = []
alternatives_in (both σ i j) = []
alternatives_in (non σ i) = []
alternatives_in (step a ms hs) = ms ++ hs
alternatives_in (sum t ks) = []

abbrev pub constant_node : Sort → Bool → Node
constant_node state true = State sn.TheVariants.Yes
constant_node state false = State sn.TheVariants.No
constant_node dist true = Dist dn.TheVariants.Yes
constant_node dist false = Dist dn.TheVariants.No

abbrev pub both_node : Sort → ℕ → ℕ → Node
both_node state i j = State (sn.TheVariants.And i j)
both_node dist i j = Dist (dn.TheVariants.And i j)

abbrev pub non_node : Sort → ℕ → Node
non_node state i = State (sn.TheVariants.Not i)
non_node dist i = Dist (dn.TheVariants.Not i)

-- the node of a line whose terms begin at the place t and whose alternatives begin at the place a
abbrev pub node : ℕ → ℕ → Line → Node
node t a (constant σ b) = constant_node σ b
node t a (both σ i j) = both_node σ i j
node t a (non σ i) = non_node σ i
node t a (step x ms hs) = State (sn.TheVariants.Step x (run a (length ms)) (run (a + length ms) (length hs)))
node t a (sum x ks) = Dist (dn.TheVariants.Sum x (run t (length ks)))

-- the three tables of lines, after t terms and a alternatives of earlier lines
abbrev pub node_table : ℕ → ℕ → List Line → List Node
node_table t a [] = []
node_table t a (l ∷ ls) = node t a l ∷ node_table (t + length (terms_in l)) (a + length (alternatives_in l)) ls

abbrev pub term_table : List Line → List Term
term_table [] = []
term_table (l ∷ ls) = terms_in l ++ term_table ls

abbrev pub alternative_table : List Line → List ℕ
alternative_table [] = []
alternative_table (l ∷ ls) = alternatives_in l ++ alternative_table ls

abbrev pub fills : List Line → Fills
fills ls = record {
  nodes = length ls;
  terms = length (term_table ls);
  alternatives = length (alternative_table ls);
}
