-- Tables whose nodes are all used, with the layout of their lines at the front.
use Rattle.std.specs.Prelude.{◌≡◌, ℕ, ◌^◌, ◌<◌, ◌≤◌, List, length, take}
use Rattle.formulas.specs.declared.node.Fills.{Fills}
use Rattle.formulas.specs.Lines.{Line, lines, Formula}
use Rattle.formulas.specs.Layout.{node_table, term_table, alternative_table}
use Rattle.formulas.specs.Right.{Formed}
use Rattle.formulas.specs.Tables.{Slots, slots, laid}
use Rattle.simplification.specs.Tables.{blank_node, blank_term, padded}

-- the lines of all the nodes
abbrev pub all_lines : Slots → List Line
all_lines s = lines s.nodes s.terms s.alternatives

-- their formula
abbrev pub whole : ℕ → Slots → Formula
whole root s = record { lines = all_lines s; root = root }

-- the layout of the lines is at the front, and the parts of each line come before it
pub record Packed (s : Slots) : Type 0 where
  pub laid_out : laid (all_lines s) s ≡ s
  pub formed : Formed (all_lines s)
  pub few_nodes : length s.nodes < 2 ^ 32
  pub few_terms : length s.terms < 2 ^ 32
  pub few_alternatives : length s.alternatives < 2 ^ 32

-- the front of the tables, as far as it is used
abbrev pub front_of : Fills → Slots → Slots
front_of f s = slots (take f.nodes s.nodes) (take f.terms s.terms) (take f.alternatives s.alternatives)

-- the tables have a front of these fills that is packed
pub record Ready (f : Fills) (r : ℕ) (s : Slots) : Type 0 where
  pub packed : Packed (front_of f s)
  pub root : r < f.nodes
  pub nodes : f.nodes ≤ length s.nodes
  pub terms : f.terms ≤ length s.terms
  pub alternatives : f.alternatives ≤ length s.alternatives

-- the layout of these lines, then blanks to the end of each table
abbrev pub filled : List Line → Slots → Slots
filled ls s = record {
  nodes = padded (length s.nodes) blank_node (node_table 0 0 ls);
  terms = padded (length s.terms) blank_term (term_table ls);
  alternatives = padded (length s.alternatives) 0 (alternative_table ls);
}
