-- What the three tables of a formula hold: the formula at their fronts, anything behind it.
use Rattle.std.specs.Prelude.{◌≡◌, ℕ, ◌≤◌, Bool, ◌&&◌, List, ◌++◌, length, take, drop, nat_le}
use Rattle.std.specs.Borrow.{MutBor}
use Rattle.formulas.specs.declared.node.Fills.{Fills}
use Rattle.formulas.specs.declared.node.Node.{Node}
use Rattle.formulas.specs.declared.node.Term.{Term}
use Rattle.formulas.specs.declared.tables.Standing.{Standing}
use Rattle.formulas.specs.declared.tables.Tables.{Tables}
use Rattle.formulas.specs.declared.tables.TablesMut.{TablesMut}
use Rattle.formulas.specs.Layout.{node_table, term_table, alternative_table, fills}
use Rattle.formulas.specs.Lines.{Line, lines, Formula}
use Rattle.formulas.specs.Stands.{formula_in}

-- the entries of the three tables
pub record Slots : Type 0 where
  pub nodes : List Node
  pub terms : List Term
  pub alternatives : List ℕ

abbrev pub slots : List Node → List Term → List ℕ → Slots
slots ns ts alts = record { nodes = ns; terms = ts; alternatives = alts }

-- the entries of lent tables
abbrev pub contents : Tables → Slots
contents t = slots t.nodes.now t.terms.now t.alternatives.now

abbrev pub held : TablesMut → Slots
held t = slots t.nodes.now t.terms.now t.alternatives.now

-- v is the loan u of a table, and the table is as long as before
abbrev pub SameLoan : {X : Type 0} → MutBor (List X) → MutBor (List X) → Type 0
SameLoan u v = (v.ghost_name ≡ u.ghost_name) × (length v.now ≡ length u.now)

-- t and u are loans of the same three tables
abbrev pub SameLoans : TablesMut → TablesMut → Type 0
SameLoans t u = SameLoan t.nodes u.nodes × SameLoan t.terms u.terms × SameLoan t.alternatives u.alternatives

-- a table takes what is needed of it: no more than it has, and no more than any may use
abbrev pub takes : ℕ → ℕ → Bool
takes size need = nat_le need size && nat_le need 1048576

-- no table is used past what any may use
abbrev pub Few : Fills → Type 0
Few f = (f.nodes ≤ 1048576) × (f.terms ≤ 1048576) × (f.alternatives ≤ 1048576)

abbrev pub fits : Fills → Slots → Bool
fits f s =
    takes (length s.nodes) f.nodes
    && (takes (length s.terms) f.terms && takes (length s.alternatives) f.alternatives)

-- entries over the front of a table
abbrev pub over : {X : Type 0} → List X → List X → List X
over xs old = xs ++ drop (length xs) old

-- the tables with the lines laid out at their front
abbrev pub laid : List Line → Slots → Slots
laid ls s = record {
  nodes = over (node_table 0 0 ls) s.nodes;
  terms = over (term_table ls) s.terms;
  alternatives = over (alternative_table ls) s.alternatives;
}

-- they hold a formula of these fills and this root, mass m having been removed
abbrev pub stands_in : Fills → ℕ → ℕ → Slots → Bool
stands_in f root m s = formula_in f root m s.nodes s.terms s.alternatives

-- its lines: only the front of each table is used
abbrev pub lines_in : Fills → Slots → List Line
lines_in f s = lines (take f.nodes s.nodes) (take f.terms s.terms) (take f.alternatives s.alternatives)

-- the formula itself
abbrev pub formula_at : Fills → ℕ → Slots → Formula
formula_at f root s = record { lines = lines_in f s; root = root }

-- where a formula stands once it is laid out
abbrev pub standing : Formula → Standing
standing F = record { fills = fills F.lines; root = F.root }

-- u is what is used of the tables t: the front of each
pub record Front (f : Fills) (t u : Tables) : Type 0 where
  pub nodes : u.nodes.now ≡ take f.nodes t.nodes.now
  pub terms : u.terms.now ≡ take f.terms t.terms.now
  pub alternatives : u.alternatives.now ≡ take f.alternatives t.alternatives.now
