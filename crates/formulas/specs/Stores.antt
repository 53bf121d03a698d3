-- What the term readers do to the three tables that they fill.
use Rattle.std.specs.Prelude.{◌≡◌, ℕ, ◌+◌, ◌<◌, ◌≤◌, List, length, Result}
use Rattle.arrayvec.specs.ArrayVec.{ArrayVec}
use Rattle.formulas.specs.declared.append.AppendList.{AppendList}
use Rattle.formulas.specs.declared.fault.GrammarFault.{GrammarFault}
use Rattle.formulas.specs.declared.grammar.Reader.{Reader}
use Rattle.formulas.specs.declared.node.Node.{Node}
use Rattle.formulas.specs.declared.node.Fills.{Fills}
use Rattle.formulas.specs.declared.node.Term.{Term}
use Rattle.formulas.specs.Append.{capped, raised, written, Table, upto, table}
use Rattle.formulas.specs.Grammar.{Item, Out}
use Rattle.formulas.specs.Layout.{node_table, term_table, alternative_table}
use Rattle.formulas.specs.Lines.{Sort, state, Line}
use Rattle.formulas.specs.Readers.{Takes}
use Rattle.formulas.specs.Tables.{Slots, slots, SameLoan}
use Rattle.formulas.specs.Trees.{Tree, leaf, conj, neg, dia, here, at_least, Products, none, product, below, below_products, count, terms, lay, lay_products}

pub record Store : Type 0 where
  pub nodes : Table Node
  pub terms : Table Term
  pub alternatives : Table ℕ

abbrev pub store : AppendList Node → AppendList Term → AppendList ℕ → Store
store ns ts alts = record { nodes = table ns; terms = table ts; alternatives = table alts }

-- the tables, filled so far
abbrev pub holding : Fills → Slots → Store
holding f s = record { nodes = upto s.nodes f.nodes; terms = upto s.terms f.terms; alternatives = upto s.alternatives f.alternatives }

-- the tables of a reader
abbrev pub filled : Reader → Store
filled r = holding r.fills (slots r.nodes.now r.terms.now r.alternatives.now)

-- the readers r and v fill the same three tables
abbrev pub SameTables : Reader → Reader → Type 0
SameTables r v = SameLoan r.nodes v.nodes × SameLoan r.terms v.terms × SameLoan r.alternatives v.alternatives

-- the reader r answers x and becomes v, having read what f says, and d bytes at least; V says what that does to the tables
abbrev pub Parses : {A X : Type 0} → ℕ → (ℕ → List Item → Out A) → (Store → Store → A → X → Type 0) → Reader → Result X GrammarFault → Reader → Type 0
Parses d f V r x v = Takes d f (V (filled r) (filled v)) r.words x v.words

-- entries behind those of a table
abbrev pub extended : {X : Type 0} → Table X → List X → Table X
extended t xs = record { slots = written t.slots t.fill xs; fill = raised t.fill (length xs) }

-- lines behind those of the tables
abbrev pub added : Store → List Line → Store
added s ls = record {
  nodes = extended s.nodes (node_table s.terms.fill s.alternatives.fill ls);
  terms = extended s.terms (term_table ls);
  alternatives = extended s.alternatives (alternative_table ls);
}

-- no count has come to its end
pub record Small (s : Store) : Type 0 where
  pub nodes : s.nodes.fill < 4294967295
  pub terms : s.terms.fill < 4294967295
  pub alternatives : s.alternatives.fill < 4294967295

-- the terms of a tree's sums
abbrev mutual
  pub term_count : Tree → ℕ
  term_count (leaf b) = 0
  term_count (conj x y) = term_count x + term_count y
  term_count (neg x) = term_count x
  term_count (dia a d) = term_count d
  term_count (here d) = term_count d
  term_count (at_least ks t) = term_counts ks + count ks

  pub term_counts : Products → ℕ
  term_counts none = 0
  term_counts (product c s ks) = term_count s + term_counts ks

-- the alternatives of a tree's steps
abbrev mutual
  pub step_count : Tree → ℕ
  step_count (leaf b) = 0
  step_count (conj x y) = step_count x + step_count y
  step_count (neg x) = step_count x
  step_count (dia a d) = step_count d + 1
  step_count (here d) = step_count d + 1
  step_count (at_least ks t) = step_counts ks

  pub step_counts : Products → ℕ
  step_counts none = 0
  step_counts (product c s ks) = step_count s + step_counts ks

-- so many nodes, terms and alternatives more
pub record Counted (s : Store) (n t a : ℕ) (after : Store) : Type 0 where
  pub nodes : capped after.nodes.fill ≡ raised s.nodes.fill n
  pub terms : capped after.terms.fill ≡ raised s.terms.fill t
  pub alternatives : capped after.alternatives.fill ≡ raised s.alternatives.fill a

-- the tree x of a sort is written behind what is there, its own node as number n
pub record Wrote (σ : Sort) (s after : Store) (x : Tree) (n : ℕ) : Type 0 where
  pub counted : Counted s (below x + 1) (term_count x) (step_count x) after
  pub number : Small after → n ≡ s.nodes.fill + below x
  pub laid : Small after → after ≡ added s (lay σ s.nodes.fill x)

-- the product k is written, but for its term x
pub record Factored (left : ℕ) (s after : Store) (k : ℕ × Tree) (x : Term) : Type 0 where
  pub coefficient : x.coefficient ≡ k.0
  pub low : k.0 ≤ left
  pub wrote : Wrote state s after k.1 x.node

-- the products are written, but for their terms, which xs has
pub record Summed (s after : Store) (ks : Products) (xs : ArrayVec Term) : Type 0 where
  pub counted : Counted s (below_products ks) (term_counts ks) (step_counts ks) after
  pub many : length xs.items ≡ count ks
  pub few : length xs.items ≤ 8
  pub found : Small after → xs.items ≡ terms s.nodes.fill ks
  pub laid : Small after → after ≡ added s (lay_products s.nodes.fill ks)
