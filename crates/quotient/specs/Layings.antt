-- Tables as they fill, entry by entry and line by line.
use Rattle.std.specs.Prelude.{◌≡◌, ◌-◌, List, fold, slice_set}
use Rattle.std.specs.Borrow.{MutBor}
use Rattle.formulas.specs.declared.append.AppendList.{AppendList}
use Rattle.formulas.specs.declared.node.Node.{Node}
use Rattle.formulas.specs.declared.node.Node.TheVariants.{State, Dist}
use Rattle.formulas.specs.declared.node.StateNode.TheVariants.{Step}
use Rattle.formulas.specs.declared.node.DistNode.TheVariants.{Sum}
use Rattle.formulas.specs.declared.node.Run.{Run}
use Rattle.formulas.specs.Append.{Table, raised}
use Rattle.formulas.specs.Layout.{run, terms_in, alternatives_in, constant_node, both_node, non_node}
use Rattle.formulas.specs.Lines.{Line, constant, both, non, step, sum}
use Rattle.formulas.specs.Stores.{Store, store}
use Rattle.quotient.specs.declared.write.Lists.{Lists}

-- one entry more; what passes the end is counted and not written
abbrev pub appended : {X : Type 0} → Table X → X → Table X
appended t x = record { slots = slice_set t.slots t.fill x; fill = raised t.fill 1 }

abbrev pub extended : {X : Type 0} → Table X → List X → Table X
extended t xs = fold appended t xs

-- what three lists hold
abbrev pub filled : Lists → Store
filled l = store l.nodes.now l.terms.now l.alternatives.now

-- l and m are lists over the same table
abbrev pub SameSlots : {X : Type 0} → AppendList X → AppendList X → Type 0
SameSlots l m = m.slots.ghost_name ≡ l.slots.ghost_name

-- loans of one list, which stays over its table
abbrev pub SameTable : {X : Type 0} → MutBor (AppendList X) → MutBor (AppendList X) → Type 0
SameTable l m = (m.ghost_name ≡ l.ghost_name) × SameSlots l.now m.now

abbrev pub SameTables : Lists → Lists → Type 0
SameTables l m = SameTable l.nodes m.nodes × SameTable l.terms m.terms × SameTable l.alternatives m.alternatives

-- the run of what a table has more than before
abbrev pub run_between : {X : Type 0} → Table X → Table X → Run
run_between before after = run before.fill (after.fill - before.fill)

-- the node of the next line
abbrev pub next_node : Store → Line → Node
next_node s (constant σ b) = constant_node σ b
next_node s (both σ i j) = both_node σ i j
next_node s (non σ i) = non_node σ i
next_node s (step a ms hs) =
    let first = s.alternatives in
    let middle = extended first ms in
    State (Step a (run_between first middle) (run_between middle (extended middle hs)))
next_node s (sum t ks) = Dist (Sum t (run_between s.terms (extended s.terms ks)))

-- one line more
abbrev pub lay : Store → Line → Store
lay s l = record {
  nodes = appended s.nodes (next_node s l);
  terms = extended s.terms (terms_in l);
  alternatives = extended s.alternatives (alternatives_in l);
}

abbrev pub lay_all : Store → List Line → Store
lay_all s ls = fold lay s ls
