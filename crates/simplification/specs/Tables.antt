-- What simplifying a formula in its own tables answers, and what it leaves there.
use Rattle.std.specs.Prelude.{ℕ, ◌-◌, cond, not, List, [], ◌++◌, length, drop, replicate, Ok, Err, Result, nat_lt}
use Rattle.formulas.specs.declared.node.Node.{Node}
use Rattle.formulas.specs.declared.node.Node.TheVariants.{State}
use Rattle.formulas.specs.declared.node.StateNode as sn
use Rattle.formulas.specs.declared.node.Term.{Term}
use Rattle.formulas.specs.declared.node.Fills.{Fills}
use Rattle.formulas.specs.declared.refusal.Refusal.{Refusal}
use Rattle.formulas.specs.declared.refusal.Refusal.TheVariants.{NoFormula, Short}
use Rattle.formulas.specs.declared.tables.Standing.{Standing}
use Rattle.formulas.specs.Lines.{Formula}
use Rattle.formulas.specs.Layout.{node_table, term_table, alternative_table}
use Rattle.formulas.specs.Tables.{Slots, stands_in, formula_at, standing}
use Rattle.simplification.specs.Simplify.{simplify}
use Rattle.simplification.specs.Laws.{Settles, Fewer}

-- the three tables of the formula, and the map table
pub record Desk : Type 0 where
  pub tables : Slots
  pub map : List ℕ

abbrev pub desk : Slots → List ℕ → Desk
desk s map = record { tables = s; map = map }

abbrev pub blank_node : Node
blank_node = State sn.TheVariants.Yes

abbrev pub blank_term : Term
blank_term = record { coefficient = 0; node = 0 }

-- these entries, then blanks for the rest of n entries
abbrev pub padded : {X : Type 0} → ℕ → X → List X → List X
padded n blank new = new ++ replicate (n - length new) blank

-- a table of which n entries were used: these stand in their place, what follows is as it was
abbrev pub renewed : {X : Type 0} → ℕ → X → List X → List X → List X
renewed n blank new old = padded n blank new ++ drop n old

-- another formula in place of one of the fills f, and the map cleared for each old node
abbrev pub taken_up : Formula → Fills → Desk → Desk
taken_up G f d = record {
  tables = record {
    nodes = renewed f.nodes blank_node (node_table 0 0 G.lines) d.tables.nodes;
    terms = renewed f.terms blank_term (term_table G.lines) d.tables.terms;
    alternatives = renewed f.alternatives 0 (alternative_table G.lines) d.tables.alternatives;
  };
  map = renewed f.nodes 0 [] d.map;
}

-- the answer, and what is left
pub record Done : Type 0 where
  pub answer : Result Standing Refusal
  pub left : Desk

abbrev pub done : Result Standing Refusal → Desk → Done
done r d = record { answer = r; left = d }

-- the formula of these fills and this root is simplified; a refusal (no formula, too short a map) changes nothing
abbrev pub simplified : Fills → ℕ → ℕ → Desk → Done
simplified f root m d =
    cond (not (stands_in f root m d.tables)) (done (Err NoFormula) d)
    (cond (nat_lt (length d.map) f.nodes) (done (Err Short) d)
    (done (Ok (standing (simplify (formula_at f root d.tables)))) (taken_up (simplify (formula_at f root d.tables)) f d)))

-- an accepted call: no more of each table is used
abbrev pub NoMore : Fills → Result Standing Refusal → Type 0
NoMore f (Ok s) = Fewer s.fills f
NoMore f (Err e) = Unit {0}

-- and without move alternatives, the formula that stands in the tables then is plain yes or plain no
abbrev pub SettlesIn : Slots → Result Standing Refusal → Type 0
SettlesIn t (Ok s) = Settles (formula_at s.fills s.root t)
SettlesIn t (Err e) = Unit {0}
