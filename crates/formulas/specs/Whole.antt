-- One pass over a text: what it answers, and what it leaves in the three tables.
use Rattle.std.specs.Prelude.{◌≡◌, List, [], Ok, Err, Result}
use Rattle.formulas.specs.declared.fault.GrammarFault.{GrammarFault}
use Rattle.formulas.specs.declared.node.Fills.{Fills}
use Rattle.formulas.specs.declared.tables.Standing.{Standing}
use Rattle.formulas.specs.Grammar.{Item, lone}
use Rattle.formulas.specs.Lines.{state}
use Rattle.formulas.specs.Tables.{Slots}
use Rattle.formulas.specs.Stores.{holding, Wrote}
use Rattle.formulas.specs.Trees.{Tree}

abbrev pub empty : Fills
empty = record { nodes = 0; terms = 0; alternatives = 0 }

-- the tree o is written from the front of the tables as far as they reach, and the answer is how much of them it uses and the number of its root
abbrev pub Whole : Result Tree GrammarFault → Slots → Result Standing GrammarFault → Slots → Type 0
Whole o s (Ok x) after = (t : Tree) × (o ≡ Ok t) × Wrote state (holding empty s) (holding x.fills after) t x.root
Whole o s (Err f) after = o ≡ Err f

-- no word is left
abbrev pub Ends : List Item → Result (Unit {0}) GrammarFault → Type 0
Ends ws (Ok u) = ws ≡ []
Ends ws (Err f) = (t : Tree) → lone t ws ≡ Err f
