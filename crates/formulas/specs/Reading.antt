-- What reading a text into three tables gives, and what it leaves in them.
use Rattle.std.specs.Prelude.{◌≡◌, ℕ, cond, List, Ok, Err, Result}
use Rattle.formulas.specs.declared.draft.Draft.{Draft}
use Rattle.formulas.specs.declared.fault.GrammarFault.{GrammarFault}
use Rattle.formulas.specs.declared.fault.ReadFault.{ReadFault}
use Rattle.formulas.specs.declared.fault.ReadFault.TheVariants.{Text, Tables}
use Rattle.formulas.specs.Grammar.{parse}
use Rattle.formulas.specs.Layout.{fills}
use Rattle.formulas.specs.Lines.{state}
use Rattle.formulas.specs.Tables.{Slots, fits, laid}
use Rattle.formulas.specs.Trees.{Tree, below, lay}

abbrev pub placed : Slots → Result Tree GrammarFault → Result Tree ReadFault
placed s (Ok t) = cond (fits (fills (lay state 0 t)) s) (Ok t) (Err Tables)
placed s (Err f) = Err (Text f)

-- the tree that is read from a text into the tables, or why none is
abbrev pub reading : List ℕ → Slots → Result Tree ReadFault
reading text s = placed s (parse text)

-- what a call answers and leaves: the draft of the tree that is read, laid out; or the fault, and the tables as they were
abbrev pub Reads : Result Tree ReadFault → Slots → Result Draft ReadFault → Slots → Type 0
Reads (Ok t) s (Ok d) after = (d.fills ≡ fills (lay state 0 t)) × (d.root ≡ below t) × (after ≡ laid (lay state 0 t) s)
Reads (Ok t) s (Err f) after = ⊥
Reads (Err f) s (Ok d) after = ⊥
Reads (Err f) s (Err e) after = (e ≡ f) × (after ≡ s)
