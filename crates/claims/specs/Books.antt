-- Books of calls on a claim, and the stacks that they speak of.
use Rattle.std.specs.Prelude.{◌≡◌, Bool, true, false, List, [], ◌∷◌, ◌++◌}
use Rattle.systems.specs.Actions.{has}
use Rattle.systems.specs.Meaning.{Meaning, Ruled}
use Rattle.formulas.specs.Lines.{Formula}
use Rattle.formulas.specs.Tables.{Slots, formula_at}
use Rattle.formulas.specs.Truths.{holds}
use Rattle.systems.specs.Stacks.{stack}
use Rattle.claims.specs.declared.claim.Claim.{Claim}

-- a call on a claim, with the system that it is handed
pub data Call : Type 0 where
  removing : Meaning → Call
  simplifying : Call
  judging : Meaning → Call

-- a call, and whether it was refused
pub record Entry : Type 0 where
  pub call : Call
  pub refused : Bool

abbrev pub entry : Call → Bool → Entry
entry c refused = record { call = c; refused = refused }

-- the first formula of a claim, and the systems removed from it, in order
pub record Book : Type 0 where
  pub first : Formula
  pub removed : List Meaning

abbrev pub new_book : Formula → Book
new_book F = record { first = F; removed = [] }

-- an accepted removal adds its system at the end; nothing else changes a book
abbrev pub noted : Book → Call → Bool → Book
noted k (removing R) true = k
noted k (removing R) false = record { first = k.first; removed = k.removed ++ (R ∷ []) }
noted k simplifying refused = k
noted k (judging S) refused = k

abbrev pub fed : Book → Entry → Book
fed k e = noted k e.call e.refused

-- a claim with what its tables hold
pub record Stage : Type 0 where
  pub claim : Claim
  pub tables : Slots

abbrev pub stage : Claim → Slots → Stage
stage c s = record { claim = c; tables = s }

-- the formula that stands there
abbrev pub formula_on : Stage → Formula
formula_on g = formula_at g.claim.fills g.claim.root g.tables

-- the removed systems of a book over the system S, the first of them on top, piled with the actions that the claim shares
abbrev pub stacked : Claim → Book → Meaning → Meaning
stacked c k S = stack (has c.shared) k.removed S

-- the book is right about a claim: its formula holds of a system exactly if the first formula holds of the stack over that system
abbrev pub Stands : Book → Stage → Type 0
Stands k g = (S : Meaning) → Ruled S → holds S (formula_on g) ≡ holds (stacked g.claim k S) k.first
