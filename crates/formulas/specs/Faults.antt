-- The number, the place, the layer and the meaning of each refusal of a text.
use Rattle.std.specs.Prelude.{ℕ, List, Some, None, codes, Option}
use Rattle.formulas.specs.declared.fault.GrammarFault.TheVariants.{Word, Misplaced, OutOfRange, TooMany}
use Rattle.formulas.specs.declared.fault.ReadFault.{ReadFault}
use Rattle.formulas.specs.declared.fault.ReadFault.TheVariants.{Text, Tables as TooShort}
use Rattle.formulas.specs.declared.fault.Layer.{Layer}
use Rattle.formulas.specs.declared.fault.Layer.TheVariants.{Words, Grammar, Tables}

abbrev pub number : ReadFault → ℕ
number (Text (Word f)) = 1
number (Text (Misplaced p)) = 2
number (Text (OutOfRange p)) = 3
number (Text (TooMany p)) = 4
number TooShort = 11

-- where in the text, counted in bytes
abbrev pub place : ReadFault → Option ℕ
place (Text (Word f)) = Some f.place
place (Text (Misplaced p)) = Some p
place (Text (OutOfRange p)) = Some p
place (Text (TooMany p)) = Some p
place TooShort = None

abbrev pub layer : ReadFault → Layer
layer (Text (Word f)) = Words
layer (Text (Misplaced p)) = Grammar
layer (Text (OutOfRange p)) = Grammar
layer (Text (TooMany p)) = Grammar
layer TooShort = Tables

abbrev pub meaning : ReadFault → List ℕ
meaning (Text (Word f)) = codes "the word is none of the language"
meaning (Text (Misplaced p)) = codes "the word does not fit there, or the text ends early"
meaning (Text (OutOfRange p)) = codes "the number is outside its range"
meaning (Text (TooMany p)) = codes "more than 64 parentheses are open, or a sum has more than eight terms"
meaning TooShort = codes "a table is too short for what has to be written"

abbrev pub layer_name : Layer → List ℕ
layer_name Words = codes "words"
layer_name Grammar = codes "grammar"
layer_name Tables = codes "tables"
