-- The number of each refusal, and what it means.
use Rattle.std.specs.Prelude.{ℕ, List, codes}
use Rattle.formulas.specs.declared.refusal.Refusal.{Refusal}
use Rattle.formulas.specs.declared.refusal.Refusal.TheVariants.{NoFormula, Large, Heavy, Short}

abbrev pub number : Refusal → ℕ
number NoFormula = 8
number Large = 9
number Heavy = 10
number Short = 11

abbrev pub meaning : Refusal → List ℕ
meaning NoFormula = codes "the tables do not hold the formula"
meaning Large = codes "the system has too many states or is too broad"
meaning Heavy = codes "the product of the masses is above 10^15"
meaning Short = codes "a table is too short for what has to be written"
