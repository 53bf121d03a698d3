-- What dividing a formula by a system answers, and what it leaves in the second tables.
use Rattle.std.specs.Prelude.{◌≡◌, ℕ, ◌*◌, ◌≤◌, true, cond, not, ◌||◌, Ok, Err, Result, nat_lt}
use Rattle.systems.specs.declared.actions.ActionSet.{ActionSet}
use Rattle.systems.specs.Actions.{has}
use Rattle.systems.specs.Meaning.{Meaning}
use Rattle.formulas.specs.declared.node.Fills.{Fills}
use Rattle.formulas.specs.declared.refusal.Refusal.{Refusal}
use Rattle.formulas.specs.declared.refusal.Refusal.TheVariants.{NoFormula, Large, Heavy, Short}
use Rattle.formulas.specs.declared.tables.Standing.{Standing}
use Rattle.formulas.specs.declared.tables.Tables.{Tables}
use Rattle.formulas.specs.Layout.{fills}
use Rattle.formulas.specs.Lines.{Formula, lines}
use Rattle.formulas.specs.Right.{AllRight}
use Rattle.formulas.specs.Stands.{stands}
use Rattle.formulas.specs.Tables.{Slots, takes, fits, laid, stands_in, formula_at, standing}
use Rattle.quotient.specs.Quotient.{quotient}

-- the formula in the tables s, with the system R removed
abbrev pub remainder : ActionSet → Meaning → Fills → ℕ → Slots → Formula
remainder A R f root s = quotient (has A) R (formula_at f root s)

-- where a formula stands in the second tables, if they have room for it
abbrev pub placed : Formula → Slots → Result Standing Refusal
placed F second = cond (fits (fills F.lines) second) (Ok (standing F)) (Err Short)

-- so many entries, where a table of that size takes them
abbrev pub room_for : ℕ → ℕ → Result ℕ Refusal
room_for size need = cond (takes size need) (Ok need) (Err Short)

-- what keeps R from being removed, mass m having been removed: its size, or the masses
abbrev pub removable : ℕ → Meaning → Result Unit Refusal
removable m R =
    cond (nat_lt 4096 R.states || nat_lt 4096 R.breadth) (Err Large)
    (cond (nat_lt 1000000000000000 (m * R.mass)) (Err Heavy) (Ok tt))

-- where the quotient stands, or why there is none: no formula, too large a system, too much mass, too little room
abbrev pub divided : ActionSet → Meaning → Fills → ℕ → ℕ → Slots → Slots → Result Standing Refusal
divided A R f root m s second =
    cond (not (stands_in f root m s)) (Err NoFormula)
    (cond (nat_lt 4096 R.states || nat_lt 4096 R.breadth) (Err Large)
    (cond (nat_lt 1000000000000000 (m * R.mass)) (Err Heavy)
    (placed (remainder A R f root s) second)))

-- the second tables after that: a refusal leaves them as they were
abbrev pub after : Result Standing Refusal → Formula → Slots → Slots
after (Ok x) F second = laid F.lines second
after (Err e) F second = second

-- the quotient of the formula that fills the tables
abbrev pub whole_remainder : ActionSet → Meaning → Tables → ℕ → Formula
whole_remainder A R t root = quotient (has A) R (record { lines = lines t.nodes.now t.terms.now t.alternatives.now; root = root })

-- the tables hold a formula that R may be removed from
pub record Dividable (R : Meaning) (t : Tables) (root : ℕ) : Type 0 where
  pub removed : ℕ
  pub few : R.states ≤ 4096
  pub narrow : R.breadth ≤ 4096
  pub light : removed * R.mass ≤ 1000000000000000
  pub held : stands t.nodes.now t.terms.now t.alternatives.now root removed ≡ true
  pub right : AllRight t.nodes.now t.terms.now t.alternatives.now removed
