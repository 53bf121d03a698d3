-- What remove answers, and what it leaves in the second tables.
use Rattle.std.specs.Prelude.{◌≡◌, ◌*◌, Ok, Err, Result}
use Rattle.systems.specs.Meaning.{Meaning}
use Rattle.formulas.specs.declared.node.Fills.{Fills}
use Rattle.formulas.specs.declared.refusal.Refusal.{Refusal}
use Rattle.formulas.specs.declared.tables.Standing.{Standing}
use Rattle.formulas.specs.Layout.{fills as fills_of}
use Rattle.formulas.specs.Lines.{Formula}
use Rattle.formulas.specs.Tables.{Slots, laid, standing}
use Rattle.quotient.specs.Divisions.{remainder, divided}
use Rattle.claims.specs.declared.claim.Claim.{Claim}

-- what the claim's formula becomes without R: its quotient by R
abbrev pub rest : Meaning → Claim → Slots → Formula
rest R c s = remainder c.shared R c.fills c.root s

-- where it stands in the second tables, or why R is not removed
abbrev pub removal : Meaning → Claim → Slots → Slots → Result Standing Refusal
removal R c s second = divided c.shared R c.fills c.root c.mass s second

-- the new claim and its fills, or the claim back and the reason
abbrev pub Answer : Type 0
Answer = Result (Claim × Fills) (Claim × Refusal)

-- R is removed: the new claim has the quotient, laid out in the second tables, and R's mass among the removed
pub record Removed (R : Meaning) (c : Claim) (s second : Slots) (new : Claim) (f : Fills) (after : Slots) : Type 0 where
  pub accepted : removal R c s second ≡ Ok (standing (rest R c s))
  pub answer : f ≡ fills_of (rest R c s).lines
  pub fills : new.fills ≡ fills_of (rest R c s).lines
  pub root : new.root ≡ (rest R c s).root
  pub mass : new.mass ≡ c.mass * R.mass
  pub shared : new.shared ≡ c.shared
  pub tables : after ≡ laid (rest R c s).lines second

-- R is not removed: nothing has changed
pub record Kept (R : Meaning) (c : Claim) (s second : Slots) (back : Claim) (why : Refusal) (after : Slots) : Type 0 where
  pub refused : removal R c s second ≡ Err why
  pub claim : back ≡ c
  pub tables : after ≡ second

-- the answer of remove on a claim in the tables s, and what the second tables hold after it
abbrev pub Removes : Meaning → Claim → Slots → Slots → Answer → Slots → Type 0
Removes R c s second (Ok x) after = Removed R c s second x.0 x.1 after
Removes R c s second (Err e) after = Kept R c s second e.0 e.1 after
