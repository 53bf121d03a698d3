-- A claim's formula in its tables, and a claim that is new.
use Rattle.std.specs.Prelude.{◌≡◌}
use Rattle.systems.specs.declared.actions.ActionSet.{ActionSet}
use Rattle.formulas.specs.declared.draft.Draft.{Draft}
use Rattle.formulas.specs.declared.tables.Tables.{Tables}
use Rattle.formulas.specs.Lines.{Formula}
use Rattle.formulas.specs.Tables.{contents, formula_at}
use Rattle.claims.specs.declared.claim.Claim.{Claim}

-- the formula of a claim
abbrev pub formula : Claim → Tables → Formula
formula c t = formula_at c.fills c.root (contents t)

-- a new claim: the formula of the draft, and nothing removed yet
pub record Opened (d : Draft) (A : ActionSet) (c : Claim) : Type 0 where
  pub fills : c.fills ≡ d.fills
  pub root : c.root ≡ d.root
  pub mass : c.mass ≡ 1
  pub shared : c.shared ≡ A
