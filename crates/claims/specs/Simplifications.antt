-- What simplify answers, and what it leaves in the claim, in its tables and in the map.
use Rattle.std.specs.Prelude.{◌≡◌, Ok, Err, Result}
use Rattle.formulas.specs.declared.node.Fills.{Fills}
use Rattle.formulas.specs.Layout.{fills as fills_of}
use Rattle.formulas.specs.Lines.{Formula}
use Rattle.formulas.specs.Tables.{standing, formula_at}
use Rattle.simplification.specs.Simplify.{simplify}
use Rattle.simplification.specs.Tables.{Desk, Done, done, taken_up, simplified}
use Rattle.claims.specs.declared.claim.Claim.{Claim}
use Rattle.formulas.specs.declared.refusal.Refusal.{Refusal}

-- the claim's formula, simplified
abbrev pub simpler : Claim → Desk → Formula
simpler c d = simplify (formula_at c.fills c.root d.tables)

-- what comes of the claim's tables and the map
abbrev pub outcome : Claim → Desk → Done
outcome c d = simplified c.fills c.root c.mass d

-- the simplified formula has taken the place of the other; mass and shared set stay
pub record Simplified (c : Claim) (d : Desk) (f : Fills) (new : Claim) (after : Desk) : Type 0 where
  pub accepted : outcome c d ≡ done (Ok (standing (simpler c d))) (taken_up (simpler c d) c.fills d)
  pub answer : f ≡ fills_of (simpler c d).lines
  pub fills : new.fills ≡ fills_of (simpler c d).lines
  pub root : new.root ≡ (simpler c d).root
  pub mass : new.mass ≡ c.mass
  pub shared : new.shared ≡ c.shared
  pub tables : after ≡ taken_up (simpler c d) c.fills d

-- nothing has changed
pub record Unchanged (c : Claim) (d : Desk) (why : Refusal) (new : Claim) (after : Desk) : Type 0 where
  pub refused : outcome c d ≡ done (Err why) d
  pub claim : new ≡ c
  pub tables : after ≡ d

-- the answer of simplify, and the claim and its tables after it
abbrev pub Simplifies : Claim → Desk → Result Fills Refusal → Claim → Desk → Type 0
Simplifies c d (Ok f) new after = Simplified c d f new after
Simplifies c d (Err why) new after = Unchanged c d why new after
