use Rattle.std.proofs.Common.{rules}
use mathlib.Core.Path.{subst₃}
use Rattle.formulas.specs.Tables.{slots, held}
use Rattle.simplification.specs.Tables.{desk}
use Rattle.claims.specs.Simplifications.{Simplifies}
use Rattle.qcheck.specs.Cases.{owned}
use Rattle.qcheck.proofs.Cases.{owned_after}
use Rattle.qcheck.proofs.case.Store.simplify.Goals as goal

pub returns : goal.returns
returns c =
    let left = c.simplify.new in
    let lent = c.simplify.ensures.lent in
    let claim = c.args.claim.now in
    let map = c.args.map.now in
    owned_after (λ s. Simplifies claim (desk (owned c.args.self.now) map) c.simplify.result left.claim (desk s left.map)) c.args.self.now left.tables
    (search rules) (search rules) (search rules)
    (search rules) (search rules) (search rules)
    (subst₃ (λ ns ts alts. Simplifies claim (desk (slots ns ts alts) map) c.simplify.result left.claim (desk (held left.tables) left.map)) c.deref_mut.ensures.value c.deref_mut-2.ensures.value c.deref_mut-3.ensures.value c.simplify.ensures.outcome)
