use Rattle.std.proofs.Common.{◌*◌, sym, refl, ◌∙◌, ap₂, arith, Ok}
use native.Mathlib.Nat.{one-le-mul}
use Rattle.formulas.specs.Tables.{contents, held}
use Rattle.claims.proofs.Removing.{light, as_claimed, removes}
use Rattle.claims.proofs.remove.remove.Goals as goal

pub new-requires-clause-weighed : goal.new-requires-clause-weighed
new-requires-clause-weighed g c =
    let R = g.S.System.meaning c.args.system.now in
    let s = contents c.args.tables in
    let second = held c.args.second.now in
    let done = sym (as_claimed R c.args.claim s second _ _ _ _ c.standing-standing.ensures.fills c.standing-standing.ensures.root c.mass-mass.ensures c.shared-shared.ensures) ∙ sym c.in-Ok.ensures.value in
    let product = ap₂ ◌*◌ c.mass-mass.ensures c.mass.ensures in (
      omega (arith, product, one-le-mul c.args.claim.weighed.0 (g.met.S.System.sound c.args.system.now).ruled.mass_low),
      omega (arith, product, light R c.args.claim s second c.in-Ok.left done),
    )

pub returns-in-Ok-clause-outcome : goal.returns-in-Ok-clause-outcome
returns-in-Ok-clause-outcome g c =
    let R = g.S.System.meaning c.args.system.now in
    let s = contents c.args.tables in
    let second = held c.args.second.now in
    let last = held c.divide.new.second in
    removes R c.args.claim s second _ _ _ _ c.standing-standing.ensures.fills c.standing-standing.ensures.root c.mass-mass.ensures c.shared-shared.ensures
    c.in-Ok.left c.new.result last c.in-Ok.ensures.value c.in-Ok.ensures.tables
    c.new.ensures.fills c.new.ensures.root (c.new.ensures.mass ∙ ap₂ ◌*◌ c.mass-mass.ensures c.mass.ensures) c.new.ensures.shared

pub returns-in-Ok-clause-book : goal.returns-in-Ok-clause-book
returns-in-Ok-clause-book g c =
    let R = g.S.System.meaning c.args.system.now in
    c.books_stand.ensures.remove R c.args.claim (contents c.args.tables) (held c.args.second.now) (held c.divide.new.second) (Ok (c.new.result, c.in-Ok.left.fills)) (g.met.S.System.sound c.args.system.now) (returns-in-Ok-clause-outcome g c)

pub returns-in-Err-clause-outcome : goal.returns-in-Err-clause-outcome
returns-in-Err-clause-outcome g c =
    let R = g.S.System.meaning c.args.system.now in
    let s = contents c.args.tables in
    let second = held c.args.second.now in
    record {
      refused = sym (as_claimed R c.args.claim s second _ _ _ _ c.standing-standing.ensures.fills c.standing-standing.ensures.root c.mass-mass.ensures c.shared-shared.ensures) ∙ sym c.in-Err.ensures.value;
      claim = refl;
      tables = c.in-Err.ensures.tables;
    }
