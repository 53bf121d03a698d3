use Rattle.std.proofs.Common.{rules, false, Ok, Err, subst}
use Rattle.formulas.specs.Tables.{slots, held}
use Rattle.claims.specs.Books.{removing, entry, stage}
use Rattle.claims.specs.Removals.{Removes}
use Rattle.claims.specs.Runs.{Step, remove}
use Rattle.qcheck.specs.Cases.{stage_of}
use Rattle.qcheck.proofs.Cases.{owned_after}
use Rattle.qcheck.proofs.case.remove_into.Goals as goal

pub returns-in-Ok-clause-step : goal.returns-in-Ok-clause-step
returns-in-Ok-clause-step g c =
    let R = g.S.System.meaning c.args.system.now in
    let left = c.remove.new.second in
    let given = slots c.deref_mut.result.now c.deref_mut-2.result.now c.deref_mut-3.result.now in
    let answer = Ok (c.in-Ok.claim, c.in-Ok.fills) in
    owned_after (λ s. Step (stage_of c.args.case) (entry (removing R) false) (stage c.in-Ok.claim s)) c.in_ok-second.second left
    (search rules) (search rules) (search rules)
    (search rules) (search rules) (search rules)
    (remove R given (held left) answer (g.met.S.System.sound c.args.system.now) (subst (λ s. Removes R c.args.case.claim s given answer (held left)) c.tables.ensures c.in-Ok.ensures.outcome))

pub returns-in-Err-clause-step : goal.returns-in-Err-clause-step
returns-in-Err-clause-step g c =
    let R = g.S.System.meaning c.args.system.now in
    let left = c.remove.new.second in
    let given = slots c.deref_mut.result.now c.deref_mut-2.result.now c.deref_mut-3.result.now in
    let answer = Err (c.in-Err.claim, c.in-Err.why) in
    remove R given (held left) answer (g.met.S.System.sound c.args.system.now) (subst (λ s. Removes R c.args.case.claim s given answer (held left)) c.tables.ensures c.in-Err.ensures.outcome)
