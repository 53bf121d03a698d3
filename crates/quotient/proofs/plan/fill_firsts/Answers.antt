use Rattle.std.proofs.Common.{◌≡◌, ◌*◌, ◌/◌, ◌%◌, ◌<◌, length, ◌∙◌, ap₂, not-suc-le-zero, arith}
use Rattle.std.proofs.lemmas.List.{length-take-le, get_or_append_left}
use Rattle.quotient.specs.Quotient.{first_row}
use Rattle.quotient.proofs.Places.{rows_end}
use Rattle.quotient.proofs.Planning.{first-none, firsts_more}
use Rattle.quotient.proofs.plan.fill_firsts.Goals as goal

pub loop-i-init : goal.loop-i-init
loop-i-init g c =
    let R = g.S.System.meaning c.args.system.now in
    (c.states-n.ensures ∙ first-none R, omega (arith, c.states-n.ensures, c.requires.few), λ k l. absurd (not-suc-le-zero l))

pub overflow_add-next : goal.overflow_add-next
overflow_add-next g c =
    let R = g.S.System.meaning c.args.system.now in
    let long = length-take-le (c.states-n.result * 32) c.args.firsts.now (omega (arith, c.states-n.ensures, c.requires.long)) in
    omega (arith, long, c.loop-i.invariant.1, c.moves-next.ensures, (g.met.S.System.sound c.args.system.now).ruled.few (c.loop-i.i / 32) (c.loop-i.i % 32), c.requires.narrow, c.requires.few, c.states-n.ensures, c.loop-i-test.true)

pub loop-i-preserved : goal.loop-i-preserved
loop-i-preserved g c =
    let R = g.S.System.meaning c.args.system.now in
    let i = c.loop-i.i in
    let h = c.loop-i.invariant in
    let room : i < length c.loop-i.first-items = omega (arith, c.loop-i.auto.first-items, c.loop-i-test.true) in
    let more = firsts_more R c.loop-i.first-items i _ _ room h.0 h.2 c.moves-next.ensures in
    (more.0, omega (arith, h.1, c.moves-next.ensures, (g.met.S.System.sound c.args.system.now).ruled.few (i / 32) (i % 32), c.requires.narrow), more.1)

pub returns-clause-rows : goal.returns-clause-rows
returns-clause-rows g c =
    let R = g.S.System.meaning c.args.system.now in
    let long = length-take-le (c.states-n.result * 32) c.args.firsts.now (omega (arith, c.states-n.ensures, c.requires.long)) in
    let end : c.loop-i.i ≡ R.states * 32 = omega (arith, long, c.states-n.ensures, c.loop-i.auto.i-end, c.loop-i-test.false) in
    let state : c.loop-i.i / 32 ≡ R.states = omega arith in
    let action : c.loop-i.i % 32 ≡ 0 = omega arith in
    c.loop-i.invariant.0 ∙ ap₂ (first_row R) state action ∙ rows_end R

pub returns-clause-small : goal.returns-clause-small
returns-clause-small g c =
    let long = length-take-le (c.states-n.result * 32) c.args.firsts.now (omega (arith, c.states-n.ensures, c.requires.long)) in
    omega (arith, c.loop-i.invariant.1, long, c.states-n.ensures, c.loop-i.auto.i-end, c.requires.few)

pub returns-clause-firsts : goal.returns-clause-firsts
returns-clause-firsts g c =
    let R = g.S.System.meaning c.args.system.now in
    let long = length-take-le (c.states-n.result * 32) c.args.firsts.now (omega (arith, c.states-n.ensures, c.requires.long)) in
    let all : length c.loop-i.first-items ≡ R.states * 32 = omega (arith, long, c.states-n.ensures, c.loop-i.auto.first-items) in
    let end : c.loop-i.i ≡ R.states * 32 = omega (arith, long, c.states-n.ensures, c.loop-i.auto.i-end, c.loop-i-test.false) in
    λ i l. get_or_append_left c.loop-i.first-items _ 0 i (omega (arith, all, l)) ∙ c.loop-i.invariant.2 i (omega (arith, end, l))
