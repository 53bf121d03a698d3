use Rattle.std.proofs.Common.{◌<◌, ◌≤◌, subst, arith}
use Rattle.std.specs.List.{AllByRecursion}
use Rattle.std.proofs.lemmas.List.{take_all}
use Rattle.std.proofs.ByRecursion.{All-get_or, All-weaker}
use Rattle.claims.proofs.Marks.{mark-more, around_more}
use Rattle.claims.proofs.row.mark.Goals as goal

pub loop-d-preserved : goal.loop-d-preserved
loop-d-preserved c =
    let i = c.loop-d.d-index in
    let wanted = c.args.wanted.now in
    let near = All-get_or (λ d. d < c.args.upto) wanted i 0 c.loop-d-test.true c.requires.before in (
      mark-more wanted i c.loop-d-test.true c.args.row.now c.loop-d.row c.loop-d.invariant.0,
      around_more wanted i c.loop-d-test.true c.loop-d.low c.loop-d.high _ _ c.min-low.ensures c.max-high.ensures c.loop-d.invariant.1,
      omega (arith, near, c.max-high.ensures, c.loop-d.invariant.2),
    )

pub returns-clause-around : goal.returns-clause-around
returns-clause-around c =
    let all = take_all c.loop-d.d-index c.args.wanted.now c.loop-d-test.false in
    All-weaker (λ d. (c.loop-d.low ≤ d) × (d < c.loop-d.high)) (λ d. (c.min.result ≤ d) × (d < c.loop-d.high)) (λ d a. (omega (arith, a.0, c.min.ensures), a.1)) c.args.wanted.now (subst (AllByRecursion (λ d. (c.loop-d.low ≤ d) × (d < c.loop-d.high))) all c.loop-d.invariant.1)
