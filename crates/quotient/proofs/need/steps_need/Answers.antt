use Rattle.std.proofs.Common.{ℕ, length, ap, ◌∙◌}
use Rattle.quotient.specs.Plans.{topped, step_need}
use Rattle.quotient.proofs.Needing.{topped-next}
use Rattle.quotient.proofs.need.steps_need.Goals as goal

pub loop-p-preserved : goal.loop-p-preserved
loop-p-preserved g c =
    let R = g.S.System.meaning c.args.system.now in
    let f : ℕ → ℕ = λ p. step_need c.args.shared c.args.m c.args.h (length (R.moves p c.args.action)) in
    topped-next f 0 c.loop-p.p _ _ _ c.loop-p.invariant (c.step_need.ensures ∙ ap (λ k. topped (step_need c.args.shared c.args.m c.args.h k)) c.moves.ensures) c.saturating_add-sum.ensures
