use Rattle.std.proofs.Common.{length, refl, ap, arith, rules}
use Rattle.formulas.proofs.Parsing.{term-starts, sum_starts_as, quantity_starts, element_full, element_open, number-within}
use Rattle.formulas.proofs.Storing.{put_as, leaf-wrote, neg-wrote, conj-wrote, dia-wrote, here-wrote, at_least_wrote, none_summed, one_summed}
use Rattle.formulas.proofs.Summing.{another_as, partly_none, partly_end, partly_stopped, partly_refused, partly_more}
use Rattle.formulas.proofs.Taking.{nothing_read, refused-first, known, as_if, stopped, and_so, and_as, and_then}
use Rattle.formulas.proofs.grammar.Reader.+readers.Goals as goal

pub state_term-returns-in_err-yes-clause-took : goal.state_term-returns-in_err-yes-clause-took
state_term-returns-in_err-yes-clause-took t c =
    as_if (term-starts _ _) (stopped _ _ c.in_err-yes.ensures c.from_residual.ensures)

pub state_term-returns-in-Constant-clause-took : goal.state_term-returns-in-Constant-clause-took
state_term-returns-in-Constant-clause-took t c =
    as_if (term-starts _ _) (and_as _ c.in_ok-yes.ensures c.in-Constant.is (nothing_read (leaf-wrote c.constant.ensures c.put.ensures)))

pub state_term-returns-in-Inside-clause-took : goal.state_term-returns-in-Inside-clause-took
state_term-returns-in-Inside-clause-took t c =
    as_if (term-starts _ _) (and_as _ c.in_ok-yes.ensures c.in-Inside.is c.state_inside.ensures.took)

pub pair-returns-clause-took : goal.pair-returns-clause-took
pair-returns-clause-took t c =
    and_then _ c.in_ok-a.ensures.took (λ x v. and_then _ c.in_ok-b.ensures.took (λ y w. and_so _ c.in_ok-expect.ensures (nothing_read (conj-wrote v w (put_as c.both.ensures c.put.ensures)))))

pub negation-returns-clause-took : goal.negation-returns-clause-took
negation-returns-clause-took t c =
    and_then _ c.in_ok-a.ensures.took (λ x v. and_so _ c.in_ok-expect.ensures (nothing_read (neg-wrote v (put_as c.non.ensures c.put.ensures))))

pub dist_term-returns-in_err-yes-clause-took : goal.dist_term-returns-in_err-yes-clause-took
dist_term-returns-in_err-yes-clause-took t c =
    as_if (term-starts _ _) (stopped _ _ c.in_err-yes.ensures c.from_residual.ensures)

pub dist_term-returns-in-Constant-clause-took : goal.dist_term-returns-in-Constant-clause-took
dist_term-returns-in-Constant-clause-took t c =
    as_if (term-starts _ _) (and_as _ c.in_ok-yes.ensures c.in-Constant.is (nothing_read (leaf-wrote c.constant.ensures c.put.ensures)))

pub dist_term-returns-in-Inside-clause-took : goal.dist_term-returns-in-Inside-clause-took
dist_term-returns-in-Inside-clause-took t c =
    as_if (term-starts _ _) (and_as _ c.in_ok-yes.ensures c.in-Inside.is c.dist_inside.ensures.took)

pub diamond-returns-clause-took : goal.diamond-returns-clause-took
diamond-returns-clause-took t c =
    and_so _ c.in_ok-action.ensures (and_then _ c.in_ok-d.ensures.took (λ d w. and_so _ c.in_ok-expect.ensures (nothing_read (dia-wrote w c.put-first.ensures c.put.ensures))))

pub here-returns-clause-took : goal.here-returns-clause-took
here-returns-clause-took t c =
    and_then _ c.in_ok-d.ensures.took (λ d w. and_so _ c.in_ok-expect.ensures (nothing_read (here-wrote w c.put-first.ensures c.put.ensures)))

pub at_least-returns-clause-took : goal.at_least-returns-clause-took
at_least-returns-clause-took t c =
    and_then _ c.in_ok-summands.ensures.took (λ ks q. and_so _ c.in_ok-threshold.ensures (and_so _ c.in_ok-expect.ensures (nothing_read (at_least_wrote q c.as_slice-found.ensures.value c.put-first.ensures c.put.ensures))))

pub sum-returns-in_err-start_sum-clause-took : goal.sum-returns-in_err-start_sum-clause-took
sum-returns-in_err-start_sum-clause-took t c =
    as_if (sum_starts_as _) (stopped _ _ c.in_err-start_sum.ensures c.from_residual.ensures)

pub sum-returns-in-None-clause-took : goal.sum-returns-in-None-clause-took
sum-returns-in-None-clause-took t c =
    as_if (sum_starts_as _) (and_as _ c.in_ok-start_sum.ensures c.in-None.is (nothing_read (none_summed c.new.ensures)))

pub sum-returns-in-Some-clause-took : goal.sum-returns-in-Some-clause-took
sum-returns-in-Some-clause-took t c =
    as_if (sum_starts_as _) (and_as _ c.in_ok-start_sum.ensures c.in-Some.is c.sum_inside.ensures.took)

pub single-returns-clause-took : goal.single-returns-clause-took
single-returns-clause-took t c =
    and_then _ c.in_ok-term.ensures.took (λ k f. nothing_read (one_summed (none_summed c.new-found.ensures) f (let z = ap length c.new-found.ensures in omega arith) c.push.ensures.items))

pub element-returns-then-room-eq0-clause-took : goal.element-returns-then-room-eq0-clause-took
element-returns-then-room-eq0-clause-took t c =
    as_if (λ stop ws. element_full _ _ _ stop ws c.if-room-eq0.true) refused-first

pub element-returns-in_err-expect-clause-took : goal.element-returns-in_err-expect-clause-took
element-returns-in_err-expect-clause-took t c =
    as_if (λ stop ws. element_open _ _ _ stop ws c.if-room-eq0.false) (stopped _ _ c.in_err-expect.ensures c.from_residual.ensures)

pub element-returns-clause-took : goal.element-returns-clause-took
element-returns-clause-took t c =
    as_if (λ stop ws. element_open _ _ _ stop ws c.if-room-eq0.false) (and_so _ c.in_ok-expect.ensures c.product.ensures.took)

pub product-returns-clause-took : goal.product-returns-clause-took
product-returns-clause-took t c =
    and_so _ c.in_ok-coefficient.ensures (and_then _ c.in_ok-node.ensures.took (λ s w. and_so _ c.in_ok-expect.ensures (nothing_read (record { coefficient = refl; low = number-within _ _ c.in_ok-coefficient.ensures; wrote = w }))))

pub quantity-returns-in_err-start_prob-clause-took : goal.quantity-returns-in_err-start_prob-clause-took
quantity-returns-in_err-start_prob-clause-took t c =
    as_if (quantity_starts _) (stopped _ _ c.in_err-start_prob.ensures c.from_residual.ensures)

pub quantity-returns-in_err-node-clause-took : goal.quantity-returns-in_err-node-clause-took
quantity-returns-in_err-node-clause-took t c =
    as_if (quantity_starts _) (and_so _ c.in_ok-start_prob.ensures (stopped _ _ c.in_err-node.ensures.took c.from_residual-in_err-node.ensures))

pub quantity-returns-in_err-expect-clause-took : goal.quantity-returns-in_err-expect-clause-took
quantity-returns-in_err-expect-clause-took t c =
    as_if (quantity_starts _) (and_so _ c.in_ok-start_prob.ensures (and_then _ c.in_ok-node.ensures.took (λ s w. stopped _ _ c.in_err-expect.ensures c.from_residual-in_err-expect.ensures)))

pub quantity-returns-clause-took : goal.quantity-returns-clause-took
quantity-returns-clause-took t c =
    as_if (quantity_starts _) (and_so _ c.in_ok-start_prob.ensures (and_then _ c.in_ok-node.ensures.took (λ s w. and_so _ c.in_ok-expect.ensures (nothing_read w))))

pub several-loop-x-init : goal.several-loop-x-init
several-loop-x-init t c = (search rules, partly_none c.new-found.ensures refl)

pub several-loop-x-preserved : goal.several-loop-x-preserved
several-loop-x-preserved t c = (search rules, partly_more c.loop-x.invariant.1 (another_as c.len.ensures.value (known c.in_ok-x.ensures c.in-Some.is)) c.in_ok-term.ensures.took c.push.ensures.items refl)

pub several-returns-in_err-x-clause-took : goal.several-returns-in_err-x-clause-took
several-returns-in_err-x-clause-took t c =
    partly_stopped c.loop-x.invariant.1 _ (another_as c.len.ensures.value c.in_err-x.ensures) c.from_residual.ensures

pub several-returns-in_err-term-clause-took : goal.several-returns-in_err-term-clause-took
several-returns-in_err-term-clause-took t c =
    partly_refused c.loop-x.invariant.1 (another_as c.len.ensures.value (known c.in_ok-x.ensures c.in-Some.is)) _ c.in_err-term.ensures.took c.from_residual-in_err-term.ensures

pub several-returns-clause-took : goal.several-returns-clause-took
several-returns-clause-took t c =
    partly_end c.loop-x.invariant.1 (another_as c.len.ensures.value (known c.in_ok-x.ensures c.in_default.is))
