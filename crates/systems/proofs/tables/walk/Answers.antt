use Rattle.std.proofs.Common.{max, length, sym, refl, ◌∙◌, ap₂}
use Rattle.std.proofs.lemmas.Result.{err_from_is_err_and}
use Rattle.systems.specs.Mounted.{fault_first, none_more}
use Rattle.systems.proofs.Tallied.{counted_none}
use Rattle.systems.proofs.Walked.{same-fault, counted-right, longest-right}
use Rattle.systems.proofs.tables.walk.Goals as goal

pub loop-i-init : goal.loop-i-init
loop-i-init c = record { faultless = refl; counted = counted_none c.args.rows.now _ refl; broad = refl }

pub returns-in_err-nth : goal.returns-in_err-nth
returns-in_err-nth c =
    let n = c.args.states in
    let rs = c.args.rows.now in
    let ts = c.args.targets.now in
    let i = c.loop-i.i in
    let same = same-fault n rs ts i c.loop-i.earlier c.requires.bound c.loop-i-test.true c.loop-i.invariant.counted in
    let p = err_from_is_err_and c.from_residual.result c.from_residual.ensures.1 in
    rw (p.1, p.2) (fault_first n rs ts _ i (length rs) c.loop-i-test.true c.loop-i.invariant.faultless (sym c.in_err-nth.ensures ∙ same))

pub loop-i-preserved : goal.loop-i-preserved
loop-i-preserved c =
    let n = c.args.states in
    let rs = c.args.rows.now in
    let ts = c.args.targets.now in
    let i = c.loop-i.i in
    let counts = c.loop-i.earlier in
    let counted = c.loop-i.invariant.counted in
    let within = c.loop-i-test.true in
    let ok = c.in_ok-nth.ensures.0 in
    record {
      faultless = none_more n rs ts i c.loop-i.invariant.faultless (sym ok ∙ same-fault n rs ts i counts c.requires.bound within counted);
      counted = rw (c.cell.ensures, c.in_ok-nth.ensures.1) (counted-right n rs ts i counts c.requires.bound within counted ok);
      broad = longest-right n rs ts i counts c.requires.bound within counted ok c.loop-i.invariant.broad (c.max-breadth.ensures ∙ ap₂ max c.max.ensures c.in_ok-nth.ensures.1);
    }
