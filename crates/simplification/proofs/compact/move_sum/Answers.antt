use Rattle.std.proofs.Common.{rules, ◌<◌, length, sym}
use Rattle.std.proofs.ByRecursion.{All-weaker}
use Rattle.formulas.specs.declared.node.Node.TheVariants.{Dist}
use Rattle.formulas.specs.declared.node.DistNode as dn
use Rattle.formulas.specs.Lines.{entries}
use Rattle.formulas.specs.Layout.{run}
use Rattle.simplification.specs.Simplify.{retarget}
use Rattle.simplification.specs.Compacting.{new_number}
use Rattle.simplification.proofs.Puts.{moved-all}
use Rattle.simplification.proofs.Turns.{length_run}
use Rattle.simplification.proofs.compact.move_sum.Goals as goal

pub returns : goal.returns
returns c =
    let g = retarget (new_number c.args.numbers.now) in
    let count = length_run g c.args.terms.now c.args.run c.requires.within in
    let moved = moved-all _ g _ _ _ _ _ c.move_run-end.ensures
    (All-weaker (λ k. k.node < length c.args.numbers.now) _ (λ k h o r. search rules) (entries c.args.terms.now c.args.run) c.requires.parts) in
    record {
      is = λ i. Dist (dn.TheVariants.Sum c.args.threshold (run c.args.start (sym count i)));
      end = moved.0;
      terms = moved.1;
    }
