use Rattle.std.proofs.Common.{rules, ℕ, ◌<◌, map, length, sym, ap, subst, arith}
use Rattle.std.specs.List.{AllByRecursion}
use Rattle.std.proofs.ByRecursion.{All-weaker}
use Rattle.std.proofs.lemmas.List.{length-append}
use Rattle.formulas.specs.declared.node.Node.TheVariants.{State}
use Rattle.formulas.specs.declared.node.StateNode as sn
use Rattle.formulas.specs.Lines.{entries}
use Rattle.formulas.specs.Layout.{run}
use Rattle.simplification.specs.Compacting.{new_number}
use Rattle.simplification.proofs.Puts.{moved-all}
use Rattle.simplification.proofs.Turns.{heres-same, both-moved, length_run}
use Rattle.simplification.proofs.compact.move_step.Goals as goal

pub move_run-end-requires : goal.move_run-end-requires
move_run-end-requires c =
    let xs = c.args.alternatives.now in
    let f = new_number c.args.numbers.now in
    let low : ℕ → Type 0 = λ d. d < length c.args.numbers.now in
    let first = moved-all _ f _ _ _ _ _ c.move_run-middle.ensures (All-weaker low _ (λ d h o r. search rules) (entries xs c.args.of.moves) c.requires.moves) in
    let count = length_run f xs c.args.of.moves (omega (arith, c.requires.next, c.requires.within)) in
    let same = heres-same (map f) xs c.move_run-middle.new.table c.args.of.moves c.args.of.heres c.args.start (omega (arith, count)) c.requires.past c.requires.next c.requires.within first.1 in
    record {
      past = omega (arith, count, c.requires.past, c.requires.next, first.0);
      within = omega (arith, c.requires.within, c.move_run-middle.auto.table);
      small = omega (arith, c.requires.small, c.move_run-middle.auto.table);
      callable = All-weaker low _ (λ d h. search rules) (entries c.move_run-middle.new.table c.args.of.heres) (subst (AllByRecursion low) (sym same) c.requires.heres);
    }

pub returns : goal.returns
returns c =
    let xs = c.args.alternatives.now in
    let f = new_number c.args.numbers.now in
    let low : ℕ → Type 0 = λ d. d < length c.args.numbers.now in
    let mv = c.args.of.moves in
    let h = c.args.of.heres in
    let ys = c.move_run-middle.new.table in
    let first = moved-all _ f _ _ _ _ _ c.move_run-middle.ensures (All-weaker low _ (λ d h o r. search rules) (entries xs mv) c.requires.moves) in
    let count = length_run f xs mv (omega (arith, c.requires.next, c.requires.within)) in
    let here = length_run f xs h c.requires.within in
    let same = heres-same (map f) xs ys mv h c.args.start (omega (arith, count)) c.requires.past c.requires.next c.requires.within first.1 in
    let then = moved-all _ f _ _ _ _ _ c.move_run-end.ensures
    (All-weaker low _ (λ d h o r. search rules) (entries ys h) (subst (AllByRecursion low) (sym same) c.requires.heres)) in
    record {
      is = λ i. State (sn.TheVariants.Step c.args.of.action (run c.args.start (sym count i)) (run (first.0 i) (sym here i)));
      end = omega (arith, then.0, ap (λ ds. length (map f ds)) same, first.0, length-append (map f (entries xs mv)) (map f (entries xs h)));
      alternatives =
          both-moved (map f) xs ys mv h c.args.start (omega (arith, count)) c.requires.past c.requires.next c.requires.within first.1
          c.move_run-end.new.table c.move_run-middle.result first.0 then.1;
    }
