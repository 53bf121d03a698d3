use Rattle.std.proofs.Common.{rules, ◌+◌, not, length, sym, ap, ◌∙◌, subst, arith}
use Rattle.std.specs.List.{AllByRecursion}
use Rattle.std.proofs.ByRecursion.{All-weaker}
use Rattle.formulas.specs.Lines.{entries}
use Rattle.simplification.specs.Simplify.{tone_of, is_no, has_yes, alternatives_left}
use Rattle.simplification.specs.Moving.{put}
use Rattle.simplification.specs.Settling.{glance_of, LedBy}
use Rattle.simplification.proofs.Puts.{moved-is}
use Rattle.simplification.proofs.Turns.{stepped, stepped-none, left-short, gap, heres-same, both-moved}
use Rattle.simplification.proofs.settle.settle_step.Goals as goal

pub move_run-end-requires : goal.move_run-end-requires
move_run-end-requires c =
    let E = glance_of c.args.before in
    let xs = c.args.alternatives.now in
    let moved = moved-is _ (λ d. not (is_no (tone_of E d))) (λ d. (E d).to) _ _ _ _ _ c.move_run-middle.ensures
    (All-weaker (LedBy c.args.before) _ (λ d h o r. search rules) (entries xs c.args.of.moves) c.requires.moves) in
    let short = left-short E xs c.args.of.moves (omega (arith, c.requires.next, c.requires.within)) in
    let free = gap (alternatives_left E) xs c.move_run-middle.new.table c.args.of.moves c.args.of.heres c.args.start short c.requires.past c.requires.next c.requires.within moved.1 in
    let same = heres-same (alternatives_left E) xs c.move_run-middle.new.table c.args.of.moves c.args.of.heres c.args.start short c.requires.past c.requires.next c.requires.within moved.1 in
    record {
      past = omega (arith, free, moved.0);
      within = omega (arith, c.requires.within, c.move_run-middle.auto.table);
      small = omega (arith, c.requires.small, c.move_run-middle.auto.table);
      callable = All-weaker (LedBy c.args.before) _ (λ d h. search rules) (entries c.move_run-middle.new.table c.args.of.heres) (subst (AllByRecursion (LedBy c.args.before)) (sym same) c.requires.heres);
    }

pub returns : goal.returns
returns c =
    let E = glance_of c.args.before in
    let xs = c.args.alternatives.now in
    let mv = c.args.of.moves in
    let h = c.args.of.heres in
    let ms = alternatives_left E (entries xs mv) in
    let hs = alternatives_left E (entries xs h) in
    let first = moved-is _ (λ d. not (is_no (tone_of E d))) (λ d. (E d).to) _ _ _ _ _ c.move_run-middle.ensures
    (All-weaker (LedBy c.args.before) _ (λ d h o r. search rules) (entries xs mv) c.requires.moves) in
    let short = left-short E xs mv (omega (arith, c.requires.next, c.requires.within)) in
    let same = heres-same (alternatives_left E) xs c.move_run-middle.new.table mv h c.args.start short c.requires.past c.requires.next c.requires.within first.1 in
    let then = moved-is _ (λ d. not (is_no (tone_of E d))) (λ d. (E d).to) _ _ _ _ _ c.move_run-end.ensures
    (All-weaker (LedBy c.args.before) _ (λ d h o r. search rules) (entries c.move_run-middle.new.table h) (subst (AllByRecursion (LedBy c.args.before)) (sym same) c.requires.heres)) in
    let all = both-moved (alternatives_left E) xs c.move_run-middle.new.table mv h c.args.start short c.requires.past c.requires.next c.requires.within first.1
    c.move_run-end.new.table c.move_run-middle.result first.0 then.1 in
    let none = ap (has_yes E) (sym c.entries.ensures) ∙ (sym c.some_yes.ensures ∙ c.if-some_yes.false) in
    let step = stepped c.args.of.action c.args.start c.move_run-middle.result c.move_run-end.result ms hs (has_yes E (entries xs h))
    first.0 (then.0 ∙ ap (λ ds. c.move_run-middle.result + length (alternatives_left E ds)) same) c.if-end-start.false none in
    record { is = step.is; end = step.end; alternatives = all ∙ ap (λ ds. put c.args.start ds xs) step.all }

pub returns-then-end-start : goal.returns-then-end-start
returns-then-end-start c =
    let E = glance_of c.args.before in
    let xs = c.args.alternatives.now in
    let mv = c.args.of.moves in
    let h = c.args.of.heres in
    let ms = alternatives_left E (entries xs mv) in
    let hs = alternatives_left E (entries xs h) in
    let first = moved-is _ (λ d. not (is_no (tone_of E d))) (λ d. (E d).to) _ _ _ _ _ c.move_run-middle.ensures
    (All-weaker (LedBy c.args.before) _ (λ d h o r. search rules) (entries xs mv) c.requires.moves) in
    let short = left-short E xs mv (omega (arith, c.requires.next, c.requires.within)) in
    let same = heres-same (alternatives_left E) xs c.move_run-middle.new.table mv h c.args.start short c.requires.past c.requires.next c.requires.within first.1 in
    let then = moved-is _ (λ d. not (is_no (tone_of E d))) (λ d. (E d).to) _ _ _ _ _ c.move_run-end.ensures
    (All-weaker (LedBy c.args.before) _ (λ d h o r. search rules) (entries c.move_run-middle.new.table h) (subst (AllByRecursion (LedBy c.args.before)) (sym same) c.requires.heres)) in
    let all = both-moved (alternatives_left E) xs c.move_run-middle.new.table mv h c.args.start short c.requires.past c.requires.next c.requires.within first.1
    c.move_run-end.new.table c.move_run-middle.result first.0 then.1 in
    let none = ap (has_yes E) (sym c.entries.ensures) ∙ (sym c.some_yes.ensures ∙ c.if-some_yes.false) in
    let step = stepped-none c.args.of.action c.args.start c.move_run-middle.result c.move_run-end.result ms hs (has_yes E (entries xs h))
    first.0 (then.0 ∙ ap (λ ds. c.move_run-middle.result + length (alternatives_left E ds)) same) c.if-end-start.true none in
    record { is = step.is; end = step.end; alternatives = all ∙ ap (λ ds. put c.args.start ds xs) step.all }
