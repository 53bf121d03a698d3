use Rattle.std.proofs.Common.{vec_items}
use Rattle.qcheck.proofs.Piled.{told_piled, answered_piled, answer-refused, one_fewer}
use Rattle.qcheck.proofs.stack.MoreRoom.judge_over.Goals as goal

pub returns-in-Ok : goal.returns-in-Ok
returns-in-Ok g c =
    let xs = vec_items c.args.stack.now in
    let S = g.S.System.meaning c.args.system in
    let claim = c.args.bench.now.claim.now in
    let tables = c.args.bench.now.tables in
    record {
      told = told_piled xs _ c.in-Some.upper c.shared.result S claim tables c.in-Some.ensures.items c.shared.ensures _ c.judge_over.result c.in-Ok.ensures.1 c.judge_over.ensures.told;
      answer = λ few.
          answered_piled xs _ c.in-Some.upper c.shared.result S claim tables c.in-Some.ensures.items c.shared.ensures _ c.judge_over.result c.in-Ok.ensures.0 c.in-Ok.ensures.1
          (c.judge_over.ensures.answer (one_fewer xs _ c.in-Some.upper c.shared.result S claim tables c.in-Some.ensures.items c.shared.ensures g.R.Room.room few));
    }

pub returns-clause-answer : goal.returns-clause-answer
returns-clause-answer g c few =
    answer-refused (vec_items c.args.stack.now) _ c.in-Some.upper c.shared.result (g.S.System.meaning c.args.system) c.args.bench.now.claim.now c.args.bench.now.tables c.in-Some.ensures.items c.shared.ensures c.in-Err.fault c.in-Err.ensures.0
