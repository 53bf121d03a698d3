use Rattle.std.proofs.Common.{◌*◌, ◌++◌, drop, ap, ap₂, ◌∙◌, arith}
use Rattle.claims.specs.Boards.{truths_in}
use Rattle.claims.proofs.Pastes.{table_more, over-agrees, front-agrees}
use Rattle.claims.proofs.judge.fill_table.Goals as goal

pub invariant_of-board : goal.invariant_of-board
invariant_of-board g c =
    let M = g.S.System.meaning c.args.system.now in
    let T = truths_in M c.args.tables in
    let i = c.loop-upto.upto in
    let known = c.split_at_mut-known.result.0.now in
    let p = i * c.states-states.result in
    let far = ap (λ n. i * n) c.states-states.ensures in
    record {
      known = record {
        sits = c.requires.sits;
        nodes = omega (arith, c.loop-upto-test.true);
        states = c.states-states.ensures;
        rows = omega (arith, far, c.split_at_mut-known.ensures.front_len);
        agrees = front-agrees M T i p c.loop-upto.truth known far c.split_at_mut-known.ensures.front (over-agrees M T i c.args.truth.now c.loop-upto.truth c.loop-upto.invariant.truth);
      };
    }

pub loop-upto-preserved : goal.loop-upto-preserved
loop-upto-preserved g c =
    let M = g.S.System.meaning c.args.system.now in
    let T = truths_in M c.args.tables in
    let i = c.loop-upto.upto in
    let n = c.states-states.result in
    let split = c.split_at_mut-known.ensures in
    record {
      truth = table_more T M.states i (i * n) n c.args.truth.now c.loop-upto.truth c.fill_node.new.bytes _ (ap (λ k. i * k) c.states-states.ensures) c.states-states.ensures c.loop-upto.invariant.truth c.fill_node.ensures.bytes
          (ap₂ (λ a r. a ++ (c.fill_node.new.bytes ++ drop n r)) split.front split.back);
      row = c.fill_node.ensures.row ∙ c.loop-upto.invariant.row;
    }
