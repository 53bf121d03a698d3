use Rattle.claims.proofs.Keeping.{remove-keeps, simplify-keeps, judge_keeps}
use Rattle.claims.proofs.law.books_stand.Goals as goal

pub returns : goal.returns
returns c =
    let held = c.tables_stand.ensures.held in
    let back = c.layout_stands.ensures.lines in
    record {
      remove = remove-keeps held back c.quotient_stands.ensures.whole c.stack_stands.ensures.shape c.pile_stands.ensures;
      simplify = simplify-keeps held back c.truth_kept_stands.ensures.kept c.truth_kept_stands.ensures.ruled;
      judge = judge_keeps;
    }
