use Rattle.claims.proofs.RunsLaw.{law}
use Rattle.claims.proofs.law.runs_stand.Goals as goal

pub returns : goal.returns
returns c =
    law c.tables_stand.ensures.held c.layout_stands.ensures.lines c.quotient_stands.ensures.whole c.stack_stands.ensures.order c.stack_stands.ensures.shape c.pile_stands.ensures
    c.truth_kept_stands.ensures.kept c.truth_kept_stands.ensures.ruled c.settled_stands.ensures
