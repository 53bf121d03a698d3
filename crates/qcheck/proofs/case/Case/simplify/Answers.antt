use Rattle.claims.specs.Runs.{simplify}
use Rattle.qcheck.specs.Cases.{owned}
use Rattle.qcheck.proofs.case.Case.simplify.Goals as goal

pub returns : goal.returns
returns c = simplify c.as_mut_slice.result.now c.simplify.new.map (owned c.simplify.new.self) c.simplify.new.claim c.simplify.result c.simplify.ensures
