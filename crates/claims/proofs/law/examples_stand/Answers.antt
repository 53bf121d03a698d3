use Rattle.claims.proofs.Examples.{examples}
use Rattle.claims.proofs.law.examples_stand.Goals as goal

pub returns : goal.returns
returns c = examples
