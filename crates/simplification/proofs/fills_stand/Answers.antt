use Rattle.simplification.proofs.Fewer.{fewer}
use Rattle.simplification.proofs.fills_stand.Goals as goal

pub returns : goal.returns
returns c = fewer
