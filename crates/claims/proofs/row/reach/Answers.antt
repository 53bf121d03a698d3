use Rattle.claims.proofs.Reached.{reached}
use Rattle.claims.proofs.row.reach.Goals as goal

pub returns : goal.returns
returns c =
    let m = c.mark-marks.ensures in
    reached c.args.nodes.now c.args.wanted.now c.args.row.now c.mark-marks.new.row c.spread-low.new.row c.args.upto c.mark-marks.result.low c.spread-low.result c.mark-marks.result.high c.requires.blank m.top m.ordered m.around m.row c.spread-low.ensures
