use Rattle.std.proofs.Common.{◌≡◌, ◌*◌, drop}
use Rattle.formulas.specs.Stands.{terms_ok}
use Rattle.formulas.proofs.stands.Place.all_terms.Given as goal

abbrev pub invariant-loop-t : goal.invariant-loop-t
invariant-loop-t l =
    terms_ok l.self.tables.nodes.now l.self.i (1000 * l.self.mass) l.parts
    ≡ terms_ok l.self.tables.nodes.now l.self.i l.left (drop l.t-index l.parts)
