use Rattle.std.proofs.Common.{ℕ, ◌+◌, ◌*◌, ◌<◌, ◌≤◌, List, length, get_or, sym, subst, mul-le-mul_right, arith}
use Rattle.claims.specs.Spots.{spot_of}
use Rattle.claims.specs.Rows.{no_node, Filling}
use Rattle.claims.specs.Boards.{truths_in, Agrees}
use Rattle.claims.proofs.Soundness.{light}
use Rattle.claims.proofs.Truthful.{ready}
use Rattle.claims.proofs.Reached.{fill_on, fill_off}
use Rattle.claims.proofs.board.Site.fill.Goals.{then-row-j-eq-MARK, else-row-j-eq-MARK}
use Rattle.claims.proofs.board.Site.fill.Goals as goal

pub holds-holds-requires : goal.holds-holds-requires
holds-holds-requires g c =
    let b = c.args.self.board in
    let M = g.S.System.meaning b.system.now in
    let t = b.tables in
    let j = c.loop-j.j in
    let here : j < length t.nodes.now = omega (arith, b.known.nodes, c.requires.top, c.loop-j-test.true) in
    let rows : c.args.span.high * M.states ≤ length b.truths.bytes.now = omega (arith, b.known.rows, mul-le-mul_right M.states c.requires.top) in
    let long : c.args.span.high ≤ length c.loop-j.row = omega (arith, c.requires.long, c.loop-j.auto.row) in
    ready M c.args.span.high (length b.truths.bytes.now) (length c.loop-j.row) rows long t.terms.now t.alternatives.now j (get_or t.nodes.now j no_node) (omega (arith, c.loop-j-test.true)) (b.known.sits.right j no_node here)

pub loop-j-preserved : goal.loop-j-preserved
loop-j-preserved g c =
    let b = c.args.self.board in
    let M = g.S.System.meaning b.system.now in
    let t = b.tables in
    let j = c.loop-j.j in
    let mv = spot_of M c.args.self.spot in
    let l = light M (g.met.S.System.sound b.system.now) c.args.self.spot c.args.self.placed in
    let Good : List ℕ → Type 0 = Filling (truths_in M t) mv c.args.span.low (j + 1) c.args.row.now in
    let agrees : Agrees M (truths_in M t) b.truths.bytes.now j = λ i s h k. b.known.agrees i s (omega (arith, c.loop-j-test.true, c.requires.top)) k in
    elim c.if-row-j-eq-MARK.branch [
      | then-row-j-eq-MARK w ↦ subst Good (sym w.row-is) (fill_on M t b.known.sits mv l.within b.truths.bytes.now c.args.span.low j c.args.row.now c.loop-j.row c.loop-j.invariant c.args.span.high w.from.result w.holds-holds.result c.requires.closed agrees c.loop-j.auto.j c.loop-j-test.true (omega (arith, b.known.nodes, c.requires.top, c.loop-j-test.true)) (omega (arith, c.requires.long, c.loop-j.auto.row, c.loop-j-test.true)) w.if-row-j-eq-MARK.true w.holds-holds.ensures w.from.ensures)
      | else-row-j-eq-MARK w ↦ subst Good (sym w.row-is) (fill_off M t b.known.sits mv l.within b.truths.bytes.now c.args.span.low j c.args.row.now c.loop-j.row c.loop-j.invariant w.if-row-j-eq-MARK.false)
    ]
