use Rattle.std.proofs.Common.{◌≡◌, ℕ, ◌≤◌, cond, ◌++◌, map, refl, ap, ◌∙◌, arith}
use Rattle.std.specs.List.{range_with_len}
use Rattle.systems.specs.Piles.{cross}
use Rattle.formulas.specs.Lines.{entries}
use Rattle.formulas.specs.Append.{table}
use Rattle.quotient.specs.Layings.{extended}
use Rattle.quotient.specs.Plans.{place_in}
use Rattle.quotient.proofs.Laying.{put_is, lay_step, fill-grows}
use Rattle.quotient.proofs.Dividing.{step_is}
use Rattle.quotient.proofs.plan.Division.put_step.Goals as goal

pub overflow_sub-moves : goal.overflow_sub-moves
overflow_sub-moves g c =
    let at = place_in c.args.self.now.plan in
    let here : ℕ → ℕ = λ d. at d c.args.p in
    let rows = range_with_len c.rows_of.result.first c.rows_of.result.count in
    let ms = c.entries-parts.result.now in
    let small : c.args.out.now.alternatives.now.fill ≤ 4294967295 = omega arith in
    fill-grows (table c.args.out.now.alternatives.now) (table c.put_move_parts.new.out) (cond c.contains.result (cross at ms rows) (map here ms)) c.put_move_parts.ensures.wrote small

pub overflow_sub-heres : goal.overflow_sub-heres
overflow_sub-heres g c =
    let at = place_in c.args.self.now.plan in
    let here : ℕ → ℕ = λ d. at d c.args.p in
    let rows = range_with_len c.rows_of.result.first c.rows_of.result.count in
    let hs = map here c.entries-here_parts.result.now in
    let small : c.put_move_parts.new.out.fill ≤ 4294967295 = omega arith in
    fill-grows (table c.put_move_parts.new.out) (table c.put_here_parts.new.out) (cond c.contains.result hs (cross at c.entries-parts.result.now rows ++ hs)) c.put_here_parts.ensures.wrote small

pub returns-clause-wrote : goal.returns-clause-wrote
returns-clause-wrote g c =
    let R = g.S.System.meaning c.args.self.now.system.now in
    let x = c.args.self.now.plan in
    let alts = x.tables.alternatives.now in
    let at = place_in x in
    let here : ℕ → ℕ = λ d. place_in x d c.args.p in
    let shared = c.contains.result in
    let rows = range_with_len c.rows_of.result.first c.rows_of.result.count in
    let ms = entries alts c.args.step.moves in
    let hs = entries alts c.args.step.heres in
    let before = table c.args.out.now.alternatives.now in
    let middle = table c.put_move_parts.new.out in
    let end = table c.put_here_parts.new.out in
    let moved : middle ≡ extended before (cond shared (cross at ms rows) (map here ms)) = c.put_move_parts.ensures.wrote ∙ ap (λ l. extended before (cond shared (cross at l rows) (map here l))) c.entries-parts.ensures in
    let stayed : end ≡ extended middle (cond shared (map here hs) (cross at ms rows ++ map here hs)) =
    c.put_here_parts.ensures.wrote
    ∙ ap (λ l. extended middle (cond shared (map here l) (cross at c.entries-parts.result.now rows ++ map here l))) c.entries-here_parts.ensures
    ∙ ap (λ l. extended middle (cond shared (map here hs) (cross at l rows ++ map here hs))) c.entries-parts.ensures in
    lay_step (table c.args.out.now.nodes.now) (table c.put.new.self) before middle end c.args.step.action (cond shared (cross at ms rows) (map here ms)) (cond shared (map here hs) (cross at ms rows ++ map here hs)) _ moved stayed (put_is (table c.args.out.now.nodes.now) (table c.put.new.self) _ _ _ refl c.put.ensures.puts) (step_is R x c.args.self.now.planned c.args.step c.args.p rows shared c.contains.ensures c.rows_of.ensures.rows) (table c.args.out.now.terms.now)
