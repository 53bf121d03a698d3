use Rattle.std.proofs.Common.{◌≡◌, ℕ, ◌+◌, ◌*◌, ◌<◌, [], ◌∷◌, ◌++◌, map, length, get_or, set, replicate, vec_items, sym, ap, ◌∙◌, subst, arith, rules}
use lib.Seq.{map-set}
use Rattle.std.proofs.lemmas.List.{get_or-map, length-map}
use Rattle.systems.specs.Tables.{no_record, row}
use Rattle.systems.specs.Index.{Grouped}
use Rattle.systems.proofs.Tallied.{filled, grouped_none, grouped_more}
use Rattle.systems.proofs.component.grouped.Goals as goal

pub loop-r-init : goal.loop-r-init
loop-r-init c =
    let cells = vec_items c.resize_with.new.self in
    let size : length cells ≡ c.args.states * 32 = omega (arith, c.in_ok-resize_with.ensures.len, c.resize_with.new.self.ok.0) in
    grouped_none c.args.rows.now c.args.states (map vec_items cells)
    (filled _ vec_items [] (λ p q x r. search rules) _ _ cells _ c.new-cells.ensures.items c.in_ok-resize_with.ensures.items ∙ ap (λ (n : ℕ). replicate n []) size)

pub loop-r-preserved : goal.loop-r-preserved
loop-r-preserved c =
    let cells = vec_items c.loop-r.cells in
    let at = c.cell.result in
    let r = row c.args.rows.now c.loop-r.r-index in
    let inside = c.requires c.loop-r.r-index no_record c.loop-r-test.true in
    let old = map vec_items cells in
    let l : at < length cells = omega (arith, c.loop-r.invariant.size, length-map cells vec_items, c.cell.ensures, inside.0, inside.1) in
    subst (Grouped c.args.states c.args.rows.now (c.loop-r.r-index + 1))
    (sym (map-set vec_items cells at c.push.new.self
    ∙ ap (set old at) (c.in_ok-push.ensures.items ∙ ap (λ xs. xs ++ r ∷ []) (ap vec_items c.index_mut.ensures.value ∙ sym (get_or-map vec_items cells at c.index_mut.result.now [] l)))
    ∙ ap (λ (x : ℕ). set old x (get_or old x [] ++ r ∷ [])) c.cell.ensures))
    (grouped_more c.args.rows.now c.loop-r.r-index c.loop-r-test.true inside.1 c.args.states old inside.0 c.loop-r.invariant)
