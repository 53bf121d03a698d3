-- Tables that were lent come back with what was left in them.
use Rattle.std.proofs.Common.{◌≡◌, ℕ, true, List, length, is_err, IfOk, Ok, Err, vec_items, Result, sym, refl, ap, ◌∙◌, subst, ap₂, true≢false}
use Rattle.std.specs.Vec.{with_items}
use Rattle.std.proofs.lemmas.List.{with_items_is}
use Rattle.formulas.specs.declared.node.Node.{Node}
use Rattle.formulas.specs.declared.node.Term.{Term}
use Rattle.systems.specs.Meaning.{Meaning}
use Rattle.formulas.specs.declared.tables.TablesMut.{TablesMut}
use Rattle.formulas.specs.Tables.{Slots, slots, held}
use Rattle.claims.specs.Books.{removing, Entry, entry, Stage, stage}
use Rattle.claims.specs.Runs.{Step, remove, simplify, judge}
use Rattle.qcheck.specs.declared.case.Case.{Case}
use Rattle.qcheck.specs.declared.case.Store.{Store}
use Rattle.formulas.specs.declared.node.Fills.{Fills}
use Rattle.formulas.specs.declared.refusal.Refusal.{Refusal}
use Rattle.qcheck.specs.Cases.{owned, stage_of, left_by, Removal}

-- what is true of the tables that were lent is true of the vectors behind them
pub owned_after : (P : Slots → Type 0) (s : Store) (left : TablesMut) {ns : List Node} {ts : List Term} {alts : List ℕ}
    → ns ≡ left.nodes.now → ts ≡ left.terms.now → alts ≡ left.alternatives.now
    → length left.nodes.now ≡ s.nodes.len → length left.terms.now ≡ s.terms.len → length left.alternatives.now ≡ s.alternatives.len
    → P (held left)
    → P (owned (record { nodes = with_items s.nodes ns; terms = with_items s.terms ts; alternatives = with_items s.alternatives alts }))
owned_after P s left {ns} {ts} {alts} en et ea ln lt la p =
    let nodes = sym (with_items_is s.nodes ns (ap length en ∙ ln) ∙ en) in
    let terms = sym (with_items_is s.terms ts (ap length et ∙ lt) ∙ et) in
    let alternatives = sym (with_items_is s.alternatives alts (ap length ea ∙ la) ∙ ea) in
    subst P (ap₂ (λ xs ys. slots xs ys left.alternatives.now) nodes terms ∙ ap (slots (vec_items (with_items s.nodes ns)) (vec_items (with_items s.terms ts))) alternatives) p

-- a refused call leaves the claim where it was
unmoved : {g h : Stage} {e : Entry} → Step g e h → e.refused ≡ true → g ≡ h
unmoved (remove R second after (Ok x) sound p) r = absurd (true≢false (sym r))
unmoved {g} (remove R second after (Err e) sound p) r = ap (λ c. stage c g.tables) (sym p.claim)
unmoved (simplify map map' s c (Ok f) p) r = absurd (true≢false (sym r))
unmoved (simplify map map' s c (Err e) p) r = ap₂ stage (sym p.claim) (ap (λ d. d.tables) (sym p.tables))
unmoved (judge S t truth row r sound same p) q = refl

-- so a removal that is tried again is one step from where the first try began
pub again : {E : Type 0} (R : Meaning) (before back : Case) (why : Refusal) (r : Result (Result (Case × Fills) (Case × Refusal)) E) → Removal R before (Err (back, why)) → IfOk r (Removal R back) → IfOk r (Removal R before)
again R before back why r p h = subst (λ g. IfOk r (λ x. Step g (entry (removing R) (is_err x)) (stage_of (left_by x)))) (sym (unmoved p refl)) h
