-- A quotient holds of a system exactly if the formula holds of the removed system over it.
use Rattle.std.proofs.Common.{◌≡◌, ℕ, ◌+◌, ◌*◌, ◌<◌, Bool, true, false, cond, not, ◌&&◌, ◌||◌, leb, List, [], ◌++◌, map, length, sym, refl, ap, ◌∙◌, subst, ap₂, add-zero, mul_assoc, zero-mul, arith}
use mathlib.Core.Path.{subst₃}
use Rattle.std.specs.List.{AllByRecursion}
use Rattle.systems.specs.Meaning.{Meaning, Move, Shaped, point}
use Rattle.systems.specs.Piles.{cross, pair, moves_over, pile}
use Rattle.formulas.specs.declared.node.Term.{Term}
use Rattle.formulas.specs.Laws.{CourseLaw}
use Rattle.formulas.specs.Lines.{Sort, state, dist, Line, constant, both, non, step, sum, sort}
use Rattle.formulas.specs.Truths.{Truth, truth, truths, at_node, weigh, total, any}
use Rattle.quotient.specs.Quotient.{rows, row, first_row, move_rows, width, place, places, move_places, new_step, new_term, new_line, quotient_lines}
use Rattle.quotient.specs.Theorems.{Into, QuotientLaw, QuotientAt}
use Rattle.formulas.specs.WellFormed.{line_at, Part, Fits, Fitting}
use Rattle.quotient.proofs.Lists.{each, or_left, or_assoc, any_append, any_on, any-map, any_swap, any-cross, any_counting, sum_by_on, sum_by_mul, sum_by_cross}
use Rattle.quotient.proofs.Course.{look, truths-at}
use Rattle.quotient.proofs.Places.{point-row, row-point, move_row, row_move, rows_all, line_at-place, place_is, quotient_fits, quotient-formed}
use Rattle.quotient.proofs.Piles.{pile-at, weigh_on, weigh-pair}

module _ (A : ℕ → Bool) (R S : Meaning) where
  -- the truth t' at p is the truth t with p over the state, or row p with the move
  abbrev Match : Sort → ℕ → Truth → Truth → Type 0
  Match state p t t' = (v : ℕ) → v < S.states → t'.at v ≡ t.at (p * S.states + v)
  Match dist r t t' = (mv : Move) → Into S.states mv → t'.of mv ≡ t.of (pair S.states (row R r) mv)

  -- line i, where its parts match
  module _ (hR : Shaped R) (hS : Shaped S) (ls : List Line) (i : ℕ) (T T' : List Truth)
      (match : (σ : Sort) (j p : ℕ) → Part ls i σ j → p < width R σ → Match σ p (look T j) (look T' (place R ls j p))) where
    -- the parts of a step, at the moves of p and at its point
    moves_match : (p a : ℕ) (mv : Move) (ms : List ℕ) → p < R.states → a < 32 → Into S.states mv → AllByRecursion (Part ls i dist) ms
        → any (λ x. (look T' x).of mv) (move_places R ls ms p a) ≡ any (λ mu. any (λ d. (look T d).of (pair S.states mu mv)) ms) (R.moves p a)
    moves_match p a mv ms hp ha hv h =
        any-cross (place R ls) (λ x. (look T' x).of mv) ms (move_rows R p a)
        ∙ any_on ms h (λ d part.
        any_counting (λ r. (look T' (place R ls d r)).of mv) (λ mu. (look T d).of (pair S.states mu mv)) [] (first_row R p a) (R.moves p a)
        (λ j l. match dist d (first_row R p a + j) part (move_row R p a j hp ha l) mv hv ∙ ap (λ (mu : Move). (look T d).of (pair S.states mu mv)) (row_move R p a j hp ha l)))
        ∙ any_swap (λ d mu. (look T d).of (pair S.states mu mv)) ms (R.moves p a)

    point_match : (p : ℕ) (mv : Move) (ds : List ℕ) → p < R.states → Into S.states mv → AllByRecursion (Part ls i dist) ds
        → any (λ x. (look T' x).of mv) (places R ls ds p) ≡ any (λ d. (look T d).of (pair S.states (point R p) mv)) ds
    point_match p mv ds hp hv h =
        any-map (λ x. (look T' x).of mv) (λ d. place R ls d p) ds
        ∙ any_on ds h (λ d part. match dist d p part (point-row R p hp) mv hv ∙ ap (λ (mu : Move). (look T d).of (pair S.states mu mv)) (row-point R p hp))

    step_match : (p v a : ℕ) (ms hs : List ℕ) → p < R.states → v < S.states → Fits ls i (step a ms hs)
        → (truth S T' (new_line A R ls (step a ms hs) p)).at v
        ≡ any (λ mv. any (λ d. (look T d).of mv) ms) (moves_over A R S p v a) || any (λ d. (look T d).of (pair S.states (point R p) (point S v))) hs
    unfolding new_line moves_over
    step_match p v a ms hs hp hv h = go (A a)
      where
        some : Move → Bool
        some mv = any (λ d. (look T d).of mv) ms

        here : Bool
        here = any (λ d. (look T d).of (pair S.states (point R p) (point S v))) hs

        upper : List Move
        upper = map (λ mu. pair S.states mu (point S v)) (R.moves p a)

        lower : List Move
        lower = map (pair S.states (point R p)) (S.moves v a)

        stay : any (λ x. (look T' x).of (point S v)) (places R ls hs p) ≡ here
        stay = point_match p (point S v) hs hp (hv, tt) h.2

        go : (b : Bool) → (truth S T' (new_step b R ls a ms hs p)).at v ≡ any some (cond b (cross (pair S.states) (R.moves p a) (S.moves v a)) (upper ++ lower)) || here
        go true =
            ap₂ ◌||◌
            (any_on (S.moves v a) (hS.closed v a) (λ mv b. moves_match p a mv ms hp h.0 b h.1)
            ∙ any_swap (λ mv mu. some (pair S.states mu mv)) (S.moves v a) (R.moves p a)
            ∙ sym (any-cross (pair S.states) some (R.moves p a) (S.moves v a)))
            stay
        go false =
            ap₂ ◌||◌
            (any_on (S.moves v a) (hS.closed v a) (λ mv b. point_match p mv ms hp b h.1) ∙ sym (any-map some (pair S.states (point R p)) (S.moves v a)))
            (any_append (λ x. (look T' x).of (point S v)) (move_places R ls ms p a) (places R ls hs p)
            ∙ ap₂ ◌||◌ (moves_match p a (point S v) ms hp h.0 (hv, tt) h.1 ∙ sym (any-map some (λ mu. pair S.states mu (point S v)) (R.moves p a))) stay)
            ∙ or_left (any some lower) (any some upper) here
            ∙ sym (or_assoc (any some upper) (any some lower) here)
            ∙ ap (λ b. b || here) (sym (any_append some upper lower))

    sum_match : (p : ℕ) (mv : Move) (ks : List Term) → p < length (rows R) → Into S.states mv → AllByRecursion (λ k. Part ls i state k.node) ks
        → total (at_node T') (cross (new_term R ls) ks (row R p)) mv ≡ total (at_node T) ks (pair S.states (row R p) mv)
    sum_match p mv ks hp hv h =
        sum_by_cross (new_term R ls) (λ k. k.coefficient * weigh (at_node T' k.node) mv) ks (row R p)
        ∙ sum_by_on ks h (λ k part.
        sum_by_on (row R p)
        (rows_all R (Into R.states) (λ q l. (l, tt)) hR.closed p hp)
        (λ t l.
        mul_assoc k.coefficient t.weight (weigh (at_node T' (place R ls k.node t.state)) mv)
        ∙ ap (λ n. k.coefficient * (t.weight * n)) (weigh_on S.states (at_node T' (place R ls k.node t.state)) (λ v. at_node T k.node (t.state * S.states + v)) mv hv (match state k.node t.state part l)))
        ∙ sum_by_mul k.coefficient (λ t. t.weight * weigh (λ v. at_node T k.node (t.state * S.states + v)) mv) (row R p)
        ∙ ap (λ n. k.coefficient * n) (sym (weigh-pair (at_node T k.node) S.states (row R p) mv)))

    line_match : (l : Line) → Fits ls i l → (p : ℕ) → p < width R (sort l) → Match (sort l) p (truth (pile A R S) T l) (truth S T' (new_line A R ls l p))
    unfolding new_line cross
    line_match (constant state b) h p lp = λ v hv. refl
    line_match (constant dist b) h p lp = λ mv hv. refl
    line_match (both state j k) h p lp = λ v hv. ap₂ ◌&&◌ (match state j p h.0 lp v hv) (match state k p h.1 lp v hv)
    line_match (both dist j k) h p lp = λ mv hv. ap₂ ◌&&◌ (match dist j p h.0 lp mv hv) (match dist k p h.1 lp mv hv)
    line_match (non state j) h p lp = λ v hv. ap not (match state j p h lp v hv)
    line_match (non dist j) h p lp = λ mv hv. ap not (match dist j p h lp mv hv)
    line_match (step a ms hs) h p lp = λ v hv.
        step_match p v a ms hs lp hv h
        ∙ ap (λ (X : List Move). any (λ mv. any (λ d. (look T d).of mv) ms) X || any (λ d. (look T d).of (pair S.states (point R p) (point S v))) hs) (sym (pile-at A R S p v a lp hv))
    line_match (sum t ks) h p lp = λ mv hv. ap₂ leb (mul_assoc t R.mass S.mass) (sum_match p mv ks lp hv h)

  module _ (course : CourseLaw) (hR : Shaped R) (hS : Shaped S) (ls : List Line) (fit : Fitting ls) where
    abbrev old : List Truth
    old = truths (pile A R S) ls

    abbrev new : List Truth
    new = truths S (quotient_lines A R ls)

    abbrev Agree : ℕ → Type 0
    Agree i = (σ : Sort) (p : ℕ) → Part ls (length ls) σ i → p < width R σ → Match σ p (look old i) (look new (place R ls i p))

    agree : (i : ℕ) → Agree i
    agree = each Agree (λ i before σ p part l.
        let h = part.before in
        let lp : p < width R (sort (line_at ls i)) = subst (λ (τ : Sort). p < width R τ) (sym part.sorted) l in
        subst₃ (λ (τ : Sort) (t t' : Truth). Match τ p t t') part.sorted
        (sym (truths-at course (pile A R S) ls fit i h))
        (ap (truth S new) (sym (line_at-place A R ls i p h lp)) ∙ sym (truths-at course S (quotient_lines A R ls) (quotient_fits A R ls hR fit) (place R ls i p) (place_is A R ls σ i p part l).before))
        (line_match hR hS ls i old new
        (λ τ j q part' lq. before j part'.before τ q (record { before = omega (arith, part'.before); sorted = part'.sorted }) lq)
        (line_at ls i) (fit i h) p lp))

pub quotient-at : CourseLaw → QuotientAt
quotient-at course A R S F hR hS formed = (
  λ i p v part hp hv. agree A R S course hR hS F.lines formed.lines i state p part hp v hv,
  λ i r mv part hr hv. agree A R S course hR hS F.lines formed.lines i dist r part hr mv hv,
)

pub quotient-law : CourseLaw → QuotientLaw
quotient-law course A R S F hR hS formed = (
  quotient-formed A R F hR formed,
  (quotient-at course A R S F hR hS formed).0 F.root 0 0 formed.root hR.some hS.some ∙ ap (at_node (truths (pile A R S) F.lines) F.root) (simp (zero-mul, add-zero)),
)
