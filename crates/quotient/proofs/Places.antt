-- Where the rows of a system and the lines of a quotient are, and that the quotient is well-formed.
use Rattle.std.proofs.Common.{◌≡◌, ℕ, ◌+◌, ◌<◌, ◌≤◌, Bool, true, false, List, [], map, length, get_or, sum_by, sym, refl, ap, ◌∙◌, subst, zero-add, arith}
use Rattle.std.specs.List.{range_with_len, flat_map, AllByRecursion}
use Rattle.std.proofs.lemmas.List.{length-append, get_or_append_left, get_or-append-add, take_all}
use Rattle.std.proofs.ByRecursion.{All-append, All-map, All-weaker, All-get_or}
use Rattle.std.proofs.lemmas.List.FromFn.{length-map-range_with_len, get_or-map-range_with_len}
use Rattle.systems.specs.Meaning.{Meaning, Move, Shaped, point}
use Rattle.formulas.specs.Lines.{Sort, state, dist, Line, constant, both, non, step, sum, sort, Formula}
use Rattle.quotient.specs.Quotient.{moves_of, rows, row, first_row, move_rows, width, place, places, move_places, new_step, new_term, new_line, new_lines, quotient_lines, quotient}
use Rattle.quotient.specs.Theorems.{Into}
use Rattle.formulas.specs.WellFormed.{line_at, Part, Fits, Fitting, WellFormed}
use Rattle.quotient.proofs.Lists.{all_cross, all_counting, all-joined, sum_by_room, length-joined, joined_at, joined-split, numbered-at, numbered-room}

-- rows
module _ (R : Meaning) where
  points : List Move
  points = map (point R) (range_with_len 0 R.states)

  moves : List Move
  moves = flat_map (moves_of R) (range_with_len 0 R.states)

  length-rows : length (rows R) ≡ R.states + length moves
  unfolding rows points moves
  length-rows = omega (arith, length-append points moves, length-map-range_with_len (point R) 0 R.states)

  -- behind the moves of the last state there is no row
  pub rows_end : first_row R R.states 0 ≡ length (rows R)
  unfolding first_row moves
  rows_end = omega (arith, length-rows, length-joined (moves_of R) (λ p. length (moves_of R p)) (λ p. refl) (range_with_len 0 R.states))

  pub point-row : (p : ℕ) → p < R.states → p < length (rows R)
  point-row p h = omega (arith, length-rows)

  pub row-point : (p : ℕ) → p < R.states → row R p ≡ point R p
  unfolding rows points moves
  row-point p h =
      get_or_append_left points moves [] p (omega (arith, length-map-range_with_len (point R) 0 R.states)) ∙ get_or-map-range_with_len (point R) 0 R.states p p [] h (omega arith)

  pub rows-within : (p a : ℕ) → p < R.states → a < 32 → first_row R p a + length (R.moves p a) ≤ length (rows R)
  unfolding first_row moves
  rows-within p a hp ha = omega (arith, length-rows, numbered-room (moves_of R) R.states p hp, numbered-room (R.moves p) 32 a ha)

  pub move_row : (p a j : ℕ) → p < R.states → a < 32 → j < length (R.moves p a) → first_row R p a + j < length (rows R)
  move_row p a j hp ha hj = omega (arith, rows-within p a hp ha)

  pub row_move : (p a j : ℕ) → p < R.states → a < 32 → j < length (R.moves p a) → row R (first_row R p a + j) ≡ get_or (R.moves p a) j []
  unfolding rows first_row points moves
  row_move p a j hp ha hj =
      let before = sum_by (λ q. length (moves_of R q)) (range_with_len 0 p) in
      let inner = sum_by (λ b. length (R.moves p b)) (range_with_len 0 a) in
      ap (row R) (omega (arith, length-map-range_with_len (point R) 0 R.states))
      ∙ get_or-append-add points moves (before + (inner + j)) []
      ∙ numbered-at (moves_of R) R.states p (inner + j) [] hp (omega (arith, numbered-room (R.moves p) 32 a ha))
      ∙ numbered-at (R.moves p) 32 a j [] ha hj

  -- what holds of the points and of the moves holds of the rows
  pub rows_all : (P : Move → Type 0) → ((p : ℕ) → p < R.states → P (point R p)) → ((p a : ℕ) → AllByRecursion P (R.moves p a)) → (r : ℕ) → r < length (rows R) → P (row R r)
  unfolding rows points moves
  rows_all P hp hm r l =
      All-get_or P (rows R) r [] l
      (All-append P points moves (All-map P (point R) (range_with_len 0 R.states) (all_counting (λ p. P (point R p)) 0 R.states (λ j k. rw zero-add (hp j k))))
      (all-joined P (moves_of R) (λ p. all-joined P (R.moves p) (hm p) (range_with_len 0 32)) (range_with_len 0 R.states)))

-- lines
module _ (A : ℕ → Bool) (R : Meaning) (ls : List Line) where
  abbrev pub wide : Line → ℕ
  wide l = width R (sort l)

  pub new-length : (l : Line) → length (new_lines A R ls l) ≡ wide l
  new-length l = length-map-range_with_len (new_line A R ls l) 0 (wide l)

  pub new-sort : (l : Line) (p : ℕ) → sort (new_line A R ls l p) ≡ sort l
  unfolding new_line
  new-sort (constant σ b) p = refl
  new-sort (both σ i j) p = refl
  new-sort (non σ i) p = refl
  new-sort (step a ms hs) p = elim (A a) as (λ b. sort (new_step b R ls a ms hs p) ≡ state) [ true ↦ refl | false ↦ refl ]
  new-sort (sum t ks) p = refl

  pub quotient-length : length (quotient_lines A R ls) ≡ place R ls (length ls) 0
  unfolding place
  quotient-length = omega (arith, length-joined (new_lines A R ls) wide new-length ls, ap (sum_by wide) (take_all (length ls) ls (omega arith)))

  pub line_at-place : (i p : ℕ) → i < length ls → p < wide (line_at ls i) → line_at (quotient_lines A R ls) (place R ls i p) ≡ new_line A R ls (line_at ls i) p
  unfolding place
  line_at-place i p h l =
      joined_at (new_lines A R ls) wide new-length ls i p (constant state true) (constant state true) h l
      ∙ get_or-map-range_with_len (new_line A R ls (line_at ls i)) 0 (wide (line_at ls i)) p p (constant state true) l (omega arith)

  -- parts of line i give parts of what line i gives
  part-place : (i p : ℕ) → i ≤ length ls → (σ : Sort) (j q : ℕ) → Part ls i σ j → q < width R σ → Part (quotient_lines A R ls) (place R ls i p) σ (place R ls j q)
  unfolding place
  part-place i p h σ j q part l =
      let k : q < wide (line_at ls j) = subst (λ (τ : Sort). q < width R τ) (sym part.sorted) l in
      let j<i = part.before in
      record {
        before = omega (arith, sum_by_room wide ls j i (constant state true) j<i h);
        sorted = ap sort (line_at-place j q (omega arith) k) ∙ new-sort (line_at ls j) q ∙ part.sorted;
      }

  -- so lines give lines of the quotient
  pub place_is : (σ : Sort) (j q : ℕ) → Part ls (length ls) σ j → q < width R σ → Part (quotient_lines A R ls) (length (quotient_lines A R ls)) σ (place R ls j q)
  place_is σ j q part l =
      subst (λ (n : ℕ). Part (quotient_lines A R ls) n σ (place R ls j q)) (sym quotient-length) (part-place (length ls) 0 (omega arith) σ j q part l)

  module _ (shaped : Shaped R) (i p : ℕ) (h : i ≤ length ls) where
    New : Sort → ℕ → Type 0
    New σ n = Part (quotient_lines A R ls) (place R ls i p) σ n

    places-fit : (q : ℕ) (ds : List ℕ) → q < R.states → AllByRecursion (Part ls i dist) ds → AllByRecursion (New dist) (places R ls ds q)
    unfolding New
    places-fit q ds l ps = All-map (New dist) (λ d. place R ls d q) ds (All-weaker (Part ls i dist) (λ d. New dist (place R ls d q)) (λ d part. part-place i p h dist d q part (point-row R q l)) ds ps)

    move_places_fit : (q a : ℕ) (ds : List ℕ) → q < R.states → a < 32 → AllByRecursion (Part ls i dist) ds → AllByRecursion (New dist) (move_places R ls ds q a)
    unfolding New
    move_places_fit q a ds l ha ps =
        all_cross (place R ls) (New dist) ds (move_rows R q a) ps (all_counting (λ r. r < length (rows R)) (first_row R q a) (length (R.moves q a)) (λ j k. move_row R q a j l ha k))
        (λ d r part k. part-place i p h dist d r part k)

    new-fits : (l : Line) → Fits ls i l → p < wide l → Fits (quotient_lines A R ls) (place R ls i p) (new_line A R ls l p)
    unfolding new_line New
    new-fits (constant σ b) f l = tt
    new-fits (both σ j k) f l = (part-place i p h σ j p f.0 l, part-place i p h σ k p f.1 l)
    new-fits (non σ j) f l = part-place i p h σ j p f l
    new-fits (step a ms hs) f l =
        elim (A a) as (λ b. Fits (quotient_lines A R ls) (place R ls i p) (new_step b R ls a ms hs p)) [
          | true ↦ (f.0, move_places_fit p a ms l f.0 f.1, places-fit p hs l f.2)
          | false ↦ (f.0, places-fit p ms l f.1, All-append (New dist) (move_places R ls ms p a) (places R ls hs p) (move_places_fit p a ms l f.0 f.1) (places-fit p hs l f.2))
        ]
    new-fits (sum t ks) f l =
        all_cross (new_term R ls) (λ k. New state k.node) ks (row R p) f
        (rows_all R (Into R.states) (λ q k. (k, tt)) shaped.closed p l)
        (λ k t part k'. part-place i p h state k.node t.state part k')

  pub quotient_fits : Shaped R → Fitting ls → Fitting (quotient_lines A R ls)
  unfolding place
  quotient_fits shaped fit n l =
      let at = joined-split (new_lines A R ls) wide new-length (constant state true) ls n l in
      let i = at.part in
      let p = at.inner in
      let fits : Fits (quotient_lines A R ls) (place R ls i p) (line_at (quotient_lines A R ls) (place R ls i p)) =
      subst (Fits (quotient_lines A R ls) (place R ls i p)) (sym (line_at-place i p at.within at.short)) (new-fits shaped i p (omega (arith, at.within)) (line_at ls i) (fit i at.within) at.short) in
      subst (λ (k : ℕ). Fits (quotient_lines A R ls) k (line_at (quotient_lines A R ls) k)) (sym at.sum_is) fits

pub quotient-formed : (A : ℕ → Bool) (R : Meaning) (F : Formula) → Shaped R → WellFormed F → WellFormed (quotient A R F)
quotient-formed A R F shaped formed = record {
  lines = quotient_fits A R F.lines shaped formed.lines;
  root = place_is A R F.lines state F.root 0 formed.root shaped.some;
}
