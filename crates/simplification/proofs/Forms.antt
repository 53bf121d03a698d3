-- Simplification keeps a formula well-formed, and its sums within their bounds.
use Rattle.std.proofs.Common.{◌≡◌, ℕ, ◌<◌, ◌≤◌, Bool, true, false, cond, List, [], ◌∷◌, map, length, filter, sym, refl, ap, ◌∙◌, subst, arith}
use Rattle.std.specs.List.{AllByRecursion}
use Rattle.std.proofs.ByRecursion.{All-weaker, All-append, All-map, all_kept_by, All-get_or, All-from_get_or}
use Rattle.std.proofs.lemmas.List.Sums.{sum_by-cons}
use Rattle.formulas.specs.declared.node.Term.{Term}
use Rattle.formulas.specs.Lines.{Sort, state, dist, Line, constant, both, non, step, sum, sort, Formula}
use Rattle.formulas.specs.Right.{Below, Formed}
use Rattle.formulas.specs.WellFormed.{line_at, Part, Fits, Fitting, WellFormed, Bounded}
use Rattle.simplification.specs.Simplify.{parts, coefficients, Outcome, is_neither, tone_of, retarget, settle, kept, place, renumber, prune, simplify}
use Rattle.simplification.specs.Laws.{KeepsFormLaw, KeepsBoundsLaw}
use Rattle.simplification.proofs.Lists.{all-front, all_back, all_both, all_of_map}
use Rattle.simplification.proofs.Outcomes.{wants, Ordered, outcome, shrunk, shrunk-parts, shrunk-sort, shrunk-wants, Turn, settled, first, second, stays, placed, by_turns, lines_of, lines-length, lines_get}
use Rattle.simplification.proofs.Prune.{kept-root, kept-parts, pruned_get, pruned_each, place_lt, place-within, renumber-parts, renumber-sort, renumber-wants}

-- a step's action is one of 32
abbrev Acts : Line → Type 0
Acts (constant σ b) = Unit {0}
Acts (both σ i j) = Unit {0}
Acts (non σ i) = Unit {0}
Acts (step a ms hs) = a < 32
Acts (sum t ks) = Unit {0}

-- a line fits if its parts do and its action is right
module _ (ls : List Line) (i : ℕ) where
  pub fits-parts : (l : Line) → Fits ls i l → AllByRecursion (Part ls i (wants l)) (parts l)
  fits-parts (constant σ b) h = tt
  fits-parts (both σ j k) h = (h.0, (h.1, tt))
  fits-parts (non σ j) h = (h, tt)
  fits-parts (step a ms hs) h = All-append (Part ls i dist) ms hs h.1 h.2
  fits-parts (sum t ks) h = All-map (Part ls i state) (λ k. k.node) ks h

  fits_acts : (l : Line) → Fits ls i l → Acts l
  fits_acts (constant σ b) h = tt
  fits_acts (both σ j k) h = tt
  fits_acts (non σ j) h = tt
  fits_acts (step a ms hs) h = h.0
  fits_acts (sum t ks) h = tt

  fits-from : (l : Line) → Acts l → AllByRecursion (Part ls i (wants l)) (parts l) → Fits ls i l
  fits-from (constant σ b) a h = tt
  fits-from (both σ j k) a h = (h.0, h.1.0)
  fits-from (non σ j) a h = h.0
  fits-from (step c ms hs) a h = (a, all-front (Part ls i dist) ms hs h, all_back (Part ls i dist) ms hs h)
  fits-from (sum t ks) a h = all_of_map (Part ls i state) (λ k. k.node) ks h

pub fitting_ordered : (ls : List Line) → Fitting ls → Ordered ls
fitting_ordered ls f i h =
    All-weaker (Part ls i (wants (line_at ls i))) (λ j. j < i) (λ j p. p.before) (parts (line_at ls i)) (fits-parts ls i (line_at ls i) (f i h))

pub fitting_formed : (ls : List Line) → Fitting ls → Formed ls
fitting_formed ls f i h = go (line_at ls i) (f i h)
  where
    go : (l : Line) → Fits ls i l → Below i l
    go (constant σ b) p = tt
    go (both σ j k) p = (p.0.before, p.1.before)
    go (non σ j) p = p.before
    go (step a ms hs) p =
        (All-weaker (Part ls i dist) (λ d. d < i) (λ d q. q.before) ms p.1, All-weaker (Part ls i dist) (λ d. d < i) (λ d q. q.before) hs p.2)
    go (sum t ks) p = All-weaker (λ k. Part ls i state k.node) (λ k. k.node < i) (λ k q. q.before) ks p

-- what stays true of a line whatever becomes of it
record Lasting (Q : Line → Type 0) : Type 0 where
  settles : (σ : Sort) (b : Bool) → Q (constant σ b)
  shrinks : (E : ℕ → Outcome) (l : Line) → Q l → Q (shrunk E l)
  moves : (f : ℕ → ℕ) (l : Line) → Q l → Q (renumber f l)

abbrev Each : (Line → Type 0) → List Line → Type 0
Each Q ls = (i : ℕ) → i < length ls → Q (line_at ls i)

module _ (Q : Line → Type 0) (q : Lasting Q) where
  turn_lasts : (n : ℕ) (E : ℕ → Outcome) (l : Line) (x : Outcome) → Turn n E l x → AllByRecursion (λ j. Q (E j).line) (parts l) → Q l → Q x.line
  turn_lasts n E l x (settled b) h g = q.settles (sort l) b
  turn_lasts n E l x first h g = h.0
  turn_lasts n E l x second h g = h.1.0
  turn_lasts n E l x (stays s) h g = q.shrinks E l g

  settle_lasts : (F : Formula) → Ordered F.lines → Each Q F.lines → Each Q (settle F).lines
  settle_lasts F o e i h =
      let ls : List Line = F.lines in
      subst Q (sym (lines_get ls i))
      (by_turns ls o (λ n x. Q x.line)
      (λ n g f x t. turn_lasts n (outcome ls) (line_at ls n) x t
      (All-weaker (λ j. j < n) (λ j. Q (outcome ls j).line) (λ j k. (f j k).1) (parts (line_at ls n)) (o n g)) (e n g))
      i (omega (arith, lines-length ls)))

  prune_lasts : (F : Formula) → Each Q F.lines → Each Q (prune F).lines
  prune_lasts F e = pruned_each F (λ m l. Q l) (λ i h k. q.moves (place F) (line_at F.lines i) (e i h))

acts_last : Lasting Acts
acts_last = record { settles = λ σ b. tt; shrinks = shrinks; moves = moves }
  where
    shrinks : (E : ℕ → Outcome) (l : Line) → Acts l → Acts (shrunk E l)
    shrinks E (constant σ b) h = tt
    shrinks E (both σ i j) h = tt
    shrinks E (non σ i) h = tt
    shrinks E (step a ms hs) h = h
    shrinks E (sum t ks) h = tt

    moves : (f : ℕ → ℕ) (l : Line) → Acts l → Acts (renumber f l)
    moves f (constant σ b) h = tt
    moves f (both σ i j) h = tt
    moves f (non σ i) h = tt
    moves f (step a ms hs) h = h
    moves f (sum t ks) h = tt

-- sorts
module _ (so : ℕ → Sort) where
  record Kind (σ : Sort) (l : Line) : Type 0 where
    is : sort l ≡ σ
    right : AllByRecursion (λ j. so j ≡ wants l) (parts l)

  module _ (E : ℕ → Outcome) where
    record Known (σ : Sort) (j : ℕ) : Type 0 where
      kind : Kind σ (E j).line
      goes : so (E j).to ≡ σ

    turn-kind : (n : ℕ) (l : Line) (x : Outcome) → Turn n E l x → AllByRecursion (Known (wants l)) (parts l) → Kind (sort l) x.line
    turn-kind n l x (settled b) h = record { is = refl; right = tt }
    turn-kind n l x first h = h.0.kind
    turn-kind n l x second h = h.1.0.kind
    turn-kind n l x (stays s) h = record {
      is = shrunk-sort E l;
      right = subst (λ (σ : Sort). AllByRecursion (λ j. so j ≡ σ) (parts (shrunk E l))) (sym (shrunk-wants E l))
          (shrunk-parts E (λ j. so j ≡ wants l) l (All-weaker (Known (wants l)) (λ j. so (E j).to ≡ wants l) (λ j k. k.goes) (parts l) h));
    }

abbrev sort-of : List Line → ℕ → Sort
sort-of ls j = sort (outcome ls j).line

kinds : (ls : List Line) → Fitting ls → (i : ℕ) → i < length ls → Kind (sort-of ls) (sort (line_at ls i)) (outcome ls i).line
kinds ls f = by_turns ls (fitting_ordered ls f) (λ n x. Kind (sort-of ls) (sort (line_at ls n)) x.line) (λ n h g x t.
    let l : Line = line_at ls n in
    let known : (j : ℕ) → Part ls n (wants l) j → Known (sort-of ls) (outcome ls) (wants l) j = λ j p.
    let r = g j p.before in
    let k : Kind (sort-of ls) (wants l) (outcome ls j).line = subst (λ (σ : Sort). Kind (sort-of ls) σ (outcome ls j).line) p.sorted r.1 in
    record { kind = k; goes = ap (λ (y : Outcome). sort y.line) r.0.stable ∙ k.is } in
    turn-kind (sort-of ls) (outcome ls) n l x t
    (All-weaker (Part ls n (wants l)) (Known (sort-of ls) (outcome ls) (wants l)) known (parts l) (fits-parts ls n l (f n h))))

-- a line keeps its sort, whatever becomes of it
pub keeps_sort : (ls : List Line) → Fitting ls → (i : ℕ) → i < length ls → sort (outcome ls i).line ≡ sort (line_at ls i)
keeps_sort ls f i h = (kinds ls f i h).is

pub settle_form : (F : Formula) → WellFormed F → WellFormed (settle F)
settle_form F w =
    let ls : List Line = F.lines in
    let o : Ordered ls = fitting_ordered ls w.lines in
    let p = placed ls o F.root w.root.before in
    record {
      lines = λ i h.
          let g : i < length ls = omega (arith, lines-length ls) in
          let q = placed ls o i g in
          let fits : AllByRecursion (Part (lines_of ls) i (wants (outcome ls i).line)) (parts (outcome ls i).line) =
          All-weaker (λ j. (j < (outcome ls i).to) × (sort-of ls j ≡ wants (outcome ls i).line)) (Part (lines_of ls) i (wants (outcome ls i).line))
          (λ j r. record { before = omega (arith, r.0, q.near); sorted = ap sort (lines_get ls j) ∙ r.1 }) (parts (outcome ls i).line)
          (all_both (λ j. j < (outcome ls i).to) (λ j. sort-of ls j ≡ wants (outcome ls i).line) (parts (outcome ls i).line) q.below (kinds ls w.lines i g).right) in
          fits-from (lines_of ls) i (line_at (lines_of ls) i)
          (settle_lasts Acts acts_last F o (λ j k. fits_acts ls j (line_at ls j) (w.lines j k)) i h)
          (subst (λ (l : Line). AllByRecursion (Part (lines_of ls) i (wants l)) (parts l)) (sym (lines_get ls i)) fits);
      root = record {
        before = omega (arith, p.near, w.root.before, lines-length ls);
        sorted = ap sort (lines_get ls (outcome ls F.root).to) ∙ (ap (λ (x : Outcome). sort x.line) p.stable ∙ (keeps_sort ls w.lines F.root w.root.before ∙ w.root.sorted));
      };
    }

prune_form : (F : Formula) → WellFormed F → WellFormed (prune F)
prune_form F w =
    let ls : List Line = F.lines in
    let o : Ordered ls = fitting_ordered ls w.lines in
    let moved : (j : ℕ) → j < length ls → kept F j ≡ true → sort (line_at (prune F).lines (place F j)) ≡ sort (line_at ls j) =
    λ j h k. ap sort (pruned_get F j h k) ∙ renumber-sort (place F) (line_at ls j) in
    let fits : (i : ℕ) → i < length ls → kept F i ≡ true → AllByRecursion (Part (prune F).lines (place F i) (wants (renumber (place F) (line_at ls i)))) (parts (renumber (place F) (line_at ls i))) =
    λ i h k. renumber-parts (place F) (Part (prune F).lines (place F i) (wants (renumber (place F) (line_at ls i)))) (line_at ls i)
    (All-weaker (λ j. ((kept F j ≡ true) × (j < i)) × Part ls i (wants (line_at ls i)) j) (λ j. Part (prune F).lines (place F i) (wants (renumber (place F) (line_at ls i))) (place F j))
    (λ j r. record {
      before = place_lt F j i r.0.1 r.0.0;
      sorted = moved j (omega (arith, r.0.1)) r.0.0 ∙ (r.1.sorted ∙ sym (renumber-wants (place F) (line_at ls i)));
    })
    (parts (line_at ls i))
    (all_both (λ j. (kept F j ≡ true) × (j < i)) (Part ls i (wants (line_at ls i))) (parts (line_at ls i)) (kept-parts F o i h k) (fits-parts ls i (line_at ls i) (w.lines i h)))) in
    record {
      lines = λ m h.
          fits-from (prune F).lines m (line_at (prune F).lines m)
          (prune_lasts Acts acts_last F (λ j k. fits_acts ls j (line_at ls j) (w.lines j k)) m h)
          (pruned_each F (λ n l. AllByRecursion (Part (prune F).lines n (wants l)) (parts l)) fits m h);
      root = record {
        before = place-within F F.root w.root.before (kept-root F);
        sorted = moved F.root w.root.before (kept-root F) ∙ w.root.sorted;
      };
    }

pub keeps_form : KeepsFormLaw
keeps_form F w = prune_form (settle F) (settle_form F w)

-- bounds
kept-light : (p : Term → Bool) (ks : List Term) → coefficients (filter p ks) ≤ coefficients ks
kept-light p [] = omega arith
kept-light p (k ∷ ks) = go (p k) (kept-light p ks)
  where
    go : (b : Bool) → coefficients (filter p ks) ≤ coefficients ks → coefficients (cond b (k ∷ filter p ks) (filter p ks)) ≤ coefficients (k ∷ ks)
    go true h = omega (arith, sum_by-cons (λ (x : Term). x.coefficient) k (filter p ks), sum_by-cons (λ (x : Term). x.coefficient) k ks)
    go false h = omega (arith, sum_by-cons (λ (x : Term). x.coefficient) k ks)

retarget-light : (f : ℕ → ℕ) (ks : List Term) → coefficients (map (retarget f) ks) ≡ coefficients ks
retarget-light f [] = refl
retarget-light f (k ∷ ks) =
    omega (arith, sum_by-cons (λ (x : Term). x.coefficient) (retarget f k) (map (retarget f) ks), sum_by-cons (λ (x : Term). x.coefficient) k ks, retarget-light f ks)

bounds_last : (m : ℕ) → Lasting (Bounded m)
bounds_last m = record { settles = λ σ b. tt; shrinks = shrinks; moves = moves }
  where
    shrinks : (E : ℕ → Outcome) (l : Line) → Bounded m l → Bounded m (shrunk E l)
    shrinks E (constant σ b) h = tt
    shrinks E (both σ i j) h = tt
    shrinks E (non σ i) h = tt
    shrinks E (step a ms hs) h = tt
    shrinks E (sum t ks) h =
        let open-ones : List Term = filter (λ k. is_neither (tone_of E k.node)) ks in (
          All-map (λ k. 1 ≤ k.coefficient) (retarget (λ j. (E j).to)) open-ones (all_kept_by (λ k. is_neither (tone_of E k.node)) (λ k. 1 ≤ k.coefficient) ks h.0),
          omega (arith, retarget-light (λ j. (E j).to) open-ones, kept-light (λ k. is_neither (tone_of E k.node)) ks, h.1),
          omega (arith, h.2),
        )

    moves : (f : ℕ → ℕ) (l : Line) → Bounded m l → Bounded m (renumber f l)
    moves f (constant σ b) h = tt
    moves f (both σ i j) h = tt
    moves f (non σ i) h = tt
    moves f (step a ms hs) h = tt
    moves f (sum t ks) h = (All-map (λ k. 1 ≤ k.coefficient) (retarget f) ks h.0, omega (arith, retarget-light f ks, h.1), h.2)

pub keeps_bounds : KeepsBoundsLaw
keeps_bounds m F w h =
    All-from_get_or (Bounded m) (simplify F).lines (constant state true)
    (prune_lasts (Bounded m) (bounds_last m) (settle F)
    (settle_lasts (Bounded m) (bounds_last m) F (fitting_ordered F.lines w.lines) (λ i k. All-get_or (Bounded m) F.lines i (constant state true) k h)))
