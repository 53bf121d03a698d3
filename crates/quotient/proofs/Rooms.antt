-- Whether the second tables have room for a quotient, by what is counted.
use Rattle.std.proofs.Common.{refl, ◌≡◌, ℕ, ◌*◌, ◌<◌, ◌≤◌, Bool, true, false, cond, not, ◌&&◌, ◌||◌, ltb, leb, List, length, Ok, Err, sum_by, Result, sym, ap, ◌∙◌, ⊎_elim, arith}
use Rattle.std.proofs.lemmas.List.{length-map}
use Rattle.std.proofs.lemmas.Bool.{cases_lt, and_from, and_left, and_right, cond-true, cond-false, lt-leb}
use Rattle.systems.specs.declared.actions.ActionSet.{ActionSet}
use Rattle.systems.specs.Actions.{has}
use Rattle.systems.specs.Meaning.{Meaning}
use Rattle.formulas.specs.declared.node.Fills.{Fills}
use Rattle.formulas.specs.declared.refusal.Refusal.{Refusal}
use Rattle.formulas.specs.declared.refusal.Refusal.TheVariants.{NoFormula, Large, Heavy, Short}
use Rattle.formulas.specs.declared.tables.Standing.{Standing}
use Rattle.formulas.specs.declared.tables.Tables.{Tables}
use Rattle.formulas.specs.Laws.{LayoutLaw}
use Rattle.formulas.specs.Layout.{fills, term_table, alternative_table}
use Rattle.formulas.specs.Lines.{Line, Formula, line, lines}
use Rattle.formulas.specs.Tables.{Slots, contents, takes, fits, stands_in, standing, Front}
use Rattle.quotient.specs.Divisions.{room_for, removable, remainder, placed, divided, whole_remainder, Dividable}
use Rattle.quotient.specs.Plans.{width_before, topped, all_targets, alternative_need}
use Rattle.quotient.specs.Quotient.{rows}
use Rattle.quotient.proofs.Laying.{room as fitting}
use Rattle.quotient.proofs.Sizes.{no-fewer, nodes_needed, terms_needed, alternatives_needed}

-- a need that is too great has no room
takes-not : (size need : ℕ) → 1048576 < need → takes size need ≡ false
takes-not size need h = and_right (leb need size) (leb need 1048576) (lt-leb need 1048576 h)

-- a count that has come to its end tells as much, and one with room has not come to it
takes-topped : (size need n : ℕ) → n ≡ topped need → takes size need ≡ takes size n
takes-topped size need n e =
    ⊎_elim
    (λ l. takes-not size need (omega arith) ∙ sym (takes-not size n (grind arith)))
    (λ l. let same : need ≡ n = grind arith in ap (takes size) same)
    (cases_lt 18446744073709551615 need)

exact : (size need n : ℕ) → n ≡ topped need → takes size n ≡ true → n ≡ need
exact size need n e f = let few = (fitting size n f).1 in grind arith

-- what an answer of room tells
taken : (b : Bool) (n m : ℕ) → ◌≡◌ {A = Result ℕ Refusal} (Ok m) (cond b (Ok n) (Err Short)) → (m ≡ n) × (b ≡ true)
taken true n m h = (cc, refl)
taken false n m h = (cc, cc)

short : (b : Bool) (n : ℕ) (e : Refusal) → ◌≡◌ {A = Result ℕ Refusal} (Err e) (cond b (Ok n) (Err Short)) → (e ≡ Short) × (b ≡ false)
short true n e h = (cc, cc)
short false n e h = (cc, refl)

pub small : (size need n : ℕ) → Ok n ≡ room_for size need → (n ≡ need) × (n ≤ 1048576)
small size need n h =
    let t = taken (takes size need) need n h in
    let few = (fitting size need t.1).1 in
    (t.0, omega (arith, t.0, few))

-- what is answered with room and without
module _ (F : Formula) (second : Slots) where
  abbrev node-room : Bool
  node-room = takes (length second.nodes) (length F.lines)

  abbrev term-room : Bool
  term-room = takes (length second.terms) (length (term_table F.lines))

  abbrev alternative-room : Bool
  alternative-room = takes (length second.alternatives) (length (alternative_table F.lines))

  refused : (e : Refusal) → e ≡ Short → fits (fills F.lines) second ≡ false → ◌≡◌ {A = Result Standing Refusal} (Err e) (placed F second)
  refused e s f = let none = cond-false (fits (fills F.lines) second) (Ok (standing F)) (Err Short) f in cc

  pub too-many-nodes : node-room ≡ false → ◌≡◌ {A = Result Standing Refusal} (Err Short) (placed F second)
  too-many-nodes f = refused Short refl (and_left node-room (term-room && alternative-room) f)

  pub short-nodes : (n : ℕ) (e : Refusal) → n ≡ length F.lines → Err e ≡ room_for (length second.nodes) n → ◌≡◌ {A = Result Standing Refusal} (Err e) (placed F second)
  short-nodes n e en h =
      let s = short (takes (length second.nodes) n) n e h in
      refused e s.0 (and_left node-room (term-room && alternative-room) (ap (takes (length second.nodes)) (sym en) ∙ s.1))

  pub short-terms : (n : ℕ) (e : Refusal) → n ≡ topped (length (term_table F.lines)) → Err e ≡ room_for (length second.terms) n → ◌≡◌ {A = Result Standing Refusal} (Err e) (placed F second)
  short-terms n e en h =
      let s = short (takes (length second.terms) n) n e h in
      refused e s.0 (and_right node-room (term-room && alternative-room) (and_left term-room alternative-room (takes-topped _ _ n en ∙ s.1)))

  pub short-alternatives : (n : ℕ) (e : Refusal) → n ≡ topped (length (alternative_table F.lines)) → Err e ≡ room_for (length second.alternatives) n → ◌≡◌ {A = Result Standing Refusal} (Err e) (placed F second)
  short-alternatives n e en h =
      let s = short (takes (length second.alternatives) n) n e h in
      refused e s.0 (and_right node-room (term-room && alternative-room) (and_right term-room alternative-room (takes-topped _ _ n en ∙ s.1)))

  module _ (n t a x y z : ℕ) (en : n ≡ length F.lines) (et : t ≡ topped (length (term_table F.lines))) (ea : a ≡ topped (length (alternative_table F.lines)))
      (rn : Ok x ≡ room_for (length second.nodes) n) (rt : Ok y ≡ room_for (length second.terms) t) (ra : Ok z ≡ room_for (length second.alternatives) a) where
    pub all_fit : fits (fills F.lines) second ≡ true
    all_fit =
        let nodes = (taken (takes (length second.nodes) n) n x rn).1 in
        let terms = (taken (takes (length second.terms) t) t y rt).1 in
        let alternatives = (taken (takes (length second.alternatives) a) a z ra).1 in
        and_from node-room (term-room && alternative-room) (ap (takes (length second.nodes)) (sym en) ∙ nodes)
        (and_from term-room alternative-room (takes-topped _ _ t et ∙ terms) (takes-topped _ _ a ea ∙ alternatives))

    pub found : (root : ℕ) → root ≡ F.root → ◌≡◌ {A = Result Standing Refusal} (Ok (record { fills = record { nodes = x; terms = y; alternatives = z }; root = root })) (placed F second)
    found root er =
        let nodes = (taken (takes (length second.nodes) n) n x rn).0 in
        let terms = taken (takes (length second.terms) t) t y rt in
        let alternatives = taken (takes (length second.alternatives) a) a z ra in
        let et' = exact (length second.terms) _ t et terms.1 in
        let ea' = exact (length second.alternatives) _ a ea alternatives.1 in
        let tn = terms.0 in
        let an = alternatives.0 in
        let same : ◌≡◌ {A = Result Standing Refusal} (Ok (record { fills = record { nodes = x; terms = y; alternatives = z }; root = root })) (Ok (standing F)) = cc in
        same ∙ sym (cond-true (fits (fills F.lines) second) (Ok (standing F)) (Err Short) all_fit)

-- what the quotient of the formula in the tables t takes
module _ (A : ActionSet) (R : Meaning) (t : Tables) (root : ℕ) (d : Dividable R t root) where
  abbrev ls : List Line
  ls = lines t.nodes.now t.terms.now t.alternatives.now

  abbrev Q : List Line
  Q = (whole_remainder A R t root).lines

  pub too_many : 1 ≤ R.states → (size : ℕ) → 1048576 < length t.nodes.now → takes size (length Q) ≡ false
  too_many some size h = takes-not size (length Q) (omega (arith, no-fewer (has A) R some ls, length-map t.nodes.now (line t.terms.now t.alternatives.now)))

  pub node-count : (n r : ℕ) → n ≡ R.states → r ≡ length (rows R) → (count : ℕ) → count ≡ width_before n r t.nodes.now (length t.nodes.now) → count ≡ length Q
  node-count n r en er count e = e ∙ sym (nodes_needed (has A) R n r en er t.nodes.now t.terms.now t.alternatives.now)

  pub term_count : LayoutLaw → (count : ℕ) → count ≡ topped (length t.terms.now * all_targets R) → count ≡ topped (length (term_table Q))
  term_count layout count e =
      let same = (layout t.nodes.now t.terms.now t.alternatives.now root d.removed d.held).1 in
      e ∙ ap (λ l. topped (length l * all_targets R)) (sym same) ∙ ap topped (sym (terms_needed (has A) R ls))

  pub alternative-count : (count : ℕ) → count ≡ topped (sum_by (alternative_need (has A) R) t.nodes.now) → count ≡ topped (length (alternative_table Q))
  alternative-count count e = e ∙ ap topped (sym (alternatives_needed (has A) R t.nodes.now t.terms.now t.alternatives.now d.removed d.right))

-- what an answer of removable tells
module _ (m : ℕ) (R : Meaning) where
  abbrev large : Bool
  large = ltb 4096 R.states || ltb 4096 R.breadth

  abbrev heavy : Bool
  heavy = ltb 1000000000000000 (m * R.mass)

  is_removable : (l h : Bool) → ◌≡◌ {A = Result (Unit {0}) Refusal} (Ok tt) (cond l (Err Large) (cond h (Err Heavy) (Ok tt))) → (l ≡ false) × (h ≡ false)
  is_removable true h e = (cc, cc)
  is_removable false true e = (cc, cc)
  is_removable false false e = (refl, refl)

-- what the tests tell, where u is what is used of the tables t
module _ (R : Meaning) (f : Fills) (root m : ℕ) (t u : Tables) (front : Front f t u) (held : stands_in f root m (contents t) ≡ true) (ok : Ok tt ≡ removable m R) where
  module _ (A : ActionSet) where
    pub remainder_is : whole_remainder A R u root ≡ remainder A R f root (contents t)
    remainder_is = let en = front.nodes in let et = front.terms in let ea = front.alternatives in cc

    pub passed : (second : Slots) → placed (whole_remainder A R u root) second ≡ divided A R f root m (contents t) second
    passed second =
        let tests = is_removable m R (large m R) (heavy m R) ok in
        ap (λ F. placed F second) remainder_is
        ∙ sym (cond-false (not (stands_in f root m (contents t))) (Err NoFormula) _ (ap not held) ∙ cond-false (large m R) (Err Large) _ tests.0 ∙ cond-false (heavy m R) (Err Heavy) _ tests.1)
