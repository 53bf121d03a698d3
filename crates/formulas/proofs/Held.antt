-- Tables that hold a formula: it is well-formed, and its sums keep to their bounds.
use Rattle.std.proofs.Common.{◌≡◌, ℕ, zero, suc, ◌+◌, ◌-◌, ◌*◌, ◌<◌, ◌≤◌, true, false, ◌&&◌, eqb, ltb, leb, ◌⊎◌, List, [], ◌∷◌, ◌++◌, length, get_or, take, drop, sum_by, sym, refl, ap, ◌∙◌, subst, inl, inr, le_of_suc-le-suc, not-suc-le-zero, arith, take-add}
use Rattle.std.specs.List.{AllByRecursion}
use Rattle.std.proofs.lemmas.List.{get_or-map, get_or_past, length-map, drop-drop}
use Rattle.std.proofs.ByRecursion.{All-from_get_or}
use Rattle.std.proofs.lemmas.List.Sums.{sum_by-cons}
use Rattle.std.proofs.lemmas.Bool.{and_parts, not-true, both_ways, ltb-true, leb-true, eqb-true, cases_lt}
use Rattle.formulas.specs.declared.node.Node.{Node}
use Rattle.formulas.specs.declared.node.Node.TheVariants.{State, Dist}
use Rattle.formulas.specs.declared.node.StateNode as sn
use Rattle.formulas.specs.declared.node.DistNode as dn
use Rattle.formulas.specs.declared.node.Run.{Run}
use Rattle.formulas.specs.declared.node.Term.{Term}
use Rattle.formulas.specs.Lines.{state, dist, Line, constant, sort, part, entries, line, lines}
use Rattle.formulas.specs.Stands.{state_sort, no_dist, no_state, is_state_node, is_dist_node, below_state, below_dist, run_ok, all_dist, term_ok, terms_ok, step_ok, sum_ok, node_ok, terms_of, alternatives_of, walk}
use Rattle.formulas.specs.Laws.{HeldLaw}
use Rattle.formulas.specs.WellFormed.{line_at, Part, Fits, Bounded}

all_apart : {X : Type 0} (P : X → Type 0) (xs ys : List X) → AllByRecursion P (xs ++ ys) → AllByRecursion P xs × AllByRecursion P ys
all_apart P [] ys h = (tt, h)
all_apart P (x ∷ xs) ys h = let r = all_apart P xs ys h.1 in ((h.0, r.0), r.1)

-- two runs, one behind the other
part_add : {X : Type 0} (xs : List X) (p m n : ℕ) → part xs p (m + n) ≡ part xs p m ++ part xs (p + m) n
part_add xs p m n = take-add m n (drop p xs) ∙ ap (λ ys. part xs p m ++ take n ys) (drop-drop m p xs)

run-first : (len p : ℕ) (r : Run) → run_ok len p r ≡ true → p ≡ r.first
run-first len p r ok = sym (eqb-true r.first p (and_parts (eqb r.first p) (leb (p + r.count) len) ok).0)

module _ (ns : List Node) (ts : List Term) (alts : List ℕ) where
  state-sort : (n : Node) → state_sort n ≡ true → sort (line ts alts n) ≡ state
  state-sort (State sn.TheVariants.Yes) e = refl
  state-sort (State sn.TheVariants.No) e = refl
  state-sort (State (sn.TheVariants.And i j)) e = refl
  state-sort (State (sn.TheVariants.Not i)) e = refl
  state-sort (State (sn.TheVariants.Step a ms hs)) e = refl
  state-sort (Dist x) e = absurd (both_ways false refl e)

  dist-sort : (n : Node) → state_sort n ≡ false → sort (line ts alts n) ≡ dist
  dist-sort (State x) e = absurd (both_ways true e refl)
  dist-sort (Dist dn.TheVariants.Yes) e = refl
  dist-sort (Dist dn.TheVariants.No) e = refl
  dist-sort (Dist (dn.TheVariants.And i j)) e = refl
  dist-sort (Dist (dn.TheVariants.Not i)) e = refl
  dist-sort (Dist (dn.TheVariants.Sum t r)) e = refl

  line_of : (j : ℕ) (d : Node) → j < length ns → line_at (lines ns ts alts) j ≡ line ts alts (get_or ns j d)
  line_of j d h = get_or-map (line ts alts) ns j d (constant state true) h

  -- the root is there, since what is not there is of no sort
  root_is : (j : ℕ) → is_state_node ns j ≡ true → Part (lines ns ts alts) (length (lines ns ts alts)) state j
  root_is j e = go (cases_lt j (length ns))
    where
      go : (j < length ns) ⊎ (length ns ≤ j) → Part (lines ns ts alts) (length (lines ns ts alts)) state j
      go (inl h) = record { before = omega (arith, length-map ns (line ts alts)); sorted = ap sort (line_of j no_dist h) ∙ state-sort (get_or ns j no_dist) e }
      go (inr h) = absurd (both_ways (is_state_node ns j) (ap state_sort (get_or_past ns j no_dist h)) e)

  module _ (m i : ℕ) (h : i ≤ length ns) where
    state-part : (j : ℕ) → below_state ns i j ≡ true → Part (lines ns ts alts) i state j
    state-part j e =
        let p = and_parts (ltb j i) (is_state_node ns j) e in
        let l = ltb-true j i p.0 in
        record { before = l; sorted = ap sort (line_of j no_dist (omega arith)) ∙ state-sort (get_or ns j no_dist) p.1 }

    dist-part : (j : ℕ) → below_dist ns i j ≡ true → Part (lines ns ts alts) i dist j
    dist-part j e =
        let p = and_parts (ltb j i) (is_dist_node ns j) e in
        let l = ltb-true j i p.0 in
        record { before = l; sorted = ap sort (line_of j no_state (omega arith)) ∙ dist-sort (get_or ns j no_state) (not-true (state_sort (get_or ns j no_state)) p.1) }

    dist_parts : (ds : List ℕ) → all_dist ns i ds ≡ true → AllByRecursion (Part (lines ns ts alts) i dist) ds
    dist_parts [] e = tt
    dist_parts (d ∷ ds) e = let p = and_parts (below_dist ns i d) (all_dist ns i ds) e in (dist-part d p.0, dist_parts ds p.1)

    terms-right : (left : ℕ) (ks : List Term) → terms_ok ns i left ks ≡ true
        → AllByRecursion (λ k. Part (lines ns ts alts) i state k.node) ks × AllByRecursion (λ k. 1 ≤ k.coefficient) ks × (sum_by (λ k. k.coefficient) ks ≤ left)
    terms-right left [] e = (tt, tt, omega arith)
    terms-right left (k ∷ ks) e =
        let p = and_parts (term_ok ns i left k) (terms_ok ns i (left - k.coefficient) ks) e in
        let q = and_parts (leb 1 k.coefficient) (leb k.coefficient left && below_state ns i k.node) p.0 in
        let r = and_parts (leb k.coefficient left) (below_state ns i k.node) q.1 in
        let rest = terms-right (left - k.coefficient) ks p.1 in
        let fit = leb-true k.coefficient left r.0 in
        ((state-part k.node r.1, rest.0), (leb-true 1 k.coefficient q.0, rest.1), omega (arith, sum_by-cons (λ u. u.coefficient) k ks, rest.2))

    abbrev Right : Line → Type 0
    Right l = Fits (lines ns ts alts) i l × Bounded m l

    step_right : (a act : ℕ) (mv h : Run) → leb act 31 ≡ true → step_ok ns alts i a mv h ≡ true → Right (line ts alts (State (sn.TheVariants.Step act mv h)))
    step_right a act mv g low e =
        let p = and_parts (run_ok (length alts) a mv) (run_ok (length alts) (a + mv.count) g && all_dist ns i (part alts a (mv.count + g.count))) e in
        let q = and_parts (run_ok (length alts) (a + mv.count) g) (all_dist ns i (part alts a (mv.count + g.count))) p.1 in
        let Dists : List ℕ → Type 0 = AllByRecursion (Part (lines ns ts alts) i dist) in
        let both = all_apart (Part (lines ns ts alts) i dist) (part alts a mv.count) (part alts (a + mv.count) g.count) (subst Dists (part_add alts a mv.count g.count) (dist_parts (part alts a (mv.count + g.count)) q.1)) in
        let low' = leb-true act 31 low in
        (((omega arith), subst (λ f. Dists (part alts f mv.count)) (run-first _ a mv p.0) both.0, subst (λ f. Dists (part alts f g.count)) (run-first _ (a + mv.count) g q.0) both.1), tt)

    sum-right : (t least : ℕ) (r : Run) → leb least (1000 * m) ≡ true → sum_ok ns ts m i t r ≡ true → Right (line ts alts (Dist (dn.TheVariants.Sum least r)))
    sum-right t least r low e =
        let p = and_parts (run_ok (length ts) t r) (terms_ok ns i (1000 * m) (part ts t r.count)) e in
        let all = terms-right (1000 * m) (entries ts r) (ap (λ f. terms_ok ns i (1000 * m) (part ts f r.count)) (sym (run-first _ t r p.0)) ∙ p.1) in
        (all.0, (all.1, all.2, leb-true least (1000 * m) low))

    node-right : (t a : ℕ) (n : Node) → node_ok ns ts alts m i t a n ≡ true → Right (line ts alts n)
    node-right t a (State sn.TheVariants.Yes) e = (tt, tt)
    node-right t a (State sn.TheVariants.No) e = (tt, tt)
    node-right t a (State (sn.TheVariants.And j k)) e = let p = and_parts (below_state ns i j) (below_state ns i k) e in ((state-part j p.0, state-part k p.1), tt)
    node-right t a (State (sn.TheVariants.Not j)) e = (state-part j e, tt)
    node-right t a (State (sn.TheVariants.Step act mv g)) e = let p = and_parts (leb act 31) (step_ok ns alts i a mv g) e in step_right a act mv g p.0 p.1
    node-right t a (Dist dn.TheVariants.Yes) e = (tt, tt)
    node-right t a (Dist dn.TheVariants.No) e = (tt, tt)
    node-right t a (Dist (dn.TheVariants.And j k)) e = let p = and_parts (below_dist ns i j) (below_dist ns i k) e in ((dist-part j p.0, dist-part k p.1), tt)
    node-right t a (Dist (dn.TheVariants.Not j)) e = (dist-part j e, tt)
    node-right t a (Dist (dn.TheVariants.Sum least r)) e = let p = and_parts (leb least (1000 * m)) (sum_ok ns ts m i t r) e in sum-right t least r p.0 p.1

  module _ (m : ℕ) where
    walk-right : (i t a : ℕ) (rest : List Node) → i + length rest ≤ length ns → walk ns ts alts m i t a rest ≡ true
        → (k : ℕ) → k < length rest → (n : ℕ) → n ≡ i + k → Fits (lines ns ts alts) n (line_at (lines rest ts alts) k) × Bounded m (line_at (lines rest ts alts) k)
    walk-right i t a [] l e k h n same = absurd (not-suc-le-zero h)
    walk-right i t a (x ∷ rest) l e zero h n same =
        let p = and_parts (node_ok ns ts alts m i t a x) (walk ns ts alts m (i + 1) (t + terms_of x) (a + alternatives_of x) rest) e in
        subst (λ (j : ℕ). Fits (lines ns ts alts) j (line ts alts x) × Bounded m (line ts alts x)) (omega arith) (node-right m i (omega arith) t a x p.0)
    walk-right i t a (x ∷ rest) l e (suc k) h n same =
        let p = and_parts (node_ok ns ts alts m i t a x) (walk ns ts alts m (i + 1) (t + terms_of x) (a + alternatives_of x) rest) e in
        walk-right (i + 1) (t + terms_of x) (a + alternatives_of x) rest (omega arith) p.1 k (le_of_suc-le-suc h) n (omega arith)

pub held-law : HeldLaw
held-law ns ts alts root m e =
    let p = and_parts (walk ns ts alts m 0 0 0 ns) (is_state_node ns root) e in
    let long : length (lines ns ts alts) ≡ length ns = length-map ns (line ts alts) in
    let right = λ (i : ℕ) (h : i < length (lines ns ts alts)). walk-right ns ts alts m 0 0 0 ns (omega arith) p.0 i (omega arith) i (omega arith) in (
      record { lines = λ i h. (right i h).0; root = root_is ns ts alts root p.1 },
      All-from_get_or (Bounded m) (lines ns ts alts) (constant state true) (λ i h. (right i h).1),
    )
