-- A table that stands has all its nodes right.
use Rattle.std.proofs.Common.{◌≡◌, ℕ, zero, suc, ◌+◌, ◌-◌, ◌*◌, ◌<◌, ◌≤◌, true, ◌&&◌, ltb, leb, List, [], ◌∷◌, ◌++◌, length, get_or, sum_by, sym, ap, subst, le_of_suc-le-suc, not-suc-le-zero, add-zero, arith}
use Rattle.std.proofs.lemmas.List.{get_or-map, length-map}
use Rattle.std.proofs.lemmas.List.Sums.{sum_by-cons}
use Rattle.std.proofs.lemmas.Bool.{and_parts, leb-true, ltb-true}
use Rattle.std.specs.List.{AllByRecursion}
use Rattle.formulas.specs.declared.node.Node.{Node}
use Rattle.formulas.specs.declared.node.Node.TheVariants.{State, Dist}
use Rattle.formulas.specs.declared.node.StateNode as sn
use Rattle.formulas.specs.declared.node.DistNode as dn
use Rattle.formulas.specs.declared.node.Run.{Run}
use Rattle.formulas.specs.declared.node.Term.{Term}
use Rattle.formulas.specs.Stands.{is_state_node, is_dist_node, below_state, below_dist, all_dist, term_ok, terms_ok, sum_ok, node_ok, terms_of, alternatives_of, walk, stands}
use Rattle.formulas.specs.Lines.{state, constant, part, line, lines}
use Rattle.formulas.proofs.Fits.{StepFit, SumFit, step_of, sum_of, part_add}
use Rattle.formulas.specs.Right.{Below, Formed, Right, RightStep, RightSum, AllRight}

all_apart : {X : Type 0} (P : X → Type 0) (xs ys : List X) → AllByRecursion P (xs ++ ys) → AllByRecursion P xs × AllByRecursion P ys
all_apart P [] ys h = (tt, h)
all_apart P (x ∷ xs) ys h = let r = all_apart P xs ys h.1 in ((h.0, r.0), r.1)

module _ (ns : List Node) (i : ℕ) where
  state-below : (j : ℕ) → below_state ns i j ≡ true → j < i
  state-below j h = ltb-true j i (and_parts (ltb j i) (is_state_node ns j) h).0

  dist-below : (j : ℕ) → below_dist ns i j ≡ true → j < i
  dist-below j h = ltb-true j i (and_parts (ltb j i) (is_dist_node ns j) h).0

  all-below : (ds : List ℕ) → all_dist ns i ds ≡ true → AllByRecursion (λ d. d < i) ds
  all-below [] h = tt
  all-below (d ∷ ds) h = let p = and_parts (below_dist ns i d) (all_dist ns i ds) h in (dist-below d p.0, all-below ds p.1)

  terms-below : (left : ℕ) (ts : List Term) → terms_ok ns i left ts ≡ true → AllByRecursion (λ t. t.node < i) ts × (sum_by (λ t. t.coefficient) ts ≤ left)
  terms-below left [] h = (tt, omega arith)
  terms-below left (t ∷ ts) h =
      let p = and_parts (term_ok ns i left t) (terms_ok ns i (left - t.coefficient) ts) h in
      let q = and_parts (leb 1 t.coefficient) (leb t.coefficient left && below_state ns i t.node) p.0 in
      let r = and_parts (leb t.coefficient left) (below_state ns i t.node) q.1 in
      let rest = terms-below (left - t.coefficient) ts p.1 in
      let fit = leb-true t.coefficient left r.0 in
      ((state-below t.node r.1, rest.0), omega (arith, sum_by-cons (λ u. u.coefficient) t ts, rest.1))

module _ (ns : List Node) (ts : List Term) (alts : List ℕ) (m i : ℕ) where
  step_right : (a : ℕ) (mv h : Run) → StepFit ns alts i a mv h → RightStep alts i mv h
  step_right a mv h fit =
      let Low : List ℕ → Type 0 = AllByRecursion (λ d. d < i) in
      let all = all_apart (λ d. d < i) (part alts a mv.count) (part alts (a + mv.count) h.count) (subst Low (part_add alts a mv.count h.count) (all-below ns i (part alts a (mv.count + h.count)) fit.parts)) in
      let e = fit.moves.first in
      let g = fit.heres.first in
      let within = fit.heres.within in
      record {
        moves_within = omega arith;
        here_within = omega arith;
        moves_below = subst Low (ap (λ f. part alts f mv.count) (sym e)) all.0;
        here_below = subst Low (ap (λ f. part alts f h.count) (sym g)) all.1;
      }

  sum-right : (t least : ℕ) (r : Run) → leb least (1000 * m) ≡ true → SumFit ns ts m i t r → RightSum ts m i least r
  sum-right t least r low fit =
      let e = fit.terms.first in
      let end = fit.terms.within in
      let all = terms-below ns i (1000 * m) (part ts t r.count) fit.parts in
      let Low : ℕ → Type 0 = λ f. AllByRecursion (λ t. t.node < i) (part ts f r.count) in
      let Light : ℕ → Type 0 = λ f. sum_by (λ t. t.coefficient) (part ts f r.count) ≤ 1000 * m in
      record {
        within = omega arith;
        low = leb-true least (1000 * m) low;
        below = subst Low (sym e) all.0;
        light = subst Light (sym e) all.1;
      }

  node-right : (t a : ℕ) (n : Node) → node_ok ns ts alts m i t a n ≡ true → Right ts alts m i n
  node-right t a (State sn.TheVariants.Yes) h = tt
  node-right t a (State sn.TheVariants.No) h = tt
  node-right t a (State (sn.TheVariants.And j k)) h = let p = and_parts (below_state ns i j) (below_state ns i k) h in (state-below ns i j p.0, state-below ns i k p.1)
  node-right t a (State (sn.TheVariants.Not j)) h = state-below ns i j h
  node-right t a (State (sn.TheVariants.Step act mv g)) h = step_right a mv g (step_of ns ts alts m i t a act mv g h)
  node-right t a (Dist dn.TheVariants.Yes) h = tt
  node-right t a (Dist dn.TheVariants.No) h = tt
  node-right t a (Dist (dn.TheVariants.And j k)) h = let p = and_parts (below_dist ns i j) (below_dist ns i k) h in (dist-below ns i j p.0, dist-below ns i k p.1)
  node-right t a (Dist (dn.TheVariants.Not j)) h = dist-below ns i j h
  node-right t a (Dist (dn.TheVariants.Sum least r)) h = sum-right t least r (and_parts (leb least (1000 * m)) (sum_ok ns ts m i t r) h).0 (sum_of ns ts alts m i t a least r h)

module _ (ns : List Node) (ts : List Term) (alts : List ℕ) (m : ℕ) where
  walk-right : (i t a : ℕ) (rest : List Node) → walk ns ts alts m i t a rest ≡ true → (k : ℕ) (d : Node) → k < length rest → Right ts alts m (i + k) (get_or rest k d)
  walk-right i t a [] h k d l = absurd (not-suc-le-zero l)
  walk-right i t a (n ∷ rest) h zero d l =
      let p = and_parts (node_ok ns ts alts m i t a n) (walk ns ts alts m (i + 1) (t + terms_of n) (a + alternatives_of n) rest) h in
      let R : ℕ → Type 0 = λ j. Right ts alts m j n in
      subst R (sym (add-zero i)) (node-right ns ts alts m i t a n p.0)
  walk-right i t a (n ∷ rest) h (suc k) d l =
      let p = and_parts (node_ok ns ts alts m i t a n) (walk ns ts alts m (i + 1) (t + terms_of n) (a + alternatives_of n) rest) h in
      let R : ℕ → Type 0 = λ j. Right ts alts m j (get_or rest k d) in
      let e : i + 1 + k ≡ i + suc k = omega arith in
      subst R e (walk-right (i + 1) (t + terms_of n) (a + alternatives_of n) rest p.1 k d (le_of_suc-le-suc l))

  pub stands-right : (root : ℕ) → stands ns ts alts root m ≡ true → AllRight ns ts alts m
  stands-right root h i d l =
      let R : ℕ → Type 0 = λ j. Right ts alts m j (get_or ns i d) in
      let e : 0 + i ≡ i = omega arith in
      subst R e (walk-right 0 0 0 ns (and_parts (walk ns ts alts m 0 0 0 ns) (is_state_node ns root) h).0 i d l)

pub right-below : (ts : List Term) (alts : List ℕ) (m i : ℕ) (n : Node) → Right ts alts m i n → Below i (line ts alts n)
right-below ts alts m i (State sn.TheVariants.Yes) r = tt
right-below ts alts m i (State sn.TheVariants.No) r = tt
right-below ts alts m i (State (sn.TheVariants.And j k)) r = r
right-below ts alts m i (State (sn.TheVariants.Not j)) r = r
right-below ts alts m i (State (sn.TheVariants.Step a mv h)) r = (r.moves_below, r.here_below)
right-below ts alts m i (Dist dn.TheVariants.Yes) r = tt
right-below ts alts m i (Dist dn.TheVariants.No) r = tt
right-below ts alts m i (Dist (dn.TheVariants.And j k)) r = r
right-below ts alts m i (Dist (dn.TheVariants.Not j)) r = r
right-below ts alts m i (Dist (dn.TheVariants.Sum least x)) r = r.below

pub right-formed : (ns : List Node) (ts : List Term) (alts : List ℕ) (m : ℕ) → AllRight ns ts alts m → Formed (lines ns ts alts)
right-formed ns ts alts m all i l =
    let d = State sn.TheVariants.No in
    let h : i < length ns = omega (arith, length-map ns (line ts alts)) in
    subst (Below i) (sym (get_or-map (line ts alts) ns i d (constant state true) h)) (right-below ts alts m i (get_or ns i d) (all i d h))
