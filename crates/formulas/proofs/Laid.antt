-- The tables of a well-formed formula whose sums keep to their bounds hold it.
use Rattle.std.proofs.Common.{◌≡◌, ℕ, zero, suc, ◌+◌, ◌-◌, ◌*◌, ◌<◌, ◌≤◌, true, false, not, ◌&&◌, eqb, ltb, leb, List, [], ◌∷◌, ◌++◌, length, get_or, take, drop, sum_by, sym, refl, ap, ◌∙◌, subst, ap₂, le_of_suc-le-suc, not-suc-le-zero, add-zero, arith}
use Rattle.std.specs.List.{AllByRecursion}
use Rattle.std.proofs.lemmas.List.{length-append, drop-drop, take_at, drop_at}
use Rattle.std.proofs.ByRecursion.{All-append}
use Rattle.std.proofs.lemmas.List.Sums.{sum_by-cons}
use Rattle.std.proofs.lemmas.Bool.{and_from, lt-ltb, le-leb, eq-eqb}
use Rattle.formulas.specs.declared.node.Node.{Node}
use Rattle.formulas.specs.declared.node.Term.{Term}
use Rattle.formulas.specs.Lines.{state, dist, is_state, Line, constant, both, non, step, sum, sort, part}
use Rattle.formulas.specs.Layout.{run, terms_in, alternatives_in, node, node_table, term_table, alternative_table}
use Rattle.formulas.specs.Stands.{state_sort, no_dist, no_state, is_state_node, is_dist_node, below_state, below_dist, run_ok, all_dist, term_ok, terms_ok, step_ok, sum_ok, node_ok, terms_of, alternatives_of, walk}
use Rattle.formulas.specs.Laws.{LaidLaw}
use Rattle.formulas.specs.WellFormed.{line_at, Part, Fits, Bounded}

-- the node of a line has its sort, and as many terms and alternatives
node-is : (t a : ℕ) (l : Line) → (state_sort (node t a l) ≡ is_state (sort l)) × (terms_of (node t a l) ≡ length (terms_in l)) × (alternatives_of (node t a l) ≡ length (alternatives_in l))
node-is t a (constant state true) = (refl, refl, refl)
node-is t a (constant state false) = (refl, refl, refl)
node-is t a (constant dist true) = (refl, refl, refl)
node-is t a (constant dist false) = (refl, refl, refl)
node-is t a (both state i j) = (refl, refl, refl)
node-is t a (both dist i j) = (refl, refl, refl)
node-is t a (non state i) = (refl, refl, refl)
node-is t a (non dist i) = (refl, refl, refl)
node-is t a (step x ms hs) = (refl, refl, sym (length-append ms hs))
node-is t a (sum x ks) = (refl, refl, refl)

table-sort : (t a : ℕ) (ls : List Line) (j : ℕ) (d : Node) → j < length ls → state_sort (get_or (node_table t a ls) j d) ≡ is_state (sort (line_at ls j))
table-sort t a [] j d h = absurd (not-suc-le-zero h)
table-sort t a (l ∷ ls) zero d h = (node-is t a l).0
table-sort t a (l ∷ ls) (suc j) d h = table-sort (t + length (terms_in l)) (a + length (alternatives_in l)) ls j d (le_of_suc-le-suc h)

run-stands : (len p n : ℕ) → p + n ≤ len → run_ok len p (run p n) ≡ true
run-stands len p n h = and_from (eqb p p) (leb (p + n) len) (eq-eqb p p refl) (le-leb (p + n) len h)

-- the table goes on with xs from the place p on
record Onward {X : Type 0} (table : List X) (p : ℕ) (xs : List X) : Type 0 where
  rest : drop p table ≡ xs
  size : p + length xs ≡ length table

module _ {X : Type 0} (table : List X) (p : ℕ) (xs ys : List X) (on : Onward table p (xs ++ ys)) where
  part-here : (n : ℕ) → n ≡ length xs → part table p n ≡ xs
  part-here n e = ap (take n) on.rest ∙ take_at xs ys n (sym e)

  part-fits : p + length xs ≤ length table
  part-fits = omega (arith, on.size, length-append xs ys)

  part-next : (n : ℕ) → n ≡ length xs → Onward table (p + n) ys
  part-next n e = record {
    rest = sym (drop-drop n p table) ∙ ap (drop n) on.rest ∙ drop_at xs ys n (sym e);
    size = omega (arith, on.size, length-append xs ys);
  }

module _ (ls : List Line) where
  ns : List Node
  ns = node_table 0 0 ls

  module _ (i : ℕ) (h : i ≤ length ls) where
    state-below : (j : ℕ) → Part ls i state j → below_state ns i j ≡ true
    unfolding ns
    state-below j part =
        let l = part.before in
        and_from (ltb j i) (is_state_node ns j) (lt-ltb j i l) (table-sort 0 0 ls j no_dist (omega arith) ∙ ap is_state part.sorted)

    dist-below : (j : ℕ) → Part ls i dist j → below_dist ns i j ≡ true
    unfolding ns
    dist-below j part =
        let l = part.before in
        and_from (ltb j i) (is_dist_node ns j) (lt-ltb j i l) (ap not (table-sort 0 0 ls j no_state (omega arith) ∙ ap is_state part.sorted))

    dists_below : (ds : List ℕ) → AllByRecursion (Part ls i dist) ds → all_dist ns i ds ≡ true
    dists_below [] ps = refl
    dists_below (d ∷ ds) ps = and_from (below_dist ns i d) (all_dist ns i ds) (dist-below d ps.0) (dists_below ds ps.1)

    terms-stand : (left : ℕ) (ks : List Term) → AllByRecursion (λ k. Part ls i state k.node) ks → AllByRecursion (λ k. 1 ≤ k.coefficient) ks → sum_by (λ k. k.coefficient) ks ≤ left → terms_ok ns i left ks ≡ true
    terms-stand left [] ps cs l = refl
    terms-stand left (k ∷ ks) ps cs l =
        let e = sum_by-cons (λ u. u.coefficient) k ks in
        and_from (term_ok ns i left k) (terms_ok ns i (left - k.coefficient) ks)
        (and_from (leb 1 k.coefficient) (leb k.coefficient left && below_state ns i k.node) (le-leb 1 k.coefficient cs.0)
        (and_from (leb k.coefficient left) (below_state ns i k.node) (le-leb k.coefficient left (omega arith)) (state-below k.node ps.0)))
        (terms-stand (left - k.coefficient) ks ps.1 cs.1 (omega arith))

    node-stands : (ts : List Term) (alts : List ℕ) (m t a : ℕ) (l : Line) (us : List Term) (bs : List ℕ) → Onward ts t (terms_in l ++ us) → Onward alts a (alternatives_in l ++ bs)
        → Fits ls i l → Bounded m l → node_ok ns ts alts m i t a (node t a l) ≡ true
    node-stands ts alts m t a (constant state true) us bs ot oa f b = refl
    node-stands ts alts m t a (constant state false) us bs ot oa f b = refl
    node-stands ts alts m t a (constant dist true) us bs ot oa f b = refl
    node-stands ts alts m t a (constant dist false) us bs ot oa f b = refl
    node-stands ts alts m t a (both state j k) us bs ot oa f b = and_from (below_state ns i j) (below_state ns i k) (state-below j f.0) (state-below k f.1)
    node-stands ts alts m t a (both dist j k) us bs ot oa f b = and_from (below_dist ns i j) (below_dist ns i k) (dist-below j f.0) (dist-below k f.1)
    node-stands ts alts m t a (non state j) us bs ot oa f b = state-below j f
    node-stands ts alts m t a (non dist j) us bs ot oa f b = dist-below j f
    node-stands ts alts m t a (step x ms hs) us bs ot oa f b =
        let fits = part-fits alts a (ms ++ hs) bs oa in
        let e = length-append ms hs in
        let low = f.0 in
        and_from (leb x 31) (step_ok ns alts i a (run a (length ms)) (run (a + length ms) (length hs))) (le-leb x 31 (omega arith))
        (and_from (run_ok (length alts) a (run a (length ms))) (run_ok (length alts) (a + length ms) (run (a + length ms) (length hs)) && all_dist ns i (part alts a (length ms + length hs))) (run-stands (length alts) a (length ms) (omega arith))
        (and_from (run_ok (length alts) (a + length ms) (run (a + length ms) (length hs))) (all_dist ns i (part alts a (length ms + length hs))) (run-stands (length alts) (a + length ms) (length hs) (omega arith))
        (ap (all_dist ns i) (part-here alts a (ms ++ hs) bs oa (length ms + length hs) (sym e)) ∙ dists_below (ms ++ hs) (All-append (Part ls i dist) ms hs f.1 f.2))))
    node-stands ts alts m t a (sum x ks) us bs ot oa f b =
        and_from (leb x (1000 * m)) (sum_ok ns ts m i t (run t (length ks))) (le-leb x (1000 * m) b.2)
        (and_from (run_ok (length ts) t (run t (length ks))) (terms_ok ns i (1000 * m) (part ts t (length ks))) (run-stands (length ts) t (length ks) (part-fits ts t ks us ot))
        (ap (terms_ok ns i (1000 * m)) (part-here ts t ks us ot (length ks) refl) ∙ terms-stand (1000 * m) ks f b.0 b.1))

  module _ (ts : List Term) (alts : List ℕ) (m : ℕ) where
    walk-stands : (i t a : ℕ) (rest : List Line) → Onward ts t (term_table rest) → Onward alts a (alternative_table rest) → i + length rest ≤ length ls
        → ((n k : ℕ) → n ≡ i + k → k < length rest → Fits ls n (line_at rest k)) → AllByRecursion (Bounded m) rest → walk ns ts alts m i t a (node_table t a rest) ≡ true
    walk-stands i t a [] ot oa l f b =
        and_from (eqb t (length ts)) (eqb a (length alts)) (eq-eqb t (length ts) (sym (add-zero t) ∙ ot.size)) (eq-eqb a (length alts) (sym (add-zero a) ∙ oa.size))
    walk-stands i t a (x ∷ rest) ot oa l f b =
        let is = node-is t a x in
        and_from (node_ok ns ts alts m i t a (node t a x)) (walk ns ts alts m (i + 1) (t + terms_of (node t a x)) (a + alternatives_of (node t a x)) (node_table (t + length (terms_in x)) (a + length (alternatives_in x)) rest))
        (node-stands i (omega arith) ts alts m t a x (term_table rest) (alternative_table rest) ot oa (f i 0 (sym (add-zero i)) (omega arith)) b.0)
        (ap₂ (λ (p q : ℕ). walk ns ts alts m (i + 1) (t + p) (a + q) (node_table (t + length (terms_in x)) (a + length (alternatives_in x)) rest)) is.1 is.2
        ∙ walk-stands (i + 1) (t + length (terms_in x)) (a + length (alternatives_in x)) rest
        (part-next ts t (terms_in x) (term_table rest) ot (length (terms_in x)) refl)
        (part-next alts a (alternatives_in x) (alternative_table rest) oa (length (alternatives_in x)) refl)
        (omega arith) (λ n k e h. f n (suc k) (omega arith) (omega arith)) b.1)

pub laid-law : LaidLaw
unfolding ns
laid-law F m formed bounded =
    let ls = F.lines in
    let root = formed.root in
    and_from (walk (ns ls) (term_table ls) (alternative_table ls) m 0 0 0 (ns ls)) (is_state_node (ns ls) F.root)
    (walk-stands ls (term_table ls) (alternative_table ls) m 0 0 0 ls
    (record { rest = refl; size = omega arith }) (record { rest = refl; size = omega arith }) (omega arith)
    (λ n k e h. subst (λ (j : ℕ). Fits ls j (line_at ls k)) (omega arith) (formed.lines k h)) bounded)
    (table-sort 0 0 ls F.root no_dist root.before ∙ ap is_state root.sorted)
