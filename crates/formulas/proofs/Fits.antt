-- What the tests of runs tell: where a run begins, and that it ends within its table.
use Rattle.std.proofs.Common.{◌≡◌, ℕ, ◌+◌, ◌*◌, ◌≤◌, true, ◌&&◌, eqb, leb, List, ◌++◌, length, take, drop, ap, ◌∙◌, arith, take-add}
use Rattle.std.proofs.lemmas.List.{drop-drop}
use Rattle.std.proofs.lemmas.Bool.{and_parts, leb-true, eqb-true}
use Rattle.formulas.specs.declared.node.Node.{Node}
use Rattle.formulas.specs.declared.node.Node.TheVariants.{State, Dist}
use Rattle.formulas.specs.declared.node.StateNode as sn
use Rattle.formulas.specs.declared.node.DistNode as dn
use Rattle.formulas.specs.declared.node.Run.{Run}
use Rattle.formulas.specs.declared.node.Term.{Term}
use Rattle.formulas.specs.Lines.{part}
use Rattle.formulas.specs.Stands.{node_ok, terms_of, alternatives_of, run_ok, all_dist, terms_ok, step_ok, sum_ok}

pub record Fit (len p : ℕ) (r : Run) : Type 0 where
  pub first : r.first ≡ p
  pub within : p + r.count ≤ len

pub record StepFit (ns : List Node) (alts : List ℕ) (i a : ℕ) (mv h : Run) : Type 0 where
  pub moves : Fit (length alts) a mv
  pub heres : Fit (length alts) (a + mv.count) h
  pub parts : all_dist ns i (part alts a (mv.count + h.count)) ≡ true

pub record SumFit (ns : List Node) (ts : List Term) (m i t : ℕ) (r : Run) : Type 0 where
  pub terms : Fit (length ts) t r
  pub parts : terms_ok ns i (1000 * m) (part ts t r.count) ≡ true

run_fit : (len p : ℕ) (r : Run) → run_ok len p r ≡ true → Fit len p r
run_fit len p r ok =
    let q = and_parts (eqb r.first p) (leb (p + r.count) len) ok in
    record { first = eqb-true _ _ q.0; within = leb-true _ _ q.1 }

pub step_fit : (ns : List Node) (alts : List ℕ) (i a : ℕ) (mv h : Run) → step_ok ns alts i a mv h ≡ true → StepFit ns alts i a mv h
step_fit ns alts i a mv h ok =
    let p = and_parts (run_ok (length alts) a mv) (run_ok (length alts) (a + mv.count) h && all_dist ns i (part alts a (mv.count + h.count))) ok in
    let q = and_parts (run_ok (length alts) (a + mv.count) h) (all_dist ns i (part alts a (mv.count + h.count))) p.1 in
    record { moves = run_fit _ _ mv p.0; heres = run_fit _ _ h q.0; parts = q.1 }

pub sum_fit : (ns : List Node) (ts : List Term) (m i t : ℕ) (r : Run) → sum_ok ns ts m i t r ≡ true → SumFit ns ts m i t r
sum_fit ns ts m i t r ok =
    let p = and_parts (run_ok (length ts) t r) (terms_ok ns i (1000 * m) (part ts t r.count)) ok in
    record { terms = run_fit _ _ r p.0; parts = p.1 }

-- two runs, one behind the other
pub part_add : {X : Type 0} (xs : List X) (p m n : ℕ) → part xs p (m + n) ≡ part xs p m ++ part xs (p + m) n
part_add xs p m n = take-add m n (drop p xs) ∙ ap (λ ys. part xs p m ++ take n ys) (drop-drop m p xs)

module _ (ns : List Node) (ts : List Term) (alts : List ℕ) (m i t a : ℕ) where
  -- a node that stands passes its tests of runs
  pub step_of : (act : ℕ) (mv h : Run) → node_ok ns ts alts m i t a (State (sn.TheVariants.Step act mv h)) ≡ true → StepFit ns alts i a mv h
  step_of act mv h ok = step_fit ns alts i a mv h (and_parts (leb act 31) (step_ok ns alts i a mv h) ok).1

  pub sum_of : (least : ℕ) (r : Run) → node_ok ns ts alts m i t a (Dist (dn.TheVariants.Sum least r)) ≡ true → SumFit ns ts m i t r
  sum_of least r ok = sum_fit ns ts m i t r (and_parts (leb least (1000 * m)) (sum_ok ns ts m i t r) ok).1

  pub terms-within : (n : Node) → node_ok ns ts alts m i t a n ≡ true → t ≤ length ts → t + terms_of n ≤ length ts
  terms-within (State x) h l = omega arith
  terms-within (Dist dn.TheVariants.Yes) h l = omega arith
  terms-within (Dist dn.TheVariants.No) h l = omega arith
  terms-within (Dist (dn.TheVariants.And j k)) h l = omega arith
  terms-within (Dist (dn.TheVariants.Not j)) h l = omega arith
  terms-within (Dist (dn.TheVariants.Sum least r)) h l = (sum_of least r h).terms.within

  pub alternatives-within : (n : Node) → node_ok ns ts alts m i t a n ≡ true → a ≤ length alts → a + alternatives_of n ≤ length alts
  alternatives-within (Dist x) h l = omega arith
  alternatives-within (State sn.TheVariants.Yes) h l = omega arith
  alternatives-within (State sn.TheVariants.No) h l = omega arith
  alternatives-within (State (sn.TheVariants.And j k)) h l = omega arith
  alternatives-within (State (sn.TheVariants.Not j)) h l = omega arith
  alternatives-within (State (sn.TheVariants.Step act mv g)) h l = let f = (step_of act mv g h).heres.within in omega arith
