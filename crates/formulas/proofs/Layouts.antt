-- Tables that hold a formula are the layout of their lines, and lines are read back from their layout.
use Rattle.std.proofs.Common.{◌≡◌, ℕ, ◌+◌, ◌≤◌, true, false, eqb, List, [], ◌∷◌, ◌++◌, length, take, drop, sym, refl, ap, ◌∙◌, ap₂, append_assoc, zero-le, arith, length-drop, length-take}
use lib.Seq.{take-append_seam, drop-append_seam}
use Rattle.std.proofs.lemmas.List.{take-append-drop, drop-drop, drop_all}
use Rattle.std.proofs.lemmas.Bool.{and_parts, eqb-true}
use Rattle.formulas.specs.declared.node.Node.{Node}
use Rattle.formulas.specs.declared.node.Node.TheVariants.{State, Dist}
use Rattle.formulas.specs.declared.node.StateNode as sn
use Rattle.formulas.specs.declared.node.DistNode as dn
use Rattle.formulas.specs.declared.node.Run.{Run}
use Rattle.formulas.specs.declared.node.Term.{Term}
use Rattle.formulas.specs.Lines.{state, dist, Line, constant, both, non, step, sum, part, line, lines}
use Rattle.formulas.specs.Layout.{run, node, node_table, terms_in, term_table, alternatives_in, alternative_table}
use Rattle.formulas.specs.Stands.{node_ok, terms_of, alternatives_of, walk, is_state_node}
use Rattle.formulas.specs.Laws.{LayoutLaw, LinesLaw}
use Rattle.formulas.proofs.Fits.{Fit, step_of, sum_of, part_add, terms-within, alternatives-within}

module _ {X : Type 0} where
  -- where the table goes on with xs and then with rest, xs is the part there, and rest follows it
  part-here : (table xs rest : List X) (p : ℕ) → drop p table ≡ xs ++ rest → part table p (length xs) ≡ xs
  part-here table xs rest p e = ap (take (length xs)) e ∙ take-append_seam xs rest

  part-rest : (table xs rest : List X) (p : ℕ) → drop p table ≡ xs ++ rest → drop (p + length xs) table ≡ rest
  part-rest table xs rest p e = sym (drop-drop (length xs) p table) ∙ ap (drop (length xs)) e ∙ drop-append_seam xs rest

  part-next : (table : List X) (p n : ℕ) → part table p n ++ drop (p + n) table ≡ drop p table
  part-next table p n = ap (λ r. part table p n ++ r) (sym (drop-drop n p table)) ∙ take-append-drop n (drop p table)

  part_length : (table : List X) (p n : ℕ) → p + n ≤ length table → length (part table p n) ≡ n
  part_length table p n l = length-take n (drop p table) ∙ simp length-drop (omega arith)

  -- a run that fits, from what it holds
  run-again : (table : List X) (p : ℕ) (r : Run) → Fit (length table) p r → run p (length (part table r.first r.count)) ≡ r
  run-again table p r f =
      let e = f.first in
      let l = f.within in
      let n = part_length table r.first r.count (omega arith) in
      λ k. record { first = sym e k; count = n k }

-- the line of a node that stands at the places t and a, laid out there
module _ (ns : List Node) (ts : List Term) (alts : List ℕ) (m i t a : ℕ) where
  node-again : (n : Node) → node_ok ns ts alts m i t a n ≡ true → node t a (line ts alts n) ≡ n
  node-again (State sn.TheVariants.Yes) ok = refl
  node-again (State sn.TheVariants.No) ok = refl
  node-again (State (sn.TheVariants.And j k)) ok = refl
  node-again (State (sn.TheVariants.Not j)) ok = refl
  node-again (State (sn.TheVariants.Step act mv h)) ok =
      let f = step_of ns ts alts m i t a act mv h ok in
      let e = f.moves.first in
      let l = f.moves.within in
      let n = part_length alts mv.first mv.count (omega arith) in
      ap₂ (λ x y. State (sn.TheVariants.Step act x y)) (run-again alts a mv f.moves) (ap (λ c. run (a + c) (length (part alts h.first h.count))) n ∙ run-again alts (a + mv.count) h f.heres)
  node-again (Dist dn.TheVariants.Yes) ok = refl
  node-again (Dist dn.TheVariants.No) ok = refl
  node-again (Dist (dn.TheVariants.And j k)) ok = refl
  node-again (Dist (dn.TheVariants.Not j)) ok = refl
  node-again (Dist (dn.TheVariants.Sum least r)) ok =
      ap (λ x. Dist (dn.TheVariants.Sum least x)) (run-again ts t r (sum_of ns ts alts m i t a least r ok).terms)

  terms-again : (n : Node) → node_ok ns ts alts m i t a n ≡ true → terms_in (line ts alts n) ≡ part ts t (terms_of n)
  terms-again (State sn.TheVariants.Yes) ok = refl
  terms-again (State sn.TheVariants.No) ok = refl
  terms-again (State (sn.TheVariants.And j k)) ok = refl
  terms-again (State (sn.TheVariants.Not j)) ok = refl
  terms-again (State (sn.TheVariants.Step act mv h)) ok = refl
  terms-again (Dist dn.TheVariants.Yes) ok = refl
  terms-again (Dist dn.TheVariants.No) ok = refl
  terms-again (Dist (dn.TheVariants.And j k)) ok = refl
  terms-again (Dist (dn.TheVariants.Not j)) ok = refl
  terms-again (Dist (dn.TheVariants.Sum least r)) ok = ap (λ p. part ts p r.count) (sum_of ns ts alts m i t a least r ok).terms.first

  alternatives-again : (n : Node) → node_ok ns ts alts m i t a n ≡ true → alternatives_in (line ts alts n) ≡ part alts a (alternatives_of n)
  alternatives-again (State sn.TheVariants.Yes) ok = refl
  alternatives-again (State sn.TheVariants.No) ok = refl
  alternatives-again (State (sn.TheVariants.And j k)) ok = refl
  alternatives-again (State (sn.TheVariants.Not j)) ok = refl
  alternatives-again (State (sn.TheVariants.Step act mv h)) ok =
      let f = step_of ns ts alts m i t a act mv h ok in
      ap₂ (λ p q. part alts p mv.count ++ part alts q h.count) f.moves.first f.heres.first ∙ sym (part_add alts a mv.count h.count)
  alternatives-again (Dist dn.TheVariants.Yes) ok = refl
  alternatives-again (Dist dn.TheVariants.No) ok = refl
  alternatives-again (Dist (dn.TheVariants.And j k)) ok = refl
  alternatives-again (Dist (dn.TheVariants.Not j)) ok = refl
  alternatives-again (Dist (dn.TheVariants.Sum least r)) ok = refl

module _ (ns : List Node) (ts : List Term) (alts : List ℕ) (m : ℕ) where
  -- the lines of the last nodes, laid out behind the terms and alternatives of those before
  record Again (t a : ℕ) (rest : List Node) : Type 0 where
    nodes : node_table t a (lines rest ts alts) ≡ rest
    terms : term_table (lines rest ts alts) ≡ drop t ts
    alternatives : alternative_table (lines rest ts alts) ≡ drop a alts

  walk-again : (i t a : ℕ) (rest : List Node) → t ≤ length ts → a ≤ length alts → walk ns ts alts m i t a rest ≡ true → Again t a rest
  walk-again i t a [] lt la ok =
      let p = and_parts (eqb t (length ts)) (eqb a (length alts)) ok in
      let et = eqb-true t (length ts) p.0 in
      let ea = eqb-true a (length alts) p.1 in
      record { nodes = refl; terms = sym (drop_all t ts (omega arith)); alternatives = sym (drop_all a alts (omega arith)) }
  walk-again i t a (n ∷ rest) lt la ok =
      let p = and_parts (node_ok ns ts alts m i t a n) (walk ns ts alts m (i + 1) (t + terms_of n) (a + alternatives_of n) rest) ok in
      let it = terms-within ns ts alts m i t a n p.0 lt in
      let ia = alternatives-within ns ts alts m i t a n p.0 la in
      let et = terms-again ns ts alts m i t a n p.0 in
      let ea = alternatives-again ns ts alts m i t a n p.0 in
      let later = walk-again (i + 1) (t + terms_of n) (a + alternatives_of n) rest it ia p.1 in
      record {
        nodes =
            ap₂ (λ x y. node t a (line ts alts n) ∷ node_table (t + x) (a + y) (lines rest ts alts)) (ap length et ∙ part_length ts t (terms_of n) it) (ap length ea ∙ part_length alts a (alternatives_of n) ia)
            ∙ ap₂ ◌∷◌ (node-again ns ts alts m i t a n p.0) later.nodes;
        terms = ap₂ ◌++◌ et later.terms ∙ part-next ts t (terms_of n);
        alternatives = ap₂ ◌++◌ ea later.alternatives ∙ part-next alts a (alternatives_of n);
      }

pub layout_law : LayoutLaw
layout_law ns ts alts root m ok =
    let again = walk-again ns ts alts m 0 0 0 ns zero-le zero-le (and_parts (walk ns ts alts m 0 0 0 ns) (is_state_node ns root) ok).0 in
    (again.nodes, again.terms, again.alternatives)

-- lines, read from tables that go on with their entries
module _ (ts : List Term) (alts : List ℕ) where
  line-again : (t a : ℕ) (l : Line) (us : List Term) (bs : List ℕ) → drop t ts ≡ terms_in l ++ us → drop a alts ≡ alternatives_in l ++ bs → line ts alts (node t a l) ≡ l
  line-again t a (constant state true) us bs et ea = refl
  line-again t a (constant state false) us bs et ea = refl
  line-again t a (constant dist true) us bs et ea = refl
  line-again t a (constant dist false) us bs et ea = refl
  line-again t a (both state i j) us bs et ea = refl
  line-again t a (both dist i j) us bs et ea = refl
  line-again t a (non state i) us bs et ea = refl
  line-again t a (non dist i) us bs et ea = refl
  line-again t a (step x ms hs) us bs et ea =
      let e = ea ∙ append_assoc ms hs bs in
      ap₂ (step x) (part-here alts ms (hs ++ bs) a e) (part-here alts hs bs (a + length ms) (part-rest alts ms (hs ++ bs) a e))
  line-again t a (sum x ks) us bs et ea = ap (sum x) (part-here ts ks us t et)

  lines-again : (t a : ℕ) (ls : List Line) → drop t ts ≡ term_table ls → drop a alts ≡ alternative_table ls → lines (node_table t a ls) ts alts ≡ ls
  lines-again t a [] et ea = refl
  lines-again t a (l ∷ ls) et ea =
      ap₂ ◌∷◌
      (line-again t a l (term_table ls) (alternative_table ls) et ea)
      (lines-again (t + length (terms_in l)) (a + length (alternatives_in l)) ls (part-rest ts (terms_in l) (term_table ls) t et) (part-rest alts (alternatives_in l) (alternative_table ls) a ea))

pub lines-law : LinesLaw
lines-law ls = lines-again (term_table ls) (alternative_table ls) 0 0 ls refl refl
