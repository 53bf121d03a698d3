-- One turn of the walk over the nodes.
use Rattle.std.proofs.Common.{◌≡◌, ℕ, ◌+◌, ◌<◌, ◌≤◌, true, List, length, get_or, drop, sym, ◌∙◌, ap₂, arith}
use Rattle.std.proofs.lemmas.List.{at_drop_more}
use Rattle.formulas.specs.declared.node.Node.{Node}
use Rattle.formulas.specs.declared.node.Term.{Term}
use Rattle.formulas.specs.Stands.{walk, node_ok, terms_of, alternatives_of}
use Rattle.formulas.proofs.Steps.{and_on}
use Rattle.formulas.proofs.Fits.{terms-within, alternatives-within}

-- the nodes below i stand, with t terms and a alternatives
pub record Sofar (ns : List Node) (ts : List Term) (alts : List ℕ) (m i t a : ℕ) : Type 0 where
  pub whole : walk ns ts alts m 0 0 0 ns ≡ walk ns ts alts m i t a (drop i ns)
  pub terms : t ≤ length ts
  pub alternatives : a ≤ length alts

module _ (ns : List Node) (ts : List Term) (alts : List ℕ) (m i t a : ℕ) (before : Sofar ns ts alts m i t a) where
  pub turn : (d : Node) → i < length ns → true ≡ node_ok ns ts alts m i t a (get_or ns i d) → (t' a' : ℕ) → t' ≡ terms_of (get_or ns i d) → a' ≡ alternatives_of (get_or ns i d) → Sofar ns ts alts m (i + 1) (t + t') (a + a')
  turn d l ok t' a' et ea =
      let n = get_or ns i d in
      let more = terms-within ns ts alts m i t a n (sym ok) before.terms in
      let rest = alternatives-within ns ts alts m i t a n (sym ok) before.alternatives in
      record {
        whole = before.whole ∙ at_drop_more (walk ns ts alts m i t a) ns i d l ∙ and_on _ _ ok ∙ ap₂ (λ x y. walk ns ts alts m (i + 1) (t + x) (a + y) (drop (i + 1) ns)) (sym et) (sym ea);
        terms = omega arith;
        alternatives = omega arith;
      }
