-- The tests that judge makes, passed.
use Rattle.std.proofs.Common.{◌≡◌, ℕ, ◌*◌, ◌≤◌, true, not, ◌&&◌, ◌||◌, ltb, leb, List, length, get_or, take, Ok, Err, Result, sym, ap, ◌∙◌, ap₂, arith}
use mathlib.Core.Path.{subst₃}
use Rattle.std.proofs.lemmas.List.{length-take-le}
use Rattle.std.proofs.lemmas.Bool.{and_parts, cond-false, not_from_true, ltb-false, leb-true}
use Rattle.std.proofs.lemmas.Nat.{le-div}
use Rattle.systems.specs.Meaning.{Meaning}
use Rattle.formulas.specs.declared.node.Node.{Node}
use Rattle.formulas.specs.declared.node.Node.TheVariants.{State, Dist}
use Rattle.formulas.specs.declared.node.DistNode as dn
use Rattle.formulas.specs.declared.node.Term.{Term}
use Rattle.formulas.specs.Lines.{lines}
use Rattle.formulas.specs.Right.{Right}
use Rattle.formulas.specs.Stands.{stands}
use Rattle.formulas.specs.Truths.{truths, at_node}
use Rattle.claims.specs.declared.claim.Claim.{Claim}
use Rattle.formulas.specs.declared.tables.Tables.{Tables}
use Rattle.formulas.specs.declared.refusal.Refusal.{Refusal}
use Rattle.formulas.specs.declared.refusal.Refusal.TheVariants.{NoFormula, Heavy, Short}
use Rattle.formulas.specs.Tables.{stands_in, Front, lines_in, contents}
use Rattle.claims.specs.declared.verdict.Verdict.{Verdict}
use Rattle.claims.specs.Verdicts.{verdict, judged}
use Rattle.claims.specs.Boards.{truths_in, most_removed, SitsIn, Sits, Passed}

-- what is right with a removed mass is right with a greater one
right_up : (ts : List Term) (alts : List ℕ) (m k i : ℕ) (n : Node) → m ≤ k → Right ts alts m i n → Right ts alts k i n
right_up ts alts m k i (State x) h r = r
right_up ts alts m k i (Dist dn.TheVariants.Yes) h r = r
right_up ts alts m k i (Dist dn.TheVariants.No) h r = r
right_up ts alts m k i (Dist (dn.TheVariants.And p q)) h r = r
right_up ts alts m k i (Dist (dn.TheVariants.Not p)) h r = r
right_up ts alts m k i (Dist (dn.TheVariants.Sum x run)) h r = record { within = r.within; low = omega (arith, r.low); below = r.below; light = omega (arith, r.light) }

-- u is what the claim uses of the tables t
module _ (M : Meaning) (c : Claim) (t u : Tables) (size len : ℕ) (p : Passed M c t size len) (front : Front c.fills t u) where
  fits : (leb c.fills.nodes (length t.nodes.now) ≡ true) × (stands (take c.fills.nodes t.nodes.now) (take c.fills.terms t.terms.now) (take c.fills.alternatives t.alternatives.now) c.root c.mass ≡ true)
  fits =
      let long = leb c.fills.nodes (length t.nodes.now) in
      let others = leb c.fills.terms (length t.terms.now) && leb c.fills.alternatives (length t.alternatives.now) in
      let both = and_parts (long && others) (stands (take c.fills.nodes t.nodes.now) (take c.fills.terms t.terms.now) (take c.fills.alternatives t.alternatives.now) c.root c.mass) p.held in
      ((and_parts long others both.0).0, both.1)

  pub used-sits : 1 ≤ M.mass → Sits M u
  used-sits some =
      let ns = take c.fills.nodes t.nodes.now in
      let ts = take c.fills.terms t.terms.now in
      let alts = take c.fills.alternatives t.alternatives.now in
      let small : c.mass ≤ most_removed M = le-div c.mass 1000000000000000 M.mass some (ltb-false 1000000000000000 (c.mass * M.mass) p.light) in
      subst₃ (SitsIn M) (sym front.nodes) (sym front.terms) (sym front.alternatives) (record {
        few = omega (arith, c.few.0, length-take-le c.fills.nodes t.nodes.now (leb-true c.fills.nodes (length t.nodes.now) fits.0));
        right = λ i d h. right_up ts alts c.mass (most_removed M) i (get_or ns i d) small (p.right i d h);
        solved = λ i d h. p.law M ns ts alts c.root c.mass i d fits.1 h;
      })

  used-truths : truths_in M u ≡ truths M (lines_in c.fills (contents t))
  used-truths =
      ap (λ ns. truths M (lines ns u.terms.now u.alternatives.now)) front.nodes
      ∙ ap (λ ts. truths M (lines (take c.fills.nodes t.nodes.now) ts u.alternatives.now)) front.terms
      ∙ ap (λ alts. truths M (lines (take c.fills.nodes t.nodes.now) (take c.fills.terms t.terms.now) alts)) front.alternatives

  pub judged-is : (v : Verdict) (root : ℕ) → root ≡ c.root → v ≡ verdict (at_node (truths_in M u) root 0) → ◌≡◌ {A = Result Verdict Refusal} (Ok v) (judged M c t size len)
  judged-is v root e f =
      ap Ok (f ∙ ap₂ (λ T r. verdict (at_node T r 0)) used-truths e)
      ∙ sym (cond-false (not (stands_in c.fills c.root c.mass (contents t))) (Err NoFormula) _ (not_from_true _ p.held)
      ∙ cond-false (ltb 1000000000000000 (c.mass * M.mass)) (Err Heavy) _ p.light
      ∙ cond-false (ltb size (c.fills.nodes * M.states) || ltb len c.fills.nodes) (Err Short) _ p.room)
