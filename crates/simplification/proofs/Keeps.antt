-- A simplified formula holds in the same states.
use Rattle.std.proofs.Common.{◌≡◌, ℕ, ◌<◌, true, List, length, get_or, sym, ap, ◌∙◌, subst, arith}
use Rattle.std.proofs.ByRecursion.{All-weaker}
use Rattle.systems.specs.Meaning.{Meaning, Good}
use Rattle.formulas.specs.Lines.{Sort, state, Line, sort, Formula}
use Rattle.formulas.specs.Truths.{Truth, truths, never}
use Rattle.formulas.specs.Laws.{CourseLaw}
use Rattle.formulas.specs.WellFormed.{line_at, Part, Fitting, WellFormed}
use Rattle.simplification.specs.Simplify.{parts, Outcome, became, settle, kept, place, renumber, prune, simplify}
use Rattle.simplification.specs.Laws.{Whole, Weighed, WeighedLaw, KeepsTruthLaw}
use Rattle.simplification.proofs.Lists.{all_both, strong}
use Rattle.simplification.proofs.Outcomes.{wants, Ordered, outcome, outcome-at, placed, lines_of, lines-length, lines_get}
use Rattle.simplification.proofs.Prune.{kept-root, kept-parts, pruned_get, place-within}
use Rattle.simplification.proofs.Forms.{fits-parts, fitting_ordered, fitting_formed, keeps_sort, settle_form, keeps_form}
use Rattle.simplification.proofs.Truths.{sees, Agree, agree-is, agree_trans, renumber-agrees, Fit, became-agrees}

pub weighed : WeighedLaw
weighed S r = record {
  heavy = r.mass_low;
  whole = λ s a. All-weaker (Good S.states S.mass S.breadth) (Whole S) (λ mv h. h.whole) (S.moves s a) (r.each s a);
}

abbrev told : Meaning → List Line → ℕ → Truth
told S ls j = get_or (truths S ls) j never

module _ (course : CourseLaw) (S : Meaning) (g : Weighed S) where
  read : (ls : List Line) → Fitting ls → (i : ℕ) → i < length ls → told S ls i ≡ sees S (told S ls) (line_at ls i)
  read ls f i h = course S ls i (fitting_formed ls f) h

  -- what becomes of a line agrees with it
  settle-keeps : (F : Formula) → WellFormed F → (i : ℕ) → i < length F.lines → Agree S (sort (line_at F.lines i)) (told S F.lines i) (told S (lines_of F.lines) (outcome F.lines i).to)
  settle-keeps F w i h = agree_trans S (sort (line_at ls i)) (T i) (T' i) (T' (E i).to) (keeps i h) (agree-is S (sort (line_at ls i)) (sym (goes i h)))
    where
      ls : List Line
      ls = F.lines

      o : Ordered ls
      o = fitting_ordered ls w.lines

      E : ℕ → Outcome
      E = outcome ls

      T : ℕ → Truth
      T = told S ls

      T' : ℕ → Truth
      T' = told S (lines_of ls)

      sees-new : (i : ℕ) → i < length ls → T' i ≡ sees S T' (E i).line
      sees-new i h = read (lines_of ls) (settle_form F w).lines i (omega (arith, lines-length ls)) ∙ ap (sees S T') (lines_get ls i)

      goes : (i : ℕ) → i < length ls → T' (E i).to ≡ T' i
      goes i h =
          let p = placed ls o i h in
          sees-new (E i).to (omega (arith, p.near)) ∙ (ap (λ (x : Outcome). sees S T' x.line) p.stable ∙ sym (sees-new i h))

      keeps : (i : ℕ) → i < length ls → Agree S (sort (line_at ls i)) (T i) (T' i)
      keeps = strong (λ i. i < length ls → Agree S (sort (line_at ls i)) (T i) (T' i)) (λ n f h.
          let l : Line = line_at ls n in
          let σ : Sort = wants l in
          let fit : (j : ℕ) → Part ls n σ j → Fit S g T T' E σ j = λ j p.
          let k : j < length ls = omega (arith, p.before) in
          let a : Agree S σ (T j) (T' j) = subst (λ (τ : Sort). Agree S τ (T j) (T' j)) p.sorted (f j p.before k) in
          record {
            there = agree_trans S σ (T j) (T' j) (T' (E j).to) a (agree-is S σ (sym (goes j k)));
            same = agree_trans S σ (T j) (T' j) (sees S T' (E j).line) a (agree-is S σ (sees-new j k));
            is = keeps_sort ls w.lines j k ∙ p.sorted;
          } in
          let x : Outcome = became n E l in
          agree_trans S (sort l) (T n) (sees S T l) (T' n) (agree-is S (sort l) (read ls w.lines n h))
          (agree_trans S (sort l) (sees S T l) (sees S T' x.line) (T' n)
          (became-agrees S g T T' E n l (All-weaker (Part ls n σ) (Fit S g T T' E σ) fit (parts l) (fits-parts ls n l (w.lines n h))))
          (agree-is S (sort l) (ap (λ (y : Outcome). sees S T' y.line) (sym (outcome-at ls o n h)) ∙ sym (sees-new n h)))))

  -- a line that is kept agrees with itself under its new number
  prune-keeps : (F : Formula) → WellFormed F → Fitting (prune F).lines → (i : ℕ) → i < length F.lines → kept F i ≡ true
      → Agree S (sort (line_at F.lines i)) (told S F.lines i) (told S (prune F).lines (place F i))
  prune-keeps F w v =
      strong (λ i. i < length ls → kept F i ≡ true → Agree S (sort (line_at ls i)) (T i) (U (place F i))) (λ n f h k.
      let l : Line = line_at ls n in
      let σ : Sort = wants l in
      agree_trans S (sort l) (T n) (sees S T l) (U (place F n)) (agree-is S (sort l) (read ls w.lines n h))
      (agree_trans S (sort l) (sees S T l) (sees S U (renumber (place F) l)) (U (place F n))
      (renumber-agrees S g T U (place F) l
      (All-weaker (λ j. ((kept F j ≡ true) × (j < n)) × Part ls n σ j) (λ j. Agree S σ (T j) (U (place F j)))
      (λ j r. subst (λ (τ : Sort). Agree S τ (T j) (U (place F j))) r.1.sorted (f j r.0.1 (omega (arith, r.0.1)) r.0.0)) (parts l)
      (all_both (λ j. (kept F j ≡ true) × (j < n)) (Part ls n σ) (parts l) (kept-parts F (fitting_ordered ls w.lines) n h k) (fits-parts ls n l (w.lines n h)))))
      (agree-is S (sort l) (ap (sees S U) (sym (pruned_get F n h k)) ∙ sym (read (prune F).lines v (place F n) (place-within F n h k))))))
    where
      ls : List Line
      ls = F.lines

      T : ℕ → Truth
      T = told S ls

      U : ℕ → Truth
      U = told S (prune F).lines

pub keeps_truth : CourseLaw → KeepsTruthLaw
keeps_truth course S g F w s =
    let G : Formula = settle F in
    let v : WellFormed G = settle_form F w in
    let first : Agree S state (told S F.lines F.root) (told S G.lines G.root) =
    subst (λ (σ : Sort). Agree S σ (told S F.lines F.root) (told S G.lines G.root)) w.root.sorted (settle-keeps course S g F w F.root w.root.before) in
    let then : Agree S state (told S G.lines G.root) (told S (simplify F).lines (simplify F).root) =
    subst (λ (σ : Sort). Agree S σ (told S G.lines G.root) (told S (simplify F).lines (simplify F).root)) v.root.sorted
    (prune-keeps course S g G v (keeps_form F w).lines G.root v.root.before (kept-root G)) in
    sym (first s ∙ then s)
