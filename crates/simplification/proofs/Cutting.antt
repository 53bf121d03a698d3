-- From the lines to those that the root reaches.
use Rattle.std.proofs.Common.{◌≡◌, ℕ, ◌<◌, ◌≤◌, Bool, true, false, cond, eqb, List, [], ◌∷◌, length, get_or, sym, refl, ap, ◌∙◌, ⊎_elim, arith}
use Rattle.std.specs.List.{AllByRecursion}
use Rattle.std.proofs.lemmas.List.{length-map, get_or_past}
use Rattle.std.proofs.ByRecursion.{All-weaker}
use Rattle.std.proofs.lemmas.Bool.{cases_lt, cases_Bool}
use Rattle.formulas.specs.Lines.{line, Formula}
use Rattle.formulas.specs.Tables.{Slots}
use Rattle.formulas.specs.WellFormed.{line_at}
use Rattle.simplification.specs.Simplify.{parts, reached, kept, rank, prune}
use Rattle.simplification.specs.Tables.{blank_node}
use Rattle.simplification.specs.Packed.{all_lines, Packed}
use Rattle.simplification.specs.Moving.{Fit}
use Rattle.simplification.specs.Reaching.{Ticks}
use Rattle.simplification.specs.Compacting.{is_ticked, compacted}
use Rattle.simplification.proofs.Outcomes.{Ordered}
use Rattle.simplification.proofs.Prune.{kept-only, kept-root, kept-parts}
use Rattle.simplification.proofs.Here.{as_it_is, fit-here}

pub lines_long : (s : Slots) → length (all_lines s) ≡ length s.nodes
lines_long s = length-map s.nodes (line s.terms s.alternatives)

pub packed-fits : (s : Slots) → Packed s → (n : ℕ) → length s.nodes ≤ n → (i : ℕ) → i < length s.nodes
    → Fit (λ d. d < n) s.terms s.alternatives 0 0 (get_or s.nodes i blank_node)
packed-fits s P n top i h =
    let ls = all_lines s in
    let g : i < length ls = omega (arith, lines_long s) in
    fit-here ls s P.laid_out i g [] s (as_it_is ls i s) (λ d. d < n) (λ j k. omega arith) 0 0 (omega arith) (omega arith) P.few_terms P.few_alternatives (P.formed i g)

-- the ticks are those of the lines that are kept
module _ (F : Formula) (o : Ordered F.lines) (r : F.root < length F.lines) (to : List ℕ) (long : length to ≡ length F.lines)
    (t : Ticks to (reached 0 F.lines (F.root ∷ []))) where
  bit : (b : Bool) → eqb (cond b 1 0) 1 ≡ b
  bit true = refl
  bit false = refl

  kept-inside : (i : ℕ) → kept F i ≡ true → i < length F.lines
  kept-inside = kept-only (λ i. i < length F.lines) F r (λ i h _. All-weaker (λ j. j < i) (λ j. j < length F.lines) (λ j k. omega arith) (parts (line_at F.lines i)) (o i h))

  ticked-is : (j : ℕ) → is_ticked to j ≡ kept F j
  ticked-is j =
      ⊎_elim
      (λ (h : j < length to). ap (λ n. eqb n 1) (t j h) ∙ bit (kept F j))
      (λ (h : length to ≤ j). ap (λ n. eqb n 1) (get_or_past to j 0 h)
      ∙ ⊎_elim
      (λ (k : kept F j ≡ true). absurd (let g = kept-inside j k in omega arith))
      (λ (k : kept F j ≡ false). sym k)
      (cases_Bool (kept F j)))
      (cases_lt j (length to))

  ticks_are : is_ticked to ≡ kept F
  ticks_are = λ i j. ticked-is j i

  pub ticks_closed : (i : ℕ) → i < length F.lines → is_ticked to i ≡ true → AllByRecursion (λ j. is_ticked to j ≡ true) (parts (line_at F.lines i))
  ticks_closed i h e =
      All-weaker (λ j. (kept F j ≡ true) × (j < i)) (λ j. is_ticked to j ≡ true) (λ j q. ticked-is j ∙ q.0) (parts (line_at F.lines i)) (kept-parts F o i h (sym (ticked-is i) ∙ e))

  -- so what is compacted is the pruned formula
  pub compacted-is : compacted (is_ticked to) F.lines ≡ (prune F).lines
  compacted-is = ap (λ (keep : ℕ → Bool). compacted keep F.lines) ticks_are

  pub root_is : (to' : List ℕ) → ((j : ℕ) → j < length F.lines → is_ticked to j ≡ true → get_or to' j 0 ≡ rank (is_ticked to) j) → get_or to' F.root 0 ≡ (prune F).root
  root_is to' numbered = numbered F.root r (ticked-is F.root ∙ kept-root F) ∙ ap (λ (keep : ℕ → Bool). rank keep F.root) ticks_are
