-- Sums of a quotient keep to their bounds.
use Rattle.std.proofs.Common.{◌≡◌, ℕ, ◌*◌, ◌<◌, ◌≤◌, Bool, true, false, List, [], ◌∷◌, length, sum_by, sym, ap, ◌∙◌, subst, mul-le-mul_right, mul_assoc, mul_comm, zero-add}
use native.Mathlib.Nat.{one-le-mul}
use Rattle.std.specs.List.{range_with_len, flat_map, AllByRecursion}
use Rattle.std.proofs.ByRecursion.{All-append, All-map}
use Rattle.systems.specs.Meaning.{Meaning, Move, Ruled, total}
use Rattle.systems.specs.Piles.{cross}
use Rattle.formulas.specs.declared.node.Term.{Term}
use Rattle.formulas.specs.Lines.{Line, constant, both, non, step, sum, sort}
use Rattle.quotient.specs.Quotient.{rows, row, width, new_step, new_term, new_line, new_lines}
use Rattle.quotient.specs.Theorems.{BoundsLaw}
use Rattle.formulas.specs.WellFormed.{Bounded}
use Rattle.quotient.proofs.Lists.{sum_by_eq, sum_by_mul, sum_by_cross, all_cross, all_counting}
use Rattle.quotient.proofs.Places.{rows_all}
use Rattle.quotient.proofs.Rules.{GoodIn, point-good}

module _ (A : ℕ → Bool) (R : Meaning) (hR : Ruled R) (ls : List Line) (m : ℕ) where
  row-good : (r : ℕ) → r < length (rows R) → GoodIn R (row R r)
  row-good = rows_all R (GoodIn R) (point-good R hR) hR.each

  coefficients_scale : (ks : List Term) (mv : Move) → sum_by (λ k. k.coefficient) (cross (new_term R ls) ks mv) ≡ sum_by (λ k. k.coefficient) ks * total mv
  coefficients_scale ks mv =
      sum_by_cross (new_term R ls) (λ k. k.coefficient) ks mv
      ∙ sum_by_eq ks (λ k. sum_by_mul k.coefficient (λ t. t.weight) mv ∙ mul_comm k.coefficient (total mv))
      ∙ sum_by_mul (total mv) (λ k. k.coefficient) ks
      ∙ mul_comm (total mv) (sum_by (λ k. k.coefficient) ks)

  -- what keeps to its bound keeps to it times the mass
  scale_le : (n : ℕ) → n ≤ 1000 * m → n * R.mass ≤ 1000 * (m * R.mass)
  scale_le n h = subst (λ (b : ℕ). n * R.mass ≤ b) (mul_assoc 1000 m R.mass) (mul-le-mul_right R.mass h)

  new-bounded : (l : Line) → Bounded m l → (p : ℕ) → p < width R (sort l) → Bounded (m * R.mass) (new_line A R ls l p)
  unfolding new_line
  new-bounded (constant σ b) h p lp = tt
  new-bounded (both σ i j) h p lp = tt
  new-bounded (non σ i) h p lp = tt
  new-bounded (step a ms hs) h p lp = elim (A a) as (λ b. Bounded (m * R.mass) (new_step b R ls a ms hs p)) [ true ↦ tt | false ↦ tt ]
  new-bounded (sum t ks) h p lp =
      let good = row-good p lp in (
        all_cross (new_term R ls) (λ k. 1 ≤ k.coefficient) ks (row R p) h.0 good.aimed (λ k u hk hu. one-le-mul hk hu.heavy),
        subst (λ (n : ℕ). n ≤ 1000 * (m * R.mass)) (sym (coefficients_scale ks (row R p) ∙ ap (λ (n : ℕ). sum_by (λ k. k.coefficient) ks * n) good.whole)) (scale_le (sum_by (λ k. k.coefficient) ks) h.1),
        scale_le t h.2,
      )

  lines-bounded : (xs : List Line) → AllByRecursion (Bounded m) xs → AllByRecursion (Bounded (m * R.mass)) (flat_map (new_lines A R ls) xs)
  lines-bounded [] h = tt
  lines-bounded (l ∷ xs) h =
      All-append (Bounded (m * R.mass)) (new_lines A R ls l) (flat_map (new_lines A R ls) xs)
      (All-map (Bounded (m * R.mass)) (new_line A R ls l) (range_with_len 0 (width R (sort l)))
      (all_counting (λ p. Bounded (m * R.mass) (new_line A R ls l p)) 0 (width R (sort l)) (λ p lp. rw zero-add (new-bounded l h.0 p lp))))
      (lines-bounded xs h.1)

pub bounds_law : BoundsLaw
bounds_law A R F m hR h = lines-bounded A R hR F.lines m F.lines h
