-- Sums of a move by a truth table.
use Rattle.std.specs.Prelude.{ℕ, ◌+◌, ◌*◌, ◌≤◌, Bool, cond, List, length, sum_by, ◌==◌, slice_index}
use Rattle.std.specs.List.{AllByRecursion}
use Rattle.systems.specs.Meaning.{Meaning}
use Rattle.formulas.specs.declared.node.Run.{Run}
use Rattle.formulas.specs.declared.node.Term.{Term}
use Rattle.systems.specs.declared.system.Target.{Target}
use Rattle.formulas.specs.Lines.{entries}

-- in a truth table of n states, the byte of node i in state s is 1
abbrev pub lit : List ℕ → ℕ → ℕ → ℕ → Bool
lit table n i s = slice_index table (i * n + s) == 1

-- a table of that size has the bytes of node i
abbrev pub RowAt : ℕ → ℕ → ℕ → Type 0
RowAt n size i = i * n + n ≤ size

abbrev pub RowsAt : ℕ → ℕ → List Term → Type 0
RowsAt n size ks = AllByRecursion (λ k. RowAt n size k.node) ks

abbrev pub coefficients : List Term → ℕ
coefficients ks = sum_by (λ k. k.coefficient) ks

-- the coefficients of the terms whose node satisfies P
abbrev pub coefficients_of : (ℕ → Bool) → List Term → ℕ
coefficients_of P ks = sum_by (λ k. cond (P k.node) k.coefficient 0) ks

-- what it takes to sum the terms with a truth table of that size
pub record ReadyTerms (M : Meaning) (size : ℕ) (ks : List Term) : Type 0 where
  pub room : RowsAt M.states size ks
  pub light : coefficients ks * M.mass ≤ 1000000000000000000

pub record ReadySum (M : Meaning) (size : ℕ) (ts : List Term) (threshold : ℕ) (r : Run) : Type 0 where
  pub within : r.first + r.count ≤ length ts
  pub low : threshold * M.mass ≤ 1000000000000000000
  pub terms : ReadyTerms M size (entries ts r)

abbrev pub no_target : Target
no_target = record { state = 0; weight = 0 }
