-- Formulas whose parts are in order, and the bounds of their sums.
use Rattle.std.specs.Prelude.{◌≡◌, ℕ, ◌*◌, ◌<◌, ◌≤◌, true, List, length, sum_by, slice_index_or}
use Rattle.std.specs.List.{AllByRecursion}
use Rattle.formulas.specs.Lines.{Sort, state, dist, Line, constant, both, non, step, sum, sort, Formula}

-- line i; what stands past the end does not matter
abbrev pub line_at : List Line → ℕ → Line
line_at ls i = slice_index_or ls i (constant state true)

-- line j is of the sort σ, and comes before line i
pub record Part (ls : List Line) (i : ℕ) (σ : Sort) (j : ℕ) : Type 0 where
  pub before : j < i
  pub sorted : sort (line_at ls j) ≡ σ

-- what line i says is said of parts before it, of the right sort; an action is one of 32
abbrev pub Fits : List Line → ℕ → Line → Type 0
Fits ls i (constant σ b) = Unit {0}
Fits ls i (both σ j k) = Part ls i σ j × Part ls i σ k
Fits ls i (non σ j) = Part ls i σ j
Fits ls i (step a ms hs) = (a < 32) × AllByRecursion (Part ls i dist) ms × AllByRecursion (Part ls i dist) hs
Fits ls i (sum t ks) = AllByRecursion (λ k. Part ls i state k.node) ks

-- every line fits
abbrev pub Fitting : List Line → Type 0
Fitting ls = (i : ℕ) → i < length ls → Fits ls i (line_at ls i)

-- every line fits, and the root speaks of states; tables that hold a formula have such a one
pub record WellFormed (F : Formula) : Type 0 where
  pub lines : Fitting F.lines
  pub root : Part F.lines (length F.lines) state F.root

-- with mass m removed, coefficients are at least 1, and their sum and the threshold are at most 1,000 × m
abbrev pub Bounded : ℕ → Line → Type 0
Bounded m (constant σ b) = Unit {0}
Bounded m (both σ i j) = Unit {0}
Bounded m (non σ i) = Unit {0}
Bounded m (step a ms hs) = Unit {0}
Bounded m (sum t ks) = AllByRecursion (λ k. 1 ≤ k.coefficient) ks × (sum_by (λ k. k.coefficient) ks ≤ 1000 * m) × (t ≤ 1000 * m)
