-- In a fitting list of lines, the truth of each line is read from the truths of all.
use Rattle.std.proofs.Common.{◌≡◌, ℕ, ◌<◌, List, length, get_or}
use Rattle.std.proofs.ByRecursion.{All-weaker}
use Rattle.systems.specs.Meaning.{Meaning}
use Rattle.formulas.specs.Laws.{CourseLaw}
use Rattle.formulas.specs.Lines.{state, dist, Line, constant, both, non, step, sum}
use Rattle.formulas.specs.Right.{Below}
use Rattle.formulas.specs.Truths.{Truth, truth, truths, never}
use Rattle.formulas.specs.WellFormed.{line_at, Part, Fits, Fitting}

abbrev pub look : List Truth → ℕ → Truth
look T i = get_or T i never

-- the parts of a line that fits come before it
fits_below : (ls : List Line) (i : ℕ) (l : Line) → Fits ls i l → Below i l
fits_below ls i (constant σ b) h = tt
fits_below ls i (both σ j k) h = (h.0.before, h.1.before)
fits_below ls i (non σ j) h = h.before
fits_below ls i (step a ms hs) h =
    (All-weaker (Part ls i dist) (λ d. d < i) (λ d p. p.before) ms h.1, All-weaker (Part ls i dist) (λ d. d < i) (λ d p. p.before) hs h.2)
fits_below ls i (sum t ks) h = All-weaker (λ k. Part ls i state k.node) (λ k. k.node < i) (λ k p. p.before) ks h

pub truths-at : CourseLaw → (S : Meaning) (ls : List Line) → Fitting ls → (i : ℕ) → i < length ls → look (truths S ls) i ≡ truth S (truths S ls) (line_at ls i)
truths-at course S ls fit i h = course S ls i (λ j l. fits_below ls j (line_at ls j) (fit j l)) h
