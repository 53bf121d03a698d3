use Rattle.std.proofs.Common.{◌≡◌, ℕ, ◌<◌, ◌≤◌, List, length, drop}
use Rattle.formulas.specs.declared.words.Mode.{Mode}
use Rattle.formulas.specs.declared.words.Mode.TheVariants.{Between, InWord, InComment}
use Rattle.formulas.specs.Words.{words, onward}

-- a word that the scan is in began at or after p, lies before the scan and within n bytes
abbrev pub Begun : Mode → ℕ → ℕ → ℕ → Type 0
Begun Between p at n = Unit {0}
Begun (InWord s) p at n = (p ≤ s) × (s < at) × (at ≤ n)
Begun InComment p at n = Unit {0}

pub record Scan (text : List ℕ) (p : ℕ) (m : Mode) (at : ℕ) : Type 0 where
  pub same : words m at (drop at text) ≡ onward text p
  pub low : p ≤ at
  pub begun : Begun m p at (length text)
