-- Tables that fill from the front, and whose counts stop at 2^32 - 1.
use Rattle.std.specs.Prelude.{◌≡◌, ℕ, ◌+◌, min, List, [], ◌∷◌, length, slice_set}
use Rattle.formulas.specs.declared.append.AppendList.{AppendList}

abbrev pub capped : ℕ → ℕ
capped n = min n 4294967295

-- the count after n more entries
abbrev pub raised : ℕ → ℕ → ℕ
raised i n = capped (i + n)

-- the entries ys written from the place i on, as far as the table xs reaches
abbrev pub written : {X : Type 0} → List X → ℕ → List X → List X
written xs i [] = xs
written xs i (y ∷ ys) = written (slice_set xs i y) (raised i 1) ys

-- a table, and how much of it is filled
pub record Table (X : Type 0) : Type 0 where
  pub slots : List X
  pub fill : ℕ

-- a table whose first n places are filled
abbrev pub upto : {X : Type 0} → List X → ℕ → Table X
upto xs n = record { slots = xs; fill = n }

abbrev pub table : {X : Type 0} → AppendList X → Table X
table l = upto l.slots.now l.fill

-- the entries xs stand behind those of the table, the first of them in the place n
pub record Puts {X : Type 0} (t : Table X) (xs : List X) (n : ℕ) (after : Table X) : Type 0 where
  pub place : n ≡ t.fill
  pub fill : after.fill ≡ raised t.fill (length xs)
  pub slots : after.slots ≡ written t.slots t.fill xs
