-- Worked examples: systems, formulas, and what the definitions say of them.
use Rattle.std.specs.Prelude.{◌≡◌, ℕ, Bool, true, false, List, [], ◌∷◌}
use Rattle.std.specs.List.{AllByRecursion}
use Rattle.systems.specs.declared.records.MoveRecord.{MoveRecord}
use Rattle.systems.specs.declared.system.Target.{Target}
use Rattle.systems.specs.Actions.{has}
use Rattle.systems.specs.Kinds.{empty_meaning, lane_meaning}
use Rattle.systems.specs.Meaning.{Meaning}
use Rattle.systems.specs.Piles.{pile}
use Rattle.systems.specs.Tables.{table_meaning}
use Rattle.formulas.specs.Layout.{fills}
use Rattle.formulas.specs.Lines.{Formula}
use Rattle.formulas.specs.Trees.{Tree, leaf, conj, dia, here, at_least, none, product, formula_of}
use Rattle.formulas.specs.Truths.{holds}
use Rattle.quotient.specs.Quotient.{quotient}
use Rattle.simplification.specs.Laws.{only}
use Rattle.simplification.specs.Simplify.{simplify}

-- the sets {0} and {}
abbrev pub on_zero : ℕ → Bool
on_zero = has (record { bits = 1 })

abbrev pub on_none : ℕ → Bool
on_none = has (record { bits = 0 })

abbrev move : ℕ → ℕ → ℕ → ℕ → MoveRecord
move state action first count = record { state = state; action = action; first = first; count = count }

abbrev target : ℕ → ℕ → Target
target state weight = record { state = state; weight = weight }

-- a worker: on action 0 it is busy with 750 of 1,000 and free with the rest, on action 1 it is free again
abbrev pub worker : Meaning
worker = table_meaning 2 (move 0 0 0 2 ∷ move 1 1 2 1 ∷ []) (target 1 750 ∷ target 0 250 ∷ target 0 1000 ∷ [])

-- a component of one state that never moves
abbrev pub still : Meaning
still = table_meaning 1 [] []

-- on action 0 it goes to a state that has action 1, or to one that has action 2
abbrev pub fork : Meaning
fork = table_meaning 3 (move 0 0 0 1 ∷ move 0 0 1 1 ∷ move 1 1 2 1 ∷ move 2 2 2 1 ∷ []) (target 1 1000 ∷ target 2 1000 ∷ target 0 1000 ∷ [])

-- (>= (* c (prob S)) t)
abbrev pub likely : ℕ → Tree → ℕ → Tree
likely c s t = at_least (product c s none) t

-- (dia a true)
abbrev pub can : ℕ → Tree
can a = dia a (leaf true)

-- (dia 0 (>= (* 1000 (prob (dia 1 true))) t))
abbrev pub busy : ℕ → Formula
busy t = formula_of (dia 0 (likely 1000 (can 1) t))

abbrev pub certain : ℕ → Tree
certain a = likely 1000 (can a) 1000

pub data Row : Type 0 where
  -- whether the formula holds of the system
  holding : Meaning → Formula → Bool → Row
  -- how many nodes, terms and alternatives the formula has
  sized : Formula → ℕ → ℕ → ℕ → Row
  -- what the formula is
  being : Formula → Formula → Row

abbrev pub Established : Row → Type 0
Established (holding S F b) = holds S F ≡ b
Established (sized F n t a) = fills F.lines ≡ record { nodes = n; terms = t; alternatives = a }
Established (being F G) = F ≡ G

abbrev pub without_worker : Formula → Formula
without_worker F = quotient on_zero worker F

abbrev pub examples : List Row
examples =
    holding worker (busy 750) true
    ∷ holding worker (busy 751) false
    ∷ holding (pile on_zero worker worker) (busy 937) true
    ∷ holding (pile on_zero worker worker) (busy 938) false
    -- both workers removed
    ∷ holding (empty_meaning on_zero) (without_worker (without_worker (busy 937))) true
    ∷ holding (empty_meaning on_zero) (without_worker (without_worker (busy 938))) false
    ∷ sized (without_worker (busy 937)) 12 5 4
    ∷ sized (simplify (without_worker (busy 937))) 4 1 2
    ∷ being (simplify (without_worker (busy 937))) (formula_of (dia 0 (likely 250000 (can 1) 187000)))
    -- sums without terms
    ∷ holding (empty_meaning on_zero) (formula_of (here (at_least none 0))) true
    ∷ holding (empty_meaning on_zero) (formula_of (here (at_least none 1))) false
    ∷ being (simplify (formula_of (here (likely 1000 (leaf true) 1000)))) (only true)
    ∷ being (simplify (formula_of (here (likely 999 (leaf true) 1000)))) (only false)
    -- one that never moves blocks a shared action
    ∷ holding (pile on_zero still worker) (formula_of (can 0)) false
    ∷ holding (pile on_none still worker) (formula_of (can 0)) true
    ∷ holding (lane_meaning 1 0 1 100) (busy 900) true
    ∷ holding (lane_meaning 1 0 1 100) (busy 901) false
    -- a diamond does not split over "and"
    ∷ holding fork (formula_of (conj (dia 0 (certain 1)) (dia 0 (certain 2)))) true
    ∷ holding fork (formula_of (dia 0 (conj (certain 1) (certain 2)))) false
    ∷ []

abbrev pub WorkedExamples : Type 0
WorkedExamples = AllByRecursion Established examples
