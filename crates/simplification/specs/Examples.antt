-- Formulas, and what they simplify to.
use Rattle.std.specs.Prelude.{◌≡◌, ℕ, true, false, List, [], ◌∷◌, map}
use Rattle.formulas.specs.declared.node.Term.{Term}
use Rattle.formulas.specs.Lines.{state, dist, Line, constant, both, step, sum, Formula}
use Rattle.simplification.specs.Simplify.{simplify}
use Rattle.simplification.specs.Laws.{only}

abbrev pub term : ℕ → ℕ → Term
term c i = record { coefficient = c; node = i }

abbrev pub formula : List Line → ℕ → Formula
formula ls r = record { lines = ls; root = r }

-- (here (>= (* c (prob true)) t))
abbrev pub here_prob : ℕ → ℕ → Formula
here_prob c t = formula (constant state true ∷ sum t (term c 0 ∷ []) ∷ step 0 [] (1 ∷ []) ∷ []) 2

-- (here (>= 0 t))
abbrev pub here_zero : ℕ → Formula
here_zero t = formula (sum t [] ∷ step 0 [] (0 ∷ []) ∷ []) 1

-- (dia 0 (>= (* 1000 (prob (dia 1 true))) 937)) with the worker removed that goes on action 0 to its second state with 750 of 1000,
-- else stays, and goes back on action 1
abbrev pub removed : Formula
removed = formula
    (constant dist true ∷ constant dist true ∷ constant dist true ∷ constant dist true
    ∷ step 1 (0 ∷ []) [] ∷ step 1 (1 ∷ []) (3 ∷ [])
    ∷ sum 937000 (term 1000000 4 ∷ []) ∷ sum 937000 (term 1000000 5 ∷ [])
    ∷ sum 937000 (term 750000 5 ∷ term 250000 4 ∷ []) ∷ sum 937000 (term 1000000 4 ∷ [])
    ∷ step 0 (8 ∷ []) [] ∷ step 0 [] [] ∷ []
    ) 10

-- an and with a yes is the other part, also behind another such and, and also for the root
abbrev pub alias : Formula
alias = formula (constant dist true ∷ step 0 (0 ∷ []) [] ∷ constant state true ∷ both state 1 2 ∷ both state 2 3 ∷ []) 4

-- a sum with yes and no among its terms
abbrev pub mixed : Formula
mixed = formula
    (constant state true ∷ constant state false ∷ constant dist true ∷ step 1 (2 ∷ []) []
    ∷ sum 700 (term 562 0 ∷ term 187 1 ∷ term 188 3 ∷ term 63 3 ∷ [])
    ∷ both dist 4 2 ∷ step 0 (5 ∷ []) [] ∷ []
    ) 6

-- a yes among the move alternatives stays, as does a sum whose coefficients add up to just the threshold
abbrev pub close : Formula
close = formula (constant dist true ∷ step 0 (0 ∷ []) [] ∷ sum 1000 (term 1000 1 ∷ []) ∷ step 1 (2 ∷ 0 ∷ []) [] ∷ []) 3

abbrev pub WorkedExamples : Type 0
WorkedExamples =
    map simplify (here_prob 1000 1000 ∷ here_prob 999 1000 ∷ here_zero 0 ∷ here_zero 1 ∷ removed ∷ alias ∷ mixed ∷ close ∷ [])
    ≡ only true ∷ only false ∷ only true ∷ only false
    ∷ formula (constant dist true ∷ step 1 (0 ∷ []) [] ∷ sum 187000 (term 250000 1 ∷ []) ∷ step 0 (2 ∷ []) [] ∷ []) 3
    ∷ formula (constant dist true ∷ step 0 (0 ∷ []) [] ∷ []) 1
    ∷ formula (constant dist true ∷ step 1 (0 ∷ []) [] ∷ sum 138 (term 188 1 ∷ term 63 1 ∷ []) ∷ step 0 (2 ∷ []) [] ∷ []) 3
    ∷ close
    ∷ []
