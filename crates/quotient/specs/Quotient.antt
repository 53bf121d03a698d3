-- The quotient of a formula by a system R: what a formula says of R over any other system, said of the other alone.
use Rattle.std.specs.Prelude.{ℕ, ◌+◌, ◌*◌, Bool, true, false, List, [], ◌++◌, map, length, take, sum_by, slice_index_or}
use Rattle.std.specs.List.{range_with_len, flat_map}
use Rattle.systems.specs.declared.system.Target.{Target}
use Rattle.systems.specs.Meaning.{Meaning, Move, point}
use Rattle.systems.specs.Piles.{cross}
use Rattle.formulas.specs.declared.node.Term.{Term}
use Rattle.formulas.specs.Lines.{Sort, state, dist, Line, constant, both, non, step, sum, sort, Formula}

-- the moves of a state, by action
abbrev pub moves_of : Meaning → ℕ → List Move
moves_of R p = flat_map (R.moves p) (range_with_len 0 32)

-- the rows: the points of the states in order, so that row p is the point of p; then all moves, by state, action and place
unfoldable pub rows : Meaning → List Move
rows R = map (point R) (range_with_len 0 R.states) ++ flat_map (moves_of R) (range_with_len 0 R.states)

-- the row of a number
abbrev pub row : Meaning → ℕ → Move
row R r = slice_index_or (rows R) r []

-- the row of the first move of the state p on the action a
unfoldable pub first_row : Meaning → ℕ → ℕ → ℕ
first_row R p a = R.states + (sum_by (λ q. length (moves_of R q)) (range_with_len 0 p) + sum_by (λ b. length (R.moves p b)) (range_with_len 0 a))

-- the rows of all of them
abbrev pub move_rows : Meaning → ℕ → ℕ → List ℕ
move_rows R p a = range_with_len (first_row R p a) (length (R.moves p a))

-- how many lines a line gives: one for each state if it speaks of states, else one for each row
abbrev pub width : Meaning → Sort → ℕ
width R state = R.states
width R dist = length (rows R)

-- the number of the line that line i gives at the state or row p: what the lines before i give comes first
unfoldable pub place : Meaning → List Line → ℕ → ℕ → ℕ
place R ls i p = sum_by (λ l. width R (sort l)) (take i ls) + p

-- the lines of the parts ds at the state or row p
abbrev pub places : Meaning → List Line → List ℕ → ℕ → List ℕ
places R ls ds p = map (λ d. place R ls d p) ds

-- the lines of the parts ds at each move of p on a, the parts counted slowest
abbrev pub move_places : Meaning → List Line → List ℕ → ℕ → ℕ → List ℕ
move_places R ls ds p a = cross (place R ls) ds (move_rows R p a)

-- a step at the state p: on a shared action R takes part in each move;
-- on another action R moves while the other system stands still, or the other way round
abbrev pub new_step : Bool → Meaning → List Line → ℕ → List ℕ → List ℕ → ℕ → Line
new_step true R ls a ms hs p = step a (move_places R ls ms p a) (places R ls hs p)
new_step false R ls a ms hs p = step a (places R ls ms p) (move_places R ls ms p a ++ places R ls hs p)

-- a term where R goes to the target t
abbrev pub new_term : Meaning → List Line → Term → Target → Term
new_term R ls k t = record { coefficient = k.coefficient * t.weight; node = place R ls k.node t.state }

-- what a line of ls gives at the state or row p
unfoldable pub new_line : (ℕ → Bool) → Meaning → List Line → Line → ℕ → Line
new_line A R ls (constant σ b) p = constant σ b
new_line A R ls (both σ i j) p = both σ (place R ls i p) (place R ls j p)
new_line A R ls (non σ i) p = non σ (place R ls i p)
new_line A R ls (step a ms hs) p = new_step (A a) R ls a ms hs p
new_line A R ls (sum t ks) p = sum (t * R.mass) (cross (new_term R ls) ks (row R p))

-- all that a line gives, in order
abbrev pub new_lines : (ℕ → Bool) → Meaning → List Line → Line → List Line
new_lines A R ls l = map (new_line A R ls l) (range_with_len 0 (width R (sort l)))

-- what each line gives, in the order of the lines
abbrev pub quotient_lines : (ℕ → Bool) → Meaning → List Line → List Line
quotient_lines A R ls = flat_map (new_lines A R ls) ls

-- the quotient by R, where A has the shared actions: R starts in its state 0
abbrev pub quotient : (ℕ → Bool) → Meaning → Formula → Formula
quotient A R F = record { lines = quotient_lines A R F.lines; root = place R F.lines F.root 0 }
