-- Simplification: yes and no are worked into the lines that use them, and lines that the root no longer reaches are dropped.
use Rattle.std.specs.Prelude.{ℕ, zero, suc, ◌-◌, Bool, true, false, cond, not, List, [], ◌∷◌, ◌++◌, map, length, fold, sum_by, filter, ◌==◌, nat_eq, nat_lt, slice_index_or}
use Rattle.formulas.specs.declared.node.Term.{Term}
use Rattle.formulas.specs.Lines.{Sort, state, dist, Line, constant, both, non, step, sum, Formula}
use Rattle.formulas.specs.Truths.{any}

-- what a line is seen to be: yes, no, or neither
pub data Tone : Type 0 where
  yes no neither : Tone

abbrev pub tone : Line → Tone
tone (constant σ true) = yes
tone (constant σ false) = no
tone (both σ i j) = neither
tone (non σ i) = neither
tone (step a ms hs) = neither
tone (sum t ks) = neither

abbrev pub is_yes : Tone → Bool
is_yes yes = true
is_yes no = false
is_yes neither = false

abbrev pub is_no : Tone → Bool
is_no yes = false
is_no no = true
is_no neither = false

abbrev pub is_neither : Tone → Bool
is_neither yes = false
is_neither no = false
is_neither neither = true

-- what becomes of a line: a line, and the number under which its users find it
pub record Outcome : Type 0 where
  pub to : ℕ
  pub line : Line

-- a line that stays at its place
abbrev pub own : ℕ → Line → Outcome
own n l = record { to = n; line = l }

-- an and, by what its parts are: no with a no part, yes with two yes parts; with one yes part its users take the other
abbrev pub both_outcome : ℕ → Sort → Tone → Tone → Outcome → Outcome → Outcome
both_outcome n σ yes yes a b = own n (constant σ true)
both_outcome n σ yes no a b = own n (constant σ false)
both_outcome n σ yes neither a b = b
both_outcome n σ no p a b = own n (constant σ false)
both_outcome n σ neither yes a b = a
both_outcome n σ neither no a b = own n (constant σ false)
both_outcome n σ neither neither a b = own n (both σ a.to b.to)

-- a not, by what its part is
abbrev pub non_line : Sort → Tone → ℕ → Line
non_line σ yes i = constant σ false
non_line σ no i = constant σ true
non_line σ neither i = non σ i

-- a step without alternatives is no
abbrev pub step_line : ℕ → List ℕ → List ℕ → Line
step_line a [] [] = constant state false
step_line a [] (h ∷ hs) = step a [] (h ∷ hs)
step_line a (m ∷ ms) hs = step a (m ∷ ms) hs

abbrev pub coefficients : List Term → ℕ
coefficients ks = sum_by (λ k. k.coefficient) ks

-- a sum with threshold 0 is yes, one whose coefficients do not add up to the threshold is no
abbrev pub sum_line : ℕ → List Term → Line
sum_line t ks = cond (t == 0) (constant dist true) (cond (nat_lt (coefficients ks) t) (constant dist false) (sum t ks))

-- from here on E tells what became of the lines before
abbrev pub tone_of : (ℕ → Outcome) → ℕ → Tone
tone_of E j = tone (E j).line

-- the alternatives that are not no
abbrev pub alternatives_left : (ℕ → Outcome) → List ℕ → List ℕ
alternatives_left E ds = map (λ d. (E d).to) (filter (λ d. not (is_no (tone_of E d))) ds)

-- whether one of the alternatives is yes
abbrev pub has_yes : (ℕ → Outcome) → List ℕ → Bool
has_yes E ds = any (λ d. is_yes (tone_of E d)) ds

-- a term with its line under another number
abbrev pub retarget : (ℕ → ℕ) → Term → Term
retarget f k = record { coefficient = k.coefficient; node = f k.node }

-- the terms that are neither yes nor no
abbrev pub terms_left : (ℕ → Outcome) → List Term → List Term
terms_left E ks = map (retarget (λ j. (E j).to)) (filter (λ k. is_neither (tone_of E k.node)) ks)

-- what the terms that are yes take off the threshold
abbrev pub yes_part : (ℕ → Outcome) → List Term → ℕ
yes_part E ks = coefficients (filter (λ k. is_yes (tone_of E k.node)) ks)

-- what becomes of line n
abbrev pub became : ℕ → (ℕ → Outcome) → Line → Outcome
became n E (constant σ b) = own n (constant σ b)
became n E (both σ i j) = both_outcome n σ (tone_of E i) (tone_of E j) (E i) (E j)
became n E (non σ i) = own n (non_line σ (tone_of E i) (E i).to)
became n E (step a ms hs) =
    own n (cond (has_yes E hs) (constant state true) (step_line a (alternatives_left E ms) (alternatives_left E hs)))
became n E (sum t ks) = own n (sum_line (t - yes_part E ks) (terms_left E ks))

-- stands for no line
abbrev pub blank : Outcome
blank = own 0 (constant state true)

-- line after line, each from what became of those before it
abbrev pub next_outcome : List Outcome → Line → List Outcome
next_outcome E l = E ++ (became (length E) (λ j. slice_index_or E j blank) l ∷ [])

abbrev pub outcomes : List Line → List Outcome
outcomes ls = fold next_outcome [] ls

-- the formula of what became of the lines; where users take another line, a copy of it stands that nobody uses
abbrev pub settle : Formula → Formula
settle F = record {
  lines = map (λ o. o.line) (outcomes F.lines);
  root = (slice_index_or (outcomes F.lines) F.root blank).to;
}

-- the numbers of the lines that a line is made of
abbrev pub parts : Line → List ℕ
parts (constant σ b) = []
parts (both σ i j) = i ∷ j ∷ []
parts (non σ i) = i ∷ []
parts (step a ms hs) = ms ++ hs
parts (sum t ks) = map (λ k. k.node) ks

abbrev pub member : ℕ → List ℕ → Bool
member i xs = any (λ x. nat_eq x i) xs

-- from the last line back to line i: what is reached, and the parts of what is reached
abbrev pub reached : ℕ → List Line → List ℕ → List ℕ
reached i [] r = r
reached i (l ∷ ls) r = let later = reached (suc i) ls r in cond (member i later) (parts l ++ later) later

-- whether the root reaches line i
abbrev pub kept : Formula → ℕ → Bool
kept F i = member i (reached 0 F.lines (F.root ∷ []))

-- how many numbers below i are kept
abbrev pub rank : (ℕ → Bool) → ℕ → ℕ
rank keep zero = 0
rank keep (suc i) = cond (keep i) (suc (rank keep i)) (rank keep i)

-- the number of line i among the lines that are kept
abbrev pub place : Formula → ℕ → ℕ
place F i = rank (kept F) i

abbrev pub renumber : (ℕ → ℕ) → Line → Line
renumber f (constant σ b) = constant σ b
renumber f (both σ i j) = both σ (f i) (f j)
renumber f (non σ i) = non σ (f i)
renumber f (step a ms hs) = step a (map f ms) (map f hs)
renumber f (sum t ks) = sum t (map (retarget f) ks)

-- the lines that are kept, renumbered; the first of them is line i
abbrev pub compact : (ℕ → Bool) → (ℕ → ℕ) → ℕ → List Line → List Line
compact keep f i [] = []
compact keep f i (l ∷ ls) = cond (keep i) (renumber f l ∷ compact keep f (suc i) ls) (compact keep f (suc i) ls)

-- the lines that the root reaches, in their order
abbrev pub prune : Formula → Formula
prune F = record { lines = compact (kept F) (place F) 0 F.lines; root = place F F.root }

abbrev pub simplify : Formula → Formula
simplify F = prune (settle F)
