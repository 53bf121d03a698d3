-- When a formula holds: truth of each line in every state and of every move.
use Rattle.std.specs.Prelude.{ℕ, ◌*◌, Bool, false, cond, not, ◌&&◌, ◌||◌, List, [], ◌∷◌, ◌++◌, fold, sum_by, nat_le, slice_index_or}
use Rattle.systems.specs.Meaning.{Meaning, Move, point}
use Rattle.formulas.specs.declared.node.Term.{Term}
use Rattle.formulas.specs.Lines.{is_state, is_dist, Line, constant, both, non, step, sum, Formula}

-- the weight of the targets whose state satisfies P
abbrev pub weigh : (ℕ → Bool) → Move → ℕ
weigh P mv = sum_by (λ t. cond (P t.state) t.weight 0) mv

-- the sum of coefficient × weight over the terms, where `at` tells in which states a node holds
abbrev pub total : (ℕ → ℕ → Bool) → List Term → Move → ℕ
total at ks mv = sum_by (λ k. k.coefficient * weigh (at k.node) mv) ks

abbrev pub any : {X : Type 0} → (X → Bool) → List X → Bool
any p [] = false
any p (x ∷ xs) = p x || any p xs

-- whether a line holds in a state, where `at` and `of` tell the truth of the lines before it; one of the distribution sort holds in none
abbrev pub holds_at : Meaning → (ℕ → ℕ → Bool) → (ℕ → Move → Bool) → Line → ℕ → Bool
holds_at S at of (constant σ b) s = is_state σ && b
holds_at S at of (both σ i j) s = is_state σ && (at i s && at j s)
holds_at S at of (non σ i) s = is_state σ && not (at i s)
holds_at S at of (step a ms hs) s = any (λ mv. any (λ d. of d mv) ms) (S.moves s a) || any (λ d. of d (point S s)) hs
holds_at S at of (sum t ks) s = false

-- whether a line holds of a move or point; one of the state sort holds of none
abbrev pub holds_of : Meaning → (ℕ → ℕ → Bool) → (ℕ → Move → Bool) → Line → Move → Bool
holds_of S at of (constant σ b) mv = is_dist σ && b
holds_of S at of (both σ i j) mv = is_dist σ && (of i mv && of j mv)
holds_of S at of (non σ i) mv = is_dist σ && not (of i mv)
holds_of S at of (step a ms hs) mv = false
holds_of S at of (sum t ks) mv = nat_le (t * S.mass) (total at ks mv)

-- the truth of a line: in each state, and of each move or point
pub record Truth : Type 0 where
  pub at : ℕ → Bool
  pub of : Move → Bool

abbrev pub never : Truth
never = record { at = λ _. false; of = λ _. false }

abbrev pub at_node : List Truth → ℕ → ℕ → Bool
at_node T i = (slice_index_or T i never).at

abbrev pub of_node : List Truth → ℕ → Move → Bool
of_node T i = (slice_index_or T i never).of

abbrev pub truth : Meaning → List Truth → Line → Truth
truth S T l = record {
  at = λ s. holds_at S (at_node T) (of_node T) l s;
  of = λ mv. holds_of S (at_node T) (of_node T) l mv;
}

-- line after line, each from the truths of those before it
abbrev pub next_truth : Meaning → List Truth → Line → List Truth
next_truth S T l = T ++ (truth S T l ∷ [])

unfoldable pub truths : Meaning → List Line → List Truth
truths S ls = fold (next_truth S) [] ls

-- a formula holds of a system if its root holds in state 0
abbrev pub holds : Meaning → Formula → Bool
holds S F = at_node (truths S F.lines) F.root 0
