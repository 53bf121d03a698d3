-- The first pass: what it sees of the nodes before, and what it leaves at a node's place.
use Rattle.std.specs.Prelude.{◌≡◌, ℕ, ◌-◌, ◌<◌, true, false, cond, List, [], map, length, get_or, slice_index, slice_index_or, slice_set}
use Rattle.formulas.specs.declared.node.Node.{Node}
use Rattle.formulas.specs.Lines.{Sort, state, Line, constant, both, non, step, sum, line}
use Rattle.formulas.specs.Tables.{Slots}
use Rattle.simplification.specs.declared.settle.Before.{Before}
use Rattle.simplification.specs.declared.settle.Seen.{Seen}
use Rattle.simplification.specs.declared.settle.Seen.TheVariants as see
use Rattle.simplification.specs.Simplify.{Tone, yes, no, neither, tone_of, Outcome, became, non_line, step_line, sum_line, alternatives_left, has_yes, terms_left, yes_part, blank, outcomes}
use Rattle.simplification.specs.Tables.{blank_node}
use Rattle.simplification.specs.Moving.{LaidAt}

-- what the code has for a tone
abbrev pub shade : Seen → Tone
shade see.Yes = yes
shade see.No = no
shade see.Open = neither

-- what became of the lines before, as far as it takes to settle the next: the map has their numbers, the nodes have their tones
abbrev pub glance : List Node → List ℕ → ℕ → Outcome
glance ns to j = record { to = slice_index to j; line = line [] [] (slice_index_or ns (slice_index to j) blank_node) }

-- what stands at the place of an and; yes where its users take a part
abbrev pub both_left : Sort → Tone → Tone → ℕ → ℕ → Line
both_left σ yes yes i j = constant σ true
both_left σ yes no i j = constant σ false
both_left σ yes neither i j = constant σ true
both_left σ no p i j = constant σ false
both_left σ neither yes i j = constant σ true
both_left σ neither no i j = constant σ false
both_left σ neither neither i j = both σ i j

-- what stands at the place of a line after the first pass
abbrev pub leaves : (ℕ → Outcome) → Line → Line
leaves E (constant σ b) = constant σ b
leaves E (both σ i j) = both_left σ (tone_of E i) (tone_of E j) (E i).to (E j).to
leaves E (non σ i) = non_line σ (tone_of E i) (E i).to
leaves E (step a ms hs) = cond (has_yes E hs) (constant state true) (step_line a (alternatives_left E ms) (alternatives_left E hs))
leaves E (sum t ks) = sum_line (t - yes_part E ks) (terms_left E ks)

-- the map leads from j to a node
abbrev pub Led : List Node → List ℕ → ℕ → Type 0
Led ns to j = (j < length to) × (slice_index to j < length ns)

-- the same as the code has it
abbrev pub glance_of : Before → ℕ → Outcome
glance_of b = glance b.nodes.now b.map.now

abbrev pub LedBy : Before → ℕ → Type 0
LedBy b = Led b.nodes.now b.map.now

-- node i becomes what is left of its line, at the places t and a, and the map gets its number
pub record SettledAt (i t a : ℕ) (s : Slots) (to : List ℕ) (t' a' : ℕ) (s' : Slots) (to' : List ℕ) : Type 0 where
  pub number : get_or to' i 0 ≡ (became i (glance s.nodes to) (line s.terms s.alternatives (slice_index_or s.nodes i blank_node))).to
  pub laid :
      LaidAt (leaves (glance s.nodes to) (line s.terms s.alternatives (slice_index_or s.nodes i blank_node))) t a s.terms s.alternatives
      (slice_index_or s'.nodes i blank_node) t' a' s'.terms s'.alternatives
  pub nodes : s'.nodes ≡ slice_set s.nodes i (slice_index_or s'.nodes i blank_node)
  pub numbers : to' ≡ slice_set to i (slice_index to' i)

-- all lines after the pass, and the numbers under which their users find them
abbrev pub left_lines : List Line → List Line
left_lines ls = map (leaves (λ j. get_or (outcomes ls) j blank)) ls

abbrev pub left_numbers : List Line → List ℕ
left_numbers ls = map (λ o. o.to) (outcomes ls)
