-- The third pass: what moving a node to the front leaves.
use Rattle.std.specs.Prelude.{◌≡◌, ℕ, ◌+◌, Bool, List, ◌==◌, slice_index, slice_index_or, slice_set}
use Rattle.formulas.specs.declared.node.Fills.{Fills}
use Rattle.formulas.specs.Lines.{Line, line}
use Rattle.formulas.specs.Tables.{Slots}
use Rattle.simplification.specs.Simplify.{renumber, rank, compact}
use Rattle.simplification.specs.Tables.{blank_node}
use Rattle.simplification.specs.Moving.{LaidAt}

-- the map has the new number of each node that was moved
abbrev pub new_number : List ℕ → ℕ → ℕ
new_number to j = slice_index to j

-- and a tick for those still to be moved
abbrev pub is_ticked : List ℕ → ℕ → Bool
is_ticked to j = slice_index to j == 1

-- node i is moved to the end of what is used, and gets that number
pub record KeptAt (i : ℕ) (f : Fills) (s : Slots) (to : List ℕ) (f' : Fills) (s' : Slots) (to' : List ℕ) : Type 0 where
  pub laid :
      LaidAt (renumber (new_number to) (line s.terms s.alternatives (slice_index_or s.nodes i blank_node))) f.terms f.alternatives s.terms s.alternatives
      (slice_index_or s'.nodes f.nodes blank_node) f'.terms f'.alternatives s'.terms s'.alternatives
  pub nodes : s'.nodes ≡ slice_set s.nodes f.nodes (slice_index_or s'.nodes f.nodes blank_node)
  pub numbers : to' ≡ slice_set to i f.nodes
  pub count : f'.nodes ≡ f.nodes + 1

-- nothing changes
pub record GoneAt (f : Fills) (s : Slots) (to : List ℕ) (f' : Fills) (s' : Slots) (to' : List ℕ) : Type 0 where
  pub used : f' ≡ f
  pub tables : s' ≡ s
  pub numbers : to' ≡ to

-- the lines that are ticked, under their numbers among these
abbrev pub compacted : (ℕ → Bool) → List Line → List Line
compacted keep ls = compact keep (rank keep) 0 ls
