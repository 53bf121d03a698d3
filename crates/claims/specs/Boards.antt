-- Tables that hold a formula, with what is known of its truths on a system.
use Rattle.std.specs.Prelude.{◌≡◌, ℕ, ◌+◌, ◌*◌, ◌/◌, ◌<◌, ◌≤◌, true, false, ◌||◌, ltb, List, length, take, nat_lt, slice_index, slice_index_or}
use Rattle.std.specs.List.{AllByRecursion}
use Rattle.systems.specs.Meaning.{Meaning}
use Rattle.formulas.specs.declared.node.Node.{Node}
use Rattle.formulas.specs.declared.node.Run.{Run}
use Rattle.formulas.specs.declared.node.Term.{Term}
use Rattle.formulas.specs.Lines.{line, lines, entries}
use Rattle.formulas.specs.Laws.{TruthLaw}
use Rattle.formulas.specs.Right.{AllRight}
use Rattle.formulas.specs.Tables.{contents, stands_in}
use Rattle.formulas.specs.Truths.{Truth, truth, truths, never, at_node}
use Rattle.claims.specs.declared.claim.Claim.{Claim}
use Rattle.formulas.specs.declared.tables.Tables.{Tables}
use Rattle.claims.specs.Verdicts.{byte}

-- the truths of the formula that the tables hold
abbrev pub truths_in : Meaning → Tables → List Truth
truths_in M t = truths M (lines t.nodes.now t.terms.now t.alternatives.now)

-- the greatest mass that may have been removed for M to be judged
abbrev pub most_removed : Meaning → ℕ
most_removed M = 1000000000000000 / M.mass

-- the tables hold a formula that may be judged on M
pub record SitsIn (M : Meaning) (ns : List Node) (ts : List Term) (alts : List ℕ) : Type 0 where
  pub few : length ns ≤ 1048576
  pub right : AllRight ns ts alts (most_removed M)
  pub solved : (i : ℕ) (d : Node) → i < length ns → slice_index_or (truths M (lines ns ts alts)) i never ≡ truth M (truths M (lines ns ts alts)) (line ts alts (slice_index_or ns i d))

abbrev pub Sits : Meaning → Tables → Type 0
Sits M t = SitsIn M t.nodes.now t.terms.now t.alternatives.now

-- the bytes of the nodes below i are their truths
abbrev pub Agrees : Meaning → List Truth → List ℕ → ℕ → Type 0
Agrees M T table i = (j s : ℕ) → j < i → s < M.states → slice_index table (j * M.states + s) ≡ byte (at_node T j s)

-- besides, a truth table of n states has the truths of the nodes below i
pub record Board (M : Meaning) (t : Tables) (i n : ℕ) (table : List ℕ) : Type 0 where
  pub sits : Sits M t
  pub nodes : i ≤ length t.nodes.now
  pub states : n ≡ M.states
  pub rows : i * M.states ≤ length table
  pub agrees : Agrees M (truths_in M t) table i

-- a run of alternatives that come before node i
pub record Before (t : Tables) (i : ℕ) (r : Run) : Type 0 where
  pub within : r.first + r.count ≤ length t.alternatives.now
  pub below : AllByRecursion (λ d. d < i) (entries t.alternatives.now r)

-- the claim passes the tests of judge, with a truth table and a row of these lengths
pub record Passed (M : Meaning) (c : Claim) (t : Tables) (size len : ℕ) : Type 0 where
  pub held : stands_in c.fills c.root c.mass (contents t) ≡ true
  pub light : ltb 1000000000000000 (c.mass * M.mass) ≡ false
  pub room : (nat_lt size (c.fills.nodes * M.states) || nat_lt len c.fills.nodes) ≡ false
  pub right : AllRight (take c.fills.nodes t.nodes.now) (take c.fills.terms t.terms.now) (take c.fills.alternatives t.alternatives.now) c.mass
  pub law : TruthLaw
