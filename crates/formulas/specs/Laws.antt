-- The laws of truth, of satisfaction and of layout.
use Rattle.std.specs.Prelude.{◌≡◌, ℕ, ◌<◌, true, List, length, slice_index_or}
use Rattle.std.specs.List.{AllByRecursion}
use Rattle.systems.specs.Meaning.{Meaning, Move}
use Rattle.formulas.specs.declared.node.Node.{Node}
use Rattle.formulas.specs.declared.node.Term.{Term}
use Rattle.formulas.specs.Stands.{stands}
use Rattle.formulas.specs.Lines.{state, Line, constant, line, lines, Formula}
use Rattle.formulas.specs.Layout.{node_table, term_table, alternative_table}
use Rattle.formulas.specs.Truths.{truth, truths, never}
use Rattle.formulas.specs.Right.{Formed}
use Rattle.formulas.specs.WellFormed.{WellFormed, Bounded}
use Rattle.formulas.specs.Satisfaction.{Iff, HoldsIn, HoldsOf, SatisfiedIn, SatisfiedOf}

-- in tables that hold a formula, each node's truth is that of its line over all the truths
abbrev pub TruthLaw : Type 0
TruthLaw =
    (S : Meaning) (ns : List Node) (ts : List Term) (alts : List ℕ) (root m i : ℕ) (d : Node) →
    stands ns ts alts root m ≡ true →
    i < length ns →
    slice_index_or (truths S (lines ns ts alts)) i never ≡ truth S (truths S (lines ns ts alts)) (line ts alts (slice_index_or ns i d))

-- so it is in every list of lines whose parts come before them
abbrev pub CourseLaw : Type 0
CourseLaw =
    (S : Meaning) (ls : List Line) (i : ℕ) →
    Formed ls →
    i < length ls →
    slice_index_or (truths S ls) i never ≡ truth S (truths S ls) (slice_index_or ls i (constant state true))

-- in the lines of tables that hold a formula, the parts of each line come before it
abbrev pub FormedLaw : Type 0
FormedLaw =
    (ns : List Node) (ts : List Term) (alts : List ℕ) (root m : ℕ) →
    stands ns ts alts root m ≡ true →
    Formed (lines ns ts alts)

-- a line holds in a state exactly if it is satisfied there
abbrev pub InLaw : Type 0
InLaw =
    (S : Meaning) (ls : List Line) (i s : ℕ) →
    Formed ls →
    i < length ls →
    Iff (HoldsIn S ls i s) (SatisfiedIn S ls s (slice_index_or ls i (constant state true)))

-- a line holds of a move or point exactly if it is satisfied by it
abbrev pub OfLaw : Type 0
OfLaw =
    (S : Meaning) (ls : List Line) (i : ℕ) (mv : Move) →
    Formed ls →
    i < length ls →
    Iff (HoldsOf S ls i mv) (SatisfiedOf S ls mv (slice_index_or ls i (constant state true)))

-- tables that hold a formula are the layout of their lines
abbrev pub LayoutLaw : Type 0
LayoutLaw =
    (ns : List Node) (ts : List Term) (alts : List ℕ) (root m : ℕ) →
    stands ns ts alts root m ≡ true →
    (node_table 0 0 (lines ns ts alts) ≡ ns) × (term_table (lines ns ts alts) ≡ ts) × (alternative_table (lines ns ts alts) ≡ alts)

-- the lines of a layout are the lines laid out
abbrev pub LinesLaw : Type 0
LinesLaw = (ls : List Line) → lines (node_table 0 0 ls) (term_table ls) (alternative_table ls) ≡ ls

-- tables that hold a formula: it is well-formed, and its sums keep to their bounds
abbrev pub HeldLaw : Type 0
HeldLaw =
    (ns : List Node) (ts : List Term) (alts : List ℕ) (root m : ℕ) →
    stands ns ts alts root m ≡ true →
    WellFormed (record { lines = lines ns ts alts; root = root }) × AllByRecursion (Bounded m) (lines ns ts alts)

-- and the tables of such a formula hold it
abbrev pub LaidLaw : Type 0
LaidLaw =
    (F : Formula) (m : ℕ) →
    WellFormed F →
    AllByRecursion (Bounded m) F.lines →
    stands (node_table 0 0 F.lines) (term_table F.lines) (alternative_table F.lines) F.root m ≡ true
