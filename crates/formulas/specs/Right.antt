-- What is right with each node of a table that holds a formula.
use Rattle.std.specs.Prelude.{ℕ, ◌+◌, ◌*◌, ◌<◌, ◌≤◌, true, List, length, sum_by, slice_index_or}
use Rattle.std.specs.List.{AllByRecursion}
use Rattle.formulas.specs.declared.node.Node.{Node}
use Rattle.formulas.specs.declared.node.Node.TheVariants.{State, Dist}
use Rattle.formulas.specs.declared.node.StateNode.{StateNode}
use Rattle.formulas.specs.declared.node.DistNode.{DistNode}
use Rattle.formulas.specs.declared.node.StateNode as sn
use Rattle.formulas.specs.declared.node.DistNode as dn
use Rattle.formulas.specs.declared.node.Term.{Term}
use Rattle.formulas.specs.declared.node.Run.{Run}
use Rattle.formulas.specs.Lines.{state, Line, constant, both, non, step, sum, part}

-- the parts of line i come before it
abbrev pub Below : ℕ → Line → Type 0
Below i (constant σ b) = Unit {0}
Below i (both σ j k) = (j < i) × (k < i)
Below i (non σ j) = j < i
Below i (step a ms hs) = AllByRecursion (λ d. d < i) ms × AllByRecursion (λ d. d < i) hs
Below i (sum t ks) = AllByRecursion (λ k. k.node < i) ks

abbrev pub Formed : List Line → Type 0
Formed ls = (i : ℕ) → i < length ls → Below i (slice_index_or ls i (constant state true))

pub record RightStep (alts : List ℕ) (i : ℕ) (mv h : Run) : Type 0 where
  pub moves_within : mv.first + mv.count ≤ length alts
  pub here_within : h.first + h.count ≤ length alts
  pub moves_below : AllByRecursion (λ d. d < i) (part alts mv.first mv.count)
  pub here_below : AllByRecursion (λ d. d < i) (part alts h.first h.count)

pub record RightSum (ts : List Term) (m i least : ℕ) (r : Run) : Type 0 where
  pub within : r.first + r.count ≤ length ts
  pub low : least ≤ 1000 * m
  pub below : AllByRecursion (λ t. t.node < i) (part ts r.first r.count)
  pub light : sum_by (λ t. t.coefficient) (part ts r.first r.count) ≤ 1000 * m

abbrev pub RightState : List ℕ → ℕ → StateNode → Type 0
RightState alts i sn.TheVariants.Yes = Unit {0}
RightState alts i sn.TheVariants.No = Unit {0}
RightState alts i (sn.TheVariants.And j k) = (j < i) × (k < i)
RightState alts i (sn.TheVariants.Not j) = j < i
RightState alts i (sn.TheVariants.Step a mv h) = RightStep alts i mv h

abbrev pub RightDist : List Term → ℕ → ℕ → DistNode → Type 0
RightDist ts m i dn.TheVariants.Yes = Unit {0}
RightDist ts m i dn.TheVariants.No = Unit {0}
RightDist ts m i (dn.TheVariants.And j k) = (j < i) × (k < i)
RightDist ts m i (dn.TheVariants.Not j) = j < i
RightDist ts m i (dn.TheVariants.Sum least r) = RightSum ts m i least r

abbrev pub Right : List Term → List ℕ → ℕ → ℕ → Node → Type 0
Right ts alts m i (State x) = RightState alts i x
Right ts alts m i (Dist x) = RightDist ts m i x

abbrev pub AllRight : List Node → List Term → List ℕ → ℕ → Type 0
AllRight ns ts alts m = (i : ℕ) (d : Node) → i < length ns → Right ts alts m i (slice_index_or ns i d)
