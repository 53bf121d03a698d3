-- The facts of ghost fields have one proof at most.
use Rattle.std.specs.Prelude.{ℕ, List}
use Rattle.std.specs.Coded.{Unit-prop, le_prop, ×_prop}
use Rattle.std.proofs.Props.{props}
use Rattle.systems.specs.Meaning.{Meaning}
use Rattle.formulas.specs.declared.node.Node.{Node}
use Rattle.formulas.specs.declared.node.Node.TheVariants.{State, Dist}
use Rattle.formulas.specs.declared.node.StateNode as sn
use Rattle.formulas.specs.declared.node.DistNode as dn
use Rattle.formulas.specs.declared.node.Term.{Term}
use Rattle.formulas.specs.declared.tables.Tables.{Tables}
use Rattle.formulas.specs.Right.{Right}
use Rattle.claims.specs.declared.spot.Spot.{Spot}
use Rattle.claims.specs.declared.spot.Spot.TheVariants.{Along, Here}
use Rattle.claims.specs.Boards.{Board}
use Rattle.claims.specs.Spots.{Placed}

Right-prop : (ts : List Term) (alts : List ℕ) (m i : ℕ) (n : Node) → IsProp (Right ts alts m i n)
Right-prop ts alts m i (State sn.TheVariants.Yes) = Unit-prop
Right-prop ts alts m i (State sn.TheVariants.No) = Unit-prop
Right-prop ts alts m i (State (sn.TheVariants.And j k)) = ×_prop le_prop le_prop
Right-prop ts alts m i (State (sn.TheVariants.Not j)) = le_prop
Right-prop ts alts m i (State (sn.TheVariants.Step a mv h)) = Prim.hlevel props
Right-prop ts alts m i (Dist dn.TheVariants.Yes) = Unit-prop
Right-prop ts alts m i (Dist dn.TheVariants.No) = Unit-prop
Right-prop ts alts m i (Dist (dn.TheVariants.And j k)) = ×_prop le_prop le_prop
Right-prop ts alts m i (Dist (dn.TheVariants.Not j)) = le_prop
Right-prop ts alts m i (Dist (dn.TheVariants.Sum x r)) = Prim.hlevel props

pub Board-prop : (M : Meaning) (t : Tables) (i n : ℕ) (table : List ℕ) → IsProp (Board M t i n table)
Board-prop M t i n table = Prim.hlevel (Right-prop, props)

pub Placed-prop : (M : Meaning) (sp : Spot) → IsProp (Placed M sp)
Placed-prop M (Along s a k) = Unit-prop
Placed-prop M (Here s) = le_prop
