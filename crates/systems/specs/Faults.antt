-- The number of each refusal, its place, and what it means.
use Rattle.std.specs.Prelude.{ℕ, Some, None, Option, List, codes}
use Rattle.systems.specs.declared.fault.Fault.{Fault}
use Rattle.systems.specs.declared.fault.Fault.TheVariants.{Number, Size, Mass}
use Rattle.systems.specs.declared.fault.MountFault.{MountFault}
use Rattle.systems.specs.declared.fault.MountFault.TheVariants.{Record, Weights, NoMemory}

-- none of these has a place
abbrev pub number : Fault → ℕ
number Number = 5
number Size = 9
number Mass = 10

abbrev pub meaning : Fault → List ℕ
meaning Number = codes "a number is outside its range or names nothing of the wanted kind, or put is take"
meaning Size = codes "the system has too many states or is too broad"
meaning Mass = codes "the product of the masses is above 10^15"

abbrev pub mount_number : MountFault → Option ℕ
mount_number (Record i) = Some 6
mount_number (Weights i) = Some 7
mount_number NoMemory = None

-- the place of the move
abbrev pub mount_place : MountFault → Option ℕ
mount_place (Record i) = Some i
mount_place (Weights i) = Some i
mount_place NoMemory = None

abbrev pub mount_meaning : MountFault → List ℕ
mount_meaning (Record i) = codes "the record at this place, one of its targets, or a size breaks a rule of components"
mount_meaning (Weights i) = codes "the weights of the move at this place do not add up to 1000"
mount_meaning NoMemory = codes "there is no memory for the component"
