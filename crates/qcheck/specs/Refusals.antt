-- The number, the place and the layer of each refusal, where it has them.
use Rattle.std.specs.Prelude.{ℕ, Some, None, Option}
use Rattle.systems.specs.Faults.{number as fault_number, mount_number, mount_place}
use Rattle.formulas.specs.declared.fault.Layer.{Layer}
use Rattle.formulas.specs.Faults.{number as read_number, place as read_place, layer as read_layer}
use Rattle.formulas.specs.Refusals.{number as refusal_number}
use Rattle.qcheck.specs.declared.refused.Refused.{Refused}
use Rattle.qcheck.specs.declared.refused.Refused.TheVariants.{System, Mount, Read, Claim}

abbrev pub number : Refused → Option ℕ
number (System f) = Some (fault_number f)
number (Mount f) = mount_number f
number (Read f) = Some (read_number f)
number (Claim r) = Some (refusal_number r)

abbrev pub place : Refused → Option ℕ
place (System f) = None
place (Mount f) = mount_place f
place (Read f) = read_place f
place (Claim r) = None

abbrev pub layer : Refused → Option Layer
layer (System f) = None
layer (Mount f) = None
layer (Read f) = Some (read_layer f)
layer (Claim r) = None
