-- What a system of any kind means.
use Rattle.systems.specs.declared.any.AnySystem.{AnySystem}
use Rattle.systems.specs.declared.any.AnySystem.TheVariants.{Component, Lane, Empty}
use Rattle.systems.specs.contracts.component.ComponentSystem.TheImpl as component
use Rattle.systems.specs.contracts.lane.LaneSystem.TheImpl as lane
use Rattle.systems.specs.contracts.empty.EmptySystem.TheImpl as empty
use Rattle.systems.specs.Meaning.{Meaning}

abbrev pub any_meaning : AnySystem → Meaning
any_meaning (Component s) = (component.ghosts).meaning s
any_meaning (Lane s) = (lane.ghosts).meaning s
any_meaning (Empty s) = (empty.ghosts).meaning s
