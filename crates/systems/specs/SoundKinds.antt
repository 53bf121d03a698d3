-- The kinds of systems are sound.
use Rattle.std.specs.Prelude.{map, vec_items}
use Rattle.systems.specs.declared.component.Component.{Component}
use Rattle.systems.specs.contracts.component.ComponentSystem.TheImpl as component
use Rattle.systems.specs.Meaning.{Sound}
use Rattle.systems.specs.Indexed.{sound_index}

pub sound_component : (x : Component) → Sound ((component.ghosts).meaning x)
sound_component x = sound_index x.states x.breadth (vec_items x.targets) (map vec_items (vec_items x.cells)) x.good x.counted x.broad
