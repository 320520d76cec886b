-- What contracts see of a world: the program that its roles run, and the world.
use Rattle.vm_model.specs.Program.{Program}
use Rattle.vm_world_law.specs.World.{World}

pub record Seen : Type 0 where
  pub program : Program
  pub world : World
