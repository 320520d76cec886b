-- Roles of a linked program that took their turns, and what is shown of them.
use Rattle.std.specs.Prelude.{◌≡◌, ◌<◌, ℕ, List, length, map, Bool, Some, slice_get, Contains}
use Rattle.vm_model.specs.Program.{Program}
use Rattle.vm_world_law.specs.declared.role.RoleMain.{RoleMain}
use Rattle.vm_world_law.specs.World.{World, IsBegun}
use Rattle.vm_world_law.specs.Turns as turning
use Rattle.vm_world_law.specs.Turns.{stands_in}
use Rattle.mg_trace.specs.Trace.{printed}
use Rattle.mg_runs.specs.declared.going.Gone.{Gone}
use Rattle.mg_runs.specs.Runs.{names_of}

-- the order names roles of the run, and each of them
pub record IsOrder (order : List ℕ) (mains : List RoleMain) : Type 0 where
  pub numbers : (i : ℕ) (r : ℕ) → slice_get order i ≡ Some r → r < length mains
  pub named : (r : ℕ) → r < length mains → Contains order r

-- They began at the `main`s of their classes and took turns in this order, up to the first moment at which every role has ended or waits,
-- or so
-- many instructions were counted.
pub record IsGone (program : Program) (mains : List RoleMain) (order : List ℕ) (limit : ℕ) (named : Bool) (gone : Gone) : Type 0 where
  pub first : World
  pub program_is : gone.world.program ≡ program
  pub begins : IsBegun program mains first
  pub runs : turning.IsRun program first order limit gone.world.world
  pub names_are : gone.names.items ≡ names_of mains
  pub counts : map (λ r. r.instructions) gone.roles.items ≡ map (λ r. r.count) gone.world.world.roles
  pub stands : map (λ r. r.stand) gone.roles.items ≡ stands_in program gone.world.world
  pub printed_is : gone.printed ≡ printed named (names_of mains) gone.world.world.events
