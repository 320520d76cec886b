-- How the roles of a world stand, by their numbers and names.
use Rattle.std.specs.Prelude.{ℕ, List, Option, Some, None, option_map, slice_get}
use Rattle.mg_text.specs.Call.{Name}
use Rattle.vm_model.specs.Program.{Program}
use Rattle.vm_model.specs.Messages.{or_nothing}
use Rattle.vm_world_law.specs.declared.stand.Stand.{Stand}
use Rattle.vm_world_law.specs.declared.stand.Stand.TheVariants as stands
use Rattle.vm_world_law.specs.World.{World}
use Rattle.vm_world_law.specs.Turns.{stand_of}

-- how the role of a number stands, where there is one
abbrev pub stand_at : Program → World → ℕ → Option Stand
stand_at p w r = option_map (λ role. stand_of p w r role.state) (slice_get w.roles r)

-- how a role of these names stands that hasn't ended
abbrev pub waiting_in : List Name → (peer : Option ℕ) → Stand
waiting_in names None = stands.Bound
waiting_in names (Some peer) = stands.Waits (or_nothing (slice_get names peer))
