-- Whether roles go on.
use Rattle.std.specs.Prelude.{ℕ, Bool, true, false, ◌<◌}
use Rattle.vm_model.specs.Program.{Program}
use Rattle.vm_world_law.specs.World.{World}
use Rattle.vm_world_law.specs.Turns.{StillAt}

-- whether a role goes on
abbrev pub GoesOn : Program → World → ℕ → Bool → Type 0
GoesOn p w r true = StillAt p w r → ⊥
GoesOn p w r false = StillAt p w r

-- the first roles don't
abbrev pub FrontStill : Program → World → ℕ → Type 0
FrontStill p w n = (r : ℕ) → r < n → StillAt p w r
