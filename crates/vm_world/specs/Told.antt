-- Turns by which an object tells that a protocol method begins or is left.
use Rattle.std.specs.Prelude.{◌≡◌, ℕ, Bool, true, false, Option, Some, None}
use Rattle.vm_model.specs.Program.{Program}
use Rattle.vm_model.specs.Messages.{Messages}
use Rattle.vm_typed.specs.declared.telling.Telling.{Telling}
use Rattle.vm_typed.specs.Telling.{event_told, IsThere}
use Rattle.vm_world_law.specs.declared.role.Turned.TheVariants as answers
use Rattle.vm_world_law.specs.World.{Role, World}
use Rattle.vm_world_law.specs.Turns.{Advances}
use Rattle.vm_world.specs.Outcome.{Outcome, outcome}

-- the turn goes on, whatever the messages are, and tells this
pub record TurnTells (p : Program) (before after : Role) (telling : Telling) : Type 0 where
  pub there : IsThere p telling
  pub outcome_is : (me : ℕ) (q : Messages) → ◌≡◌ {A = Outcome}
      (record { role = after; messages = q; event = Some (event_told p telling); turned = answers.Went }) (outcome p me before q)

-- The role's turn goes on and tells this; or nothing has changed.
abbrev pub RoleTells : Program → (before after : Role) → Option Telling → Type 0
RoleTells p before after (Some telling) = TurnTells p before after telling
RoleTells p before after None = after ≡ before

-- The turn of a role counted an instruction; or nothing has changed.
abbrev pub WorldTells : Program → World → (r : ℕ) → Bool → World → Type 0
WorldTells p w r true v = Advances p w r v true
WorldTells p w r false v = v ≡ w
