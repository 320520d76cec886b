-- Turns that tell nothing and look at no message, one after another.
use Rattle.std.specs.Prelude.{◌≡◌, ℕ, zero, suc, ◌+◌, Some, true, false, slice_get, slice_set}
use Rattle.vm_model.specs.Program.{Program}
use Rattle.vm_step.specs.Alone.{AllAlone}
use Rattle.vm_world_law.specs.World.{State, Runs, Over, Role, World}
use Rattle.vm_world_law.specs.Turns.{Advances}

abbrev pub StateAlone : Program → (k : ℕ) → (before after : State) → Type 0
StateAlone p k (Runs m) (Runs n) = AllAlone p m k n
StateAlone p k (Over ending) after = (k ≡ 0) × (after ≡ Over ending)
StateAlone p k _ _ = ⊥

-- so many steps of a role's machine
pub record RoleAlone (p : Program) (before : Role) (k : ℕ) (after : Role) : Type 0 where
  pub state : StateAlone p k before.state after.state
  pub count : after.count ≡ before.count + k

-- the world with another role at a place
abbrev pub with_role : World → (r : ℕ) → Role → World
with_role w r role = record { roles = slice_set w.roles r role; messages = w.messages; events = w.events }

-- so many turns of a role that change nothing but the role
pub record TurnsAlone (p : Program) (w : World) (r k : ℕ) (v : World) : Type 0 where
  pub before : Role
  pub after : Role
  pub there : slice_get w.roles r ≡ Some before
  pub alone : RoleAlone p before k after
  pub is : v ≡ with_role w r after

-- Turns of a role that count so many instructions: none where it has ended or waits, and several only where each is taken alone.
abbrev pub Counts : Program → World → (r k : ℕ) → World → Type 0
Counts p w r zero v = Advances p w r v false
Counts p w r (suc zero) v = Advances p w r v true
Counts p w r (suc (suc k)) v = TurnsAlone p w r (suc (suc k)) v
