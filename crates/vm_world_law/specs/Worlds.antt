-- Each role of a world does what is meant, on the messages that the others sent to it.
use Rattle.std.specs.Prelude.{◌≡◌, ◌≢◌, ℕ, suc, List, [], ◌∷◌, Some, if◌then◌else◌, ◌==◌, slice_get}
use Rattle.mg_text.specs.Call.{Name}
use Rattle.mg_text.specs.declared.event.Event.{Event}
use Rattle.mg_text.specs.declared.event.Ending.{Ending}
use Rattle.mg_text.specs.declared.event.Ending.TheVariants as endings
use Rattle.mg_text.specs.declared.event.BadKind.{BadKind}
use Rattle.jv_values.specs.Values.{Finish, Wait, Ended, Inputs}
use Rattle.jv_values.specs.Alike.{Prefix}
use Rattle.vm_model.specs.Program.{Program}
use Rattle.vm_model.specs.Messages.{Messages}
use Rattle.vm_model.specs.Machine.{Machine}
use Rattle.vm_model.specs.Step.{step}
use Rattle.vm_world_law.specs.World.{Runs, Over, Role, World, turns, IsFresh, events_of, sent}
use Rattle.vm_world_law.specs.declared.stand.Stand.{Stand}
use Rattle.vm_world_law.specs.declared.stand.Stand.TheVariants as stands
use Rattle.vm_world_law.specs.Turns.{stand_of}
use Rattle.vm_world_law.specs.Meant.{finish_of, Holds, Means, RunsAsMeant}

-- what the others sent to a role, by their names; `k` is the number of the first of these roles
abbrev pub inputs_from : World → (r k : ℕ) → List Name → Inputs
inputs_from w r k [] = []
inputs_from w r k (name ∷ names) = if k == r then inputs_from w r (suc k) names else (name, sent w k r) ∷ inputs_from w r (suc k) names

abbrev pub inputs_of : World → ℕ → Inputs
inputs_of w r = inputs_from w r 0 w.messages.roles

-- The law of one role: on lists that hold what the others sent, whatever that is, the machine that begins here does what is meant with it.
abbrev pub DoesAsMeant : Program → ℕ → Machine → (Inputs → ℕ → Ended) → Type 0
DoesAsMeant p r start meant = (inputs : Inputs) (q : Messages) → Holds inputs q r [] → RunsAsMeant (step p r) start q (meant inputs)

-- What so many instructions showed is meant, by how the role stands.
module _ (meant : (budget : ℕ) → Ended) (count : ℕ) (events : List Event) where
  abbrev pub Shows : Stand → Type 0
  -- it ended: with one more than its instructions as the budget, its events are meant, and its ending
  Shows (stands.Ended ending) = (finish : Finish) × (finish_of ending ≡ Some finish) × Means meant (suc count) events finish
  -- it waits for a message: so does the meaning
  Shows (stands.Waits peer) = Means meant (suc count) events (Wait peer)
  -- else its events so far are meant
  Shows stands.Bound = Prefix events (meant (suc count)).events

-- a role at a moment, where this is meant with what was sent to it
pub record IsMeant (p : Program) (meant : Inputs → ℕ → Ended) (w : World) (r : ℕ) (role : Role) : Type 0 where
  pub shows : Shows (meant (inputs_of w r)) role.count (events_of r w.events) (stand_of p w r role.state)
  -- its code isn't wrong
  pub well : (kind : BadKind) → role.state ≢ Over (endings.Bad kind)

-- Whatever turns were taken, each role whose machine alone does what is meant did so among the others.
abbrev pub WorldsAreMeant : Type 0
WorldsAreMeant = (p : Program) (first : World) → IsFresh first → (order : List ℕ) (r : ℕ) (start : Machine) (role : Role) →
    slice_get first.roles r ≡ Some (record { state = Runs start; count = 0 }) → slice_get (turns p first order).roles r ≡ Some role →
    (meant : Inputs → ℕ → Ended) → DoesAsMeant p r start meant → IsMeant p meant (turns p first order) r role
