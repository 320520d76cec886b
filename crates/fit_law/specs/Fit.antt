-- Roles that play a global protocol, each by one object of the class that is generated of its projection, never get stuck.
use Rattle.std.specs.Prelude.{◌≡◌, ◌≢◌, ◌<◌, ◌++◌, ℕ, List, [], length, Some, Contains, slice_get}
use Rattle.mg_text.specs.Call.{Name}
use Rattle.mg_text.specs.declared.event.Ending.TheVariants as endings
use Rattle.scr_tree.specs.Meaning.{protocol_of}
use Rattle.scr_tree.specs.Traces.{Complete}
use Rattle.scr_tree.specs.Tree.{LocalTree}
use Rattle.scr_tree.specs.Valid.{IsValid}
use Rattle.scr_global.specs.Global.{Global}
use Rattle.scr_global.specs.Laws.{AreProjections}
use Rattle.ts_tree.specs.Typestate.{Typestate}
use Rattle.stm_gen.specs.Numbered.{typestate_of}
use Rattle.stm_acts.specs.Played.{role_class, role_protocol, HasRole}
use Rattle.jv_values.specs.Alike.{Prefix}
use Rattle.jv_values.specs.Seen.{IsMade}
use Rattle.jv_values.specs.Values.{Inputs, Ended, Done, Null}
use Rattle.jv_meaning.specs.Calls.{calls, Follows, Finished}
use Rattle.jv_meaning.specs.Meaning.{mean}
use Rattle.jv_meaning.specs.Program.{Sources, typestate_named}
use Rattle.mg_text.specs.declared.event.Event.{Event}
use Rattle.vm_model.specs.Messages.{on_way}
use Rattle.vm_model.specs.Program.{Program}
use Rattle.vm_world_law.specs.declared.role.RoleMain.{RoleMain}
use Rattle.vm_world_law.specs.World.{State, Runs, Over, Role, World, turns, IsBegun, events_of, Rests}
use Rattle.vm_world_law.specs.Worlds.{IsMeant}
use Rattle.stm_acts.specs.Acts.{acts}
use Rattle.stm_acts.specs.Ends.{IsDoneByOne, deeds}

-- The program has what is generated of a local protocol, and its typestate is the generated one.
pub record IsHad (j : Sources) (typestates : List Typestate) (local : LocalTree) : Type 0 where
  pub role : HasRole j typestates local.me (protocol_of local)
  pub typestate : typestate_named typestates (role_protocol local.me) ≡ Some (typestate_of local)

-- A meaning of a role keeps to the typestates.
pub record KeepsTo (j : Sources) (typestates : List Typestate) (run : Ended) : Type 0 where
  pub no_null : run.finish ≢ Null
  pub follows : (so_far : List Event) → Prefix so_far run.events → Follows j typestates so_far
  pub finished : run.finish ≡ Done → Finished j typestates run.events

-- These local protocols are valid, and are what the roles do in a valid global protocol. Places are free: they may be read from files that
-- were written of the projections.
pub record AreLocals (roles : List Name) (g : Global) (locals : Name → LocalTree) : Type 0 where
  pub projections : AreProjections roles g locals
  pub own : (me : Name) → Contains roles me → (locals me).me ≡ me
  pub valid : (me : Name) → Contains roles me → ∥ IsValid (locals me) ∥₁

-- Each role of a global protocol is played, and by one object of the class that is generated of its projection.
pub record IsCast (j : Sources) (typestates : List Typestate) (roles : List Name) (g : Global) (locals : Name → LocalTree)
    (mains : List RoleMain) : Type 0 where
  pub locals_are : AreLocals roles g locals
  pub had : (me : Name) → Contains roles me → IsHad j typestates (locals me)
  -- each is played, and no other
  pub played : (me : Name) → Contains roles me → (r : ℕ) × (main : RoleMain) × (slice_get mains r ≡ Some main) × (main.role ≡ me)
  pub known : (r : ℕ) (main : RoleMain) → slice_get mains r ≡ Some main → Contains roles main.role
  -- roles of other protocols, which nobody plays
  pub idle : List Name
  -- whatever the others send
  pub by_one : (r : ℕ) (main : RoleMain) → slice_get mains r ≡ Some main → (inputs : Inputs) (budget : ℕ) →
      IsDoneByOne j (roles ++ idle) (locals main.role).me (protocol_of (locals main.role)) inputs (mean j main.class inputs budget)
  pub keeps : (r : ℕ) (main : RoleMain) → slice_get mains r ≡ Some main → (inputs : Inputs) (budget : ℕ) →
      KeepsTo j typestates (mean j main.class inputs budget)

-- each role does what is meant
abbrev pub AreMeant : Sources → List RoleMain → Program → World → Type 0
AreMeant j mains p w = (r : ℕ) (main : RoleMain) → slice_get mains r ≡ Some main →
    (role : Role) × (slice_get w.roles r ≡ Some role) × IsMeant p (mean j main.class) w r role

-- a role goes on, has returned, or has ended by a zero divisor
abbrev pub IsWell : State → Type 0
IsWell (Runs machine) = Unit {0}
IsWell (Over endings.Done) = Unit {0}
IsWell (Over endings.Zero) = Unit {0}
IsWell (Over _) = ⊥

-- One object of the class of a role has done all that the role has sent, looked at and taken, and no other of a class of these roles was
-- made.
pub record IsOfOne (roles : List Name) (me : Name) (events : List Event) : Type 0 where
  pub object : ℕ
  pub made : IsMade events object (role_class me)
  pub only : (you : Name) (other : ℕ) → Contains roles you → IsMade events other (role_class you) → other ≡ object
  pub acting : deeds events ≡ acts object events

-- At a moment: one object has done all that the role has sent, looked at and taken so far, and each object of a class of these roles that it
-- has made so far is that one.
pub record ActsByOne (roles : List Name) (events : List Event) : Type 0 where
  pub object : ℕ
  pub only : (you : Name) (other : ℕ) → Contains roles you → IsMade events other (role_class you) → other ≡ object
  pub acting : deeds events ≡ acts object events

-- each of these roles does
abbrev pub EachActsByOne : List Name → List RoleMain → World → Type 0
EachActsByOne roles mains w = (r : ℕ) (main : RoleMain) → slice_get mains r ≡ Some main → ActsByOne roles (events_of r w.events)

-- Every role has returned, no message is left, each role has acted by one object, and each object of a role's class is at the end of its
-- protocol.
pub record IsComplete (j : Sources) (roles : List Name) (locals : Name → LocalTree) (mains : List RoleMain) (w : World) : Type 0 where
  pub returned : (r : ℕ) (role : Role) → slice_get w.roles r ≡ Some role → role.state ≡ Over endings.Done
  pub empty : (from to : ℕ) → from < length w.messages.roles → to < length w.messages.roles → on_way w.messages from to ≡ []
  pub by_one : (r : ℕ) (main : RoleMain) → slice_get mains r ≡ Some main → IsOfOne roles main.role (events_of r w.events)
  pub ends : (r : ℕ) (main : RoleMain) → slice_get mains r ≡ Some main → (o : ℕ) →
      IsMade (events_of r w.events) o (role_class (locals main.role).me) →
      Complete (locals main.role).me (protocol_of (locals main.role)) (calls j (role_class (locals main.role).me) o (events_of r w.events))

abbrev pub NoneGetsStuck : Type 0
NoneGetsStuck =
    (j : Sources) (typestates : List Typestate) (roles : List Name) (g : Global) (locals : Name → LocalTree) (mains : List RoleMain)
    → IsCast j typestates roles g locals mains →
    (p : Program) (first : World) → IsBegun p mains first → ((taken : List ℕ) → AreMeant j mains p (turns p first taken)) →
    (taken : List ℕ) →
    ((r : ℕ) (role : Role) → slice_get (turns p first taken).roles r ≡ Some role → IsWell role.state)
    × (Rests p (turns p first taken) →
    ((r : ℕ) (role : Role) → slice_get (turns p first taken).roles r ≡ Some role → role.state ≢ Over endings.Zero) →
    IsComplete j roles locals mains (turns p first taken))

-- After every list of turns each role has acted by one object.
abbrev pub TurnsAreOfOne : Type 0
TurnsAreOfOne =
    (j : Sources) (typestates : List Typestate) (roles : List Name) (g : Global) (locals : Name → LocalTree) (mains : List RoleMain)
    → IsCast j typestates roles g locals mains →
    (p : Program) (first : World) → IsBegun p mains first → ((taken : List ℕ) → AreMeant j mains p (turns p first taken)) →
    (taken : List ℕ) → EachActsByOne roles mains (turns p first taken)
