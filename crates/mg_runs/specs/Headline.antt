-- The headline: how several roles run the program that some files are. Each role's run of the class bytes has the events and the ending of
-- the source's meaning on the messages that were sent to it, or where it is cut off, as at the bound, a prefix of these events; and it
-- keeps to the typestates.
use Rattle.std.specs.Prelude.{◌≡◌, ◌≢◌, ℕ, suc, List, map, Some, slice_get, Contains}
use Rattle.mg_text.specs.Call.{Name}
use Rattle.mg_text.specs.declared.event.Event.{Event}
use Rattle.mg_text.specs.declared.event.Ending.{Ending}
use Rattle.mg_text.specs.declared.event.Ending.TheVariants as endings
use Rattle.scr_tree.specs.Tree.{LocalTree}
use Rattle.scr_tree.specs.Meaning.{protocol_of}
use Rattle.stm_gen.specs.Numbered.{typestate_of}
use Rattle.stm_gen.specs.Agreement.{Agrees}
use Rattle.stm_acts.specs.Acts.{acts}
use Rattle.stm_acts.specs.Played.{role_class, Plays, Refuses}
use Rattle.jv_values.specs.Seen.{IsMade, told, open_told}
use Rattle.jv_values.specs.Values.{Inputs, Ended}
use Rattle.jv_meaning.specs.Calls.{calls, Follows, Finished}
use Rattle.jv_meaning.specs.Meaning.{mean}
use Rattle.jv_rules.specs.Program.{Program as Sources}
use Rattle.jv_core.specs.Tree as Core
use Rattle.use_meant_law.specs.Laws.{KeepsTo}
use Rattle.mg_sources.specs.Files.{Source}
use Rattle.mg_sources.specs.Reading.{Protocol, Reads}
use Rattle.mg_accepted.specs.Accepted.{AreAccepted}
use Rattle.mg_fits.specs.Laws.{NoRoleIsStuckWhereFit}
use Rattle.mg_compile.specs.declared.files.ClassFile.{ClassFile}
use Rattle.mg_compile.specs.Files.{AreClassFiles}
use Rattle.vm_model.specs.Program.{Program}
use Rattle.vm_model.specs.Machine.{Machine}
use Rattle.vm_model.specs.Start.{IsStart}
use Rattle.vm_world_law.specs.declared.role.RoleMain.{RoleMain}
use Rattle.vm_world_law.specs.World.{Over, Role, World, turns, IsBegun, events_of}
use Rattle.vm_world_law.specs.Turns as turning
use Rattle.vm_world_law.specs.Laws.{Delivers, OrderIsFreeFrom}
use Rattle.vm_world_law.specs.Worlds.{inputs_of, IsMeant, DoesAsMeant}
use Rattle.mg_runs.specs.Runs.{IsLoaded, HaveMains}

-- the core of the program, its class files, the program that is linked of their bytes, and the world before the first turn and at the stop
pub record Course : Type 0 where
  pub core : Core.Program
  pub written : List ClassFile
  pub program : Program
  pub first : World
  pub last : World

-- The roles at a moment, which run these sources.
pub record AreMeant (sources : Sources) (mains : List RoleMain) (program : Program) (w : World) : Type 0 where
  -- what a role took from another is a prefix of what that sent to it, and the list between them is the rest
  pub delivers : Delivers w
  -- each has the events and the ending or the wait of the meaning of its class, on the messages that were sent to it
  pub each : (r : ℕ) (main : RoleMain) → slice_get mains r ≡ Some main →
      (role : Role) × (slice_get w.roles r ≡ Some role) × IsMeant program (mean sources.files main.class) w r role

-- The machine of each role, which begins at the `main` of its class, does all that is meant, and nothing else, on lists that hold what
-- the others sent, whatever that is.
abbrev pub DoAsMeant : Sources → List RoleMain → Program → Type 0
DoAsMeant sources mains program = (r : ℕ) (main : RoleMain) → slice_get mains r ≡ Some main → (start : Machine) →
    IsStart program main.class start →
    DoesAsMeant program r start (mean sources.files main.class)

-- A role at a moment keeps to the typestates of its sources.
pub record Keeps (sources : Sources) (w : World) (r : ℕ) (role : Role) : Type 0 where
  -- no null was dereferenced
  pub no_null : role.state ≢ Over endings.Null
  -- the calls of each object that it made are a path of its class's typestate; the last may still be open
  pub follows : Follows sources.files sources.typestates (events_of r w.events)
  -- where it returned it has left every object at its end or at a state marked drop
  pub finished : role.state ≡ Over endings.Done → Finished sources.files sources.typestates (events_of r w.events)

-- Each role does.
abbrev pub EachKeeps : Sources → List RoleMain → World → Type 0
EachKeeps sources mains w = (r : ℕ) (main : RoleMain) (role : Role) → slice_get mains r ≡ Some main → slice_get w.roles r ≡ Some role →
    Keeps sources w r role

-- No meaning of the class of a role dereferences a null or goes wrong, whatever the others send and whatever the budget, and each keeps to
-- the typestates.
abbrev pub MeaningsKeep : Sources → List RoleMain → Type 0
MeaningsKeep sources mains = (r : ℕ) (main : RoleMain) → slice_get mains r ≡ Some main → (inputs : Inputs) (budget : ℕ) →
    KeepsTo sources (mean sources.files main.class inputs budget)

-- Whatever turns follow, a role shows nothing more, and where it ends it ends as this mismatch.
pub record StaysAt (program : Program) (w : World) (r : ℕ) (peer label : Name) : Type 0 where
  pub shows_no_more : (more : List ℕ) → events_of r (turns program w more).events ≡ events_of r w.events
  pub ends : (more : List ℕ) (role : Role) (ending : Ending) → slice_get (turns program w more).roles r ≡ Some role →
      role.state ≡ Over ending →
      ending ≡ endings.Mismatch peer label

-- What an object of the class of a protocol's role has done, by the events of its role so far.
module _ (sources : Sources) (local : LocalTree) (o : ℕ) (events : List Event) where
  -- its acts are steps of the protocol from its start: one for each call, in order, and at most one for a call that is still open
  abbrev pub HasPlayed : Type 0
  HasPlayed =
      Plays local.me (protocol_of local) (calls sources.files (role_class local.me) o events) (open_told (told o events)) (acts o events)

  -- behind such steps the open call has looked at a label of no branch, and there this meaning ends
  abbrev pub HasRefused : (meant : Ended) → Type 0
  HasRefused =
      Refuses local.me (protocol_of local) (calls sources.files (role_class local.me) o events) (open_told (told o events)) (acts o events)
      events

-- One of these, in a role at a moment, where this is meant on what was sent to it. Where a label is refused the role stays.
pub data DoesItsPart (sources : Sources) (local : LocalTree) (program : Program) (w : World) (r : ℕ) (meant : Ended) (o : ℕ) : Type 0 where
  plays : HasPlayed sources local o (events_of r w.events) → DoesItsPart sources local program w r meant o
  refuses : (refused : HasRefused sources local o (events_of r w.events) meant) → StaysAt program w r refused.peer refused.label →
      DoesItsPart sources local program w r meant o

-- In each role each object of the class that is generated of a protocol of these files does what the protocol says.
abbrev pub ObjectsDoTheirPart : List Source → Sources → List RoleMain → Program → World → Type 0
ObjectsDoTheirPart files sources mains program w = (r : ℕ) (main : RoleMain) (role : Role) → slice_get mains r ≡ Some main →
    slice_get w.roles r ≡ Some role → (source : Source) (local : LocalTree) → Contains files source → Reads source (Protocol local) →
    (o : ℕ) → IsMade (events_of r w.events) o (role_class local.me) →
    DoesItsPart sources local program w r (mean sources.files main.class (inputs_of w r) (suc role.count)) o

-- The typestate of each protocol of these files allows exactly the traces of the protocol, and ends exactly where it is complete.
abbrev pub ProtocolsAgree : List Source → Type 0
ProtocolsAgree files = (source : Source) (local : LocalTree) → Contains files source → Reads source (Protocol local) →
    Agrees local.me (protocol_of local) (typestate_of local)

-- These files are an accepted program, which these roles run, in this order of turns, up to so many instructions: so each run goes.
pub record IsCourse (files : List Source) (mains : List RoleMain) (order : List ℕ) (limit : ℕ) (run : Course) : Type 0 where
  -- the files are accepted
  pub accepted : AreAccepted files run.core
  pub have_mains : HaveMains run.core mains
  -- the class bytes are those of the program, and they are read back and linked
  pub class_files : AreClassFiles run.core run.written
  pub loaded : IsLoaded (map (λ f. f.bytes) run.written) run.program
  -- each role begins at the `main` of its class
  pub begins : IsBegun run.program mains run.first
  -- the turns are in this order, up to the first moment at which every role has ended or waits, or so many instructions were counted
  pub runs : turning.IsRun run.program run.first order limit run.last

-- What holds of a course.
pub record IsRun (files : List Source) (mains : List RoleMain) (order : List ℕ) (limit : ℕ) (run : Course)
    (course : IsCourse files mains order limit run) : Type 0
  where
    -- after every list of turns each role did what is meant, on the messages that were sent to it
    pub meant : (taken : List ℕ) → AreMeant course.accepted.have.program mains run.program (turns run.program run.first taken)
    pub does : DoAsMeant course.accepted.have.program mains run.program
    -- and keeps to the typestates: no null is dereferenced, the calls of each object are a path, and a role that returns leaves each at
    -- its end or at a state marked drop
    pub keep : (taken : List ℕ) → EachKeeps course.accepted.have.program mains (turns run.program run.first taken)
    pub meanings : MeaningsKeep course.accepted.have.program mains
    -- and its objects do their part: their acts are steps of the protocols that their classes are generated of
    pub parts : (taken : List ℕ) →
        ObjectsDoTheirPart files course.accepted.have.program mains run.program (turns run.program run.first taken)
    -- where the files and the roles fit a global protocol, whichever it is, no role gets stuck on another: after every list of turns each
    -- goes on, has returned or has ended by a zero divisor; and where the turns come to rest without such an end, all have returned, each
    -- message is taken, and what was said is a complete conversation of the global protocol
    pub fitting : NoRoleIsStuckWhereFit files run.core course.accepted mains run.program run.first
    -- turn orders don't matter: those that come to rest come to the same, and others show a part of it
    pub orders : OrderIsFreeFrom run.program run.first
    -- the typestates of the protocols allow exactly the protocols' traces
    pub protocols : ProtocolsAgree files
