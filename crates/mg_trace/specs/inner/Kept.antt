-- For private clauses: what the program keeps of the objects of each role while it tells a run.
use Rattle.std.specs.Prelude.{◌≡◌, ◌==◌, ℕ, List, [], ◌∷◌, Option, Some, None, Vec, get_or, map, reverse, if◌then◌else◌}
use Rattle.std.specs.Global.{Global}
use Rattle.mg_text.specs.declared.event.Event.{Event}
use Rattle.mg_text.specs.declared.event.Event.TheVariants as seen
use Rattle.vm_world_law.specs.declared.role.RoleEvent.{RoleEvent}
use Rattle.vm_world_law.specs.World.{events_of}
use Rattle.mg_trace.specs.declared.objects.Tracked.{Tracked}
use Rattle.mg_trace.specs.Trace.{Known, unknown, other_calls, known_more, known_in}

abbrev pub known_of : Tracked → Known
known_of k = record { class = k.class.now; calls = reverse (map (λ method. method.now) k.calls.items) }

-- what is kept of an object of a role
abbrev pub known_at : List Tracked → (object : ℕ) → Known
known_at objects o = get_or (map known_of objects) o unknown

-- the objects of a role
abbrev pub objects_at : List (Vec Tracked Global) → (role : ℕ) → List Tracked
objects_at roles r = get_or (map (λ objects. objects.items) roles) r []

-- the object of which an event tells, if of any
abbrev pub object_in : Event → Option ℕ
object_in (seen.Made o class) = Some o
object_in (seen.Enter o method) = Some o
object_in (seen.Leave o answer) = Some o
object_in _ = None

-- what an event tells more of its object
abbrev pub changed : Known → Event → Known
changed k (seen.Made o class) = record { class = class; calls = [] }
changed k (seen.Enter o method) = record k { calls = method ∷ k.calls }
changed k (seen.Leave o answer) = record k { calls = other_calls k.calls }
changed k _ = k

-- behind one event more of a role, what is kept of its objects is what that tells more
abbrev pub KeepsMore : (before after : List Tracked) → Event → Type 0
KeepsMore before after event = (o : ℕ) → known_at after o ≡ known_more o (known_at before o) event

-- the same of all roles: what is kept of another role's objects stays
abbrev pub KeepMore : (before after : List (Vec Tracked Global)) → RoleEvent → Type 0
KeepMore before after e = (r o : ℕ) → known_at (objects_at after r) o
    ≡ (if e.role == r then known_more o (known_at (objects_at before r) o) e.event else known_at (objects_at before r) o)

-- what is kept of each object of each role is what the events of that role tell of it
pub record AreKnown (roles : List (Vec Tracked Global)) (events : List RoleEvent) : Type 0 where
  pub each : (r o : ℕ) → known_at (objects_at roles r) o ≡ known_in (events_of r events) o
