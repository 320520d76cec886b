-- What the events of a run say of its objects, and which of it a program's typestates allow.
use Rattle.std.specs.Prelude.{◌≡◌, ℕ, List, [], ◌∷◌, ◌++◌, Option, Some, None, ℤ, pos, slice_get, if◌then◌else◌, ◌==◌, Contains, flat_map}
use Rattle.mg_text.specs.Call.{Name, Call}
use Rattle.mg_text.specs.declared.event.Event.{Event}
use Rattle.mg_text.specs.declared.event.Event.TheVariants as seen

-- a method of an object is entered, or left
pub data Told : Type 0 where
  Enters : (method : Name) → Told
  Leaves : (answer : Option ℤ) → Told

abbrev pub told_by : ℕ → Event → List Told
told_by o (seen.Enter object method) = if object == o then Enters method ∷ [] else []
told_by o (seen.Leave object answer) = if object == o then Leaves answer ∷ [] else []
told_by o _ = []

-- what is told of an object
abbrev pub told : ℕ → List Event → List Told
told o events = flat_map (told_by o) events

-- the answer with which the object is left next
abbrev pub next_answer : List Told → Option (Option ℤ)
next_answer [] = None
next_answer (Enters m ∷ ts) = next_answer ts
next_answer (Leaves answer ∷ ts) = Some answer

-- the label that an answer is, where the method's result is an enum with these constants
abbrev pub label_in : (constants : Option (List Name)) → (answer : Option ℤ) → Option Name
label_in (Some names) (Some (pos n)) = slice_get names n
label_in _ _ = None

-- The constants of the enum that is a method's result, if it is one.
abbrev pub Results : Type 0
Results = (method : Name) → Option (List Name)

abbrev pub call_left : Results → (method : Name) → Option (Option ℤ) → List Call
call_left results m None = []
call_left results m (Some answer) = record { method = m; answer = label_in (results m) answer } ∷ []

-- the calls: each entered method with the answer with which the object is left next
abbrev pub calls_told : Results → List Told → List Call
calls_told results [] = []
calls_told results (Enters m ∷ ts) = call_left results m (next_answer ts) ++ calls_told results ts
calls_told results (Leaves answer ∷ ts) = calls_told results ts

abbrev pub open_unless : (method : Name) → Option (Option ℤ) → Option Name → Option Name
open_unless m None rest = Some m
open_unless m (Some answer) rest = rest

-- the method that was entered and not left
abbrev pub open_told : List Told → Option Name
open_told [] = None
open_told (Enters m ∷ ts) = open_unless m (next_answer ts) (open_told ts)
open_told (Leaves answer ∷ ts) = open_told ts

abbrev mutual
  -- entered and left by turns, entered first
  pub Alternates : List Told → Type 0
  Alternates [] = Unit {0}
  Alternates (Enters m ∷ ts) = AlternatesInside ts
  Alternates (Leaves answer ∷ ts) = ⊥

  pub AlternatesInside : List Told → Type 0
  AlternatesInside [] = Unit {0}
  AlternatesInside (Leaves answer ∷ ts) = Alternates ts
  AlternatesInside (Enters m ∷ ts) = ⊥

-- an object of a class is made
abbrev pub IsMade : List Event → (object : ℕ) → (class : Name) → Type 0
IsMade events o c = Contains events (seen.Made o c)

-- What a program says of its classes by their names: the enums that its methods give, the calls that lead along the class's
-- typestate, the last with a method that is still open, and the calls after which an object may be left.
pub record Classes : Type 1 where
  pub results : (class : Name) → Results
  pub path : (class : Name) → List Call → (still_open : Option Name) → Type 0
  pub ends : (class : Name) → List Call → Type 0

-- each object that is made is entered and left by turns, and its calls lead along its class's typestate
pub record Follows (p : Classes) (events : List Event) : Type 0 where
  pub alternate : (o : ℕ) (c : Name) → IsMade events o c → Alternates (told o events)
  pub path : (o : ℕ) (c : Name) → IsMade events o c → p.path c (calls_told (p.results c) (told o events)) (open_told (told o events))

-- no call is open, and the calls of each object that is made lead to where it may be left: to the end of its class's typestate,
-- or to a state that is marked drop
pub record Finished (p : Classes) (events : List Event) : Type 0 where
  pub closed : (o : ℕ) → open_told (told o events) ≡ None
  pub ends : (o : ℕ) (c : Name) → IsMade events o c → p.ends c (calls_told (p.results c) (told o events))
