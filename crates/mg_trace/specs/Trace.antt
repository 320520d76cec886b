-- The texts of a run: the lines that tell its events, one for each event but a text that is printed, and what it prints.
use Rattle.std.specs.Prelude.{◌==◌, ℕ, ℤ, pos, negsuc, List, [], ◌∷◌, ◌++◌, Bool, not, Option, Some, None, get_or, slice_get}
use Rattle.std.specs.Prelude.{option_and_then, flat_map, codes, if◌then◌else◌}
use Rattle.std.specs.Ordering.{int_eq}
use Rattle.std.specs.Fmt.{decimal, signed_decimal}
use Rattle.std.specs.Str.{bytes_eq}
use Rattle.mg_text.specs.Call.{Name}
use Rattle.mg_text.specs.declared.event.Event.{Event}
use Rattle.mg_text.specs.declared.event.Event.TheVariants as seen
use Rattle.mg_text.specs.declared.event.Carried.{Carried}
use Rattle.mg_text.specs.declared.event.Carried.TheVariants as carried
use Rattle.jv_core.specs.declared.program.CoreType.{CoreType}
use Rattle.jv_core.specs.declared.program.CoreType.TheVariants as types
use Rattle.jv_core.specs.Tree.{Class, Method, Program}
use Rattle.jv_core.specs.Lookup.{text_at}
use Rattle.vm_model.specs.Step.{truth_text}
use Rattle.vm_world_law.specs.declared.role.RoleEvent.{RoleEvent}
use Rattle.vm_world_law.specs.World.{events_of}

-- What the events so far of one role tell of an object: the class of which it was made, and the methods that it entered and hasn't left,
-- the last entered first.
pub record Known : Type 0 where
  pub class : Name
  pub calls : List Name

abbrev pub unknown : Known
unknown = record { class = []; calls = [] }

-- the method that is left next
abbrev pub last_call : List Name → Name
last_call [] = []
last_call (method ∷ calls) = method

-- those that are left after it
abbrev pub other_calls : List Name → List Name
other_calls [] = []
other_calls (method ∷ calls) = calls

-- what an event tells more of the object of a number
abbrev pub known_more : ℕ → Known → Event → Known
known_more o k (seen.Made n class) = if n == o then record { class = class; calls = [] } else k
known_more o k (seen.Enter n method) = if n == o then record k { calls = method ∷ k.calls } else k
known_more o k (seen.Leave n answer) = if n == o then record k { calls = other_calls k.calls } else k
known_more o k _ = k

abbrev pub known_from : Known → List Event → (object : ℕ) → Known
known_from k [] o = k
known_from k (event ∷ events) o = known_from (known_more o k event) events o

abbrev pub known_in : List Event → (object : ℕ) → Known
known_in = known_from unknown

-- the methods of these numbers
abbrev pub methods_of : Program → (methods : List ℕ) → List Method
methods_of p ns = flat_map (λ n. elim (slice_get p.methods n) [ None ↦ [] | Some m ↦ m ∷ [] ]) ns

-- the result of the first of these methods that has this name
abbrev pub result_in : Program → List Method → Name → Option CoreType
result_in p [] name = None
result_in p (m ∷ ms) name = if bytes_eq (text_at p m.name) name then Some m.result else result_in p ms name

-- the first of these classes that has this name
abbrev pub class_in : Program → List Class → Name → Option Class
class_in p [] name = None
class_in p (c ∷ cs) name = if bytes_eq (text_at p c.name) name then Some c else class_in p cs name

-- the result of the method of this name, of the class of this name; of two the first counts
abbrev pub result_named : Program → (class method : Name) → Option CoreType
result_named p class method = option_and_then (λ c. result_in p (methods_of p c.methods) method) (class_in p p.classes class)

-- the constant of an enum at a position
abbrev pub label_text : Program → (enum : ℕ) → ℤ → List ℕ
label_text p e (pos n) =
    elim (option_and_then (λ enum. slice_get enum.constants n) (slice_get p.enums e))
    [ None ↦ [] | Some name ↦ text_at p name ]
label_text p e (negsuc n) = []

-- an answer in words, behind a blank: a number, a truth value, or the constant of an enum
abbrev pub answer_words : Program → Option CoreType → Option ℤ → List ℕ
answer_words p (Some types.Int) (Some n) = codes " " ++ signed_decimal n
answer_words p (Some types.Boolean) (Some n) = codes " " ++ truth_text (not (int_eq n (pos 0)))
answer_words p (Some (types.Enum e)) (Some n) = codes " " ++ label_text p e n
answer_words p type answer = []

-- an answer as the number that it is, behind a blank
abbrev pub number_words : Option ℤ → List ℕ
number_words None = []
number_words (Some n) = codes " " ++ signed_decimal n

-- Answers of methods are told by the types that those have in a program; or as numbers, where no types are known.
pub data Telling : Type 0 where
  ByTypes : (program : Program) → Telling
  AsNumbers : Telling

-- the answer of the method of this name, of the class of this name
abbrev pub told_answer : Telling → (class method : Name) → Option ℤ → List ℕ
told_answer (ByTypes p) class method answer = answer_words p (result_named p class method) answer
told_answer AsNumbers class method answer = number_words answer

-- what a message carries, behind a blank
abbrev pub carried_words : Carried → List ℕ
carried_words carried.Nothing = []
carried_words (carried.Int n) = codes " " ++ signed_decimal n
carried_words (carried.Truth b) = codes " " ++ truth_text b
carried_words (carried.Text text) = codes " " ++ text

-- an object, by the name of its class and its number
abbrev pub object_words : (class : Name) → (object : ℕ) → List ℕ
object_words class o = class ++ codes "#" ++ decimal o

-- An event in words, where this is known of its object. An object leaves the method that it entered last of those that it hasn't left.
abbrev pub event_words : Telling → Known → Event → List ℕ
event_words t k (seen.Print text) = []
event_words t k (seen.Made o class) = codes "made " ++ object_words class o
event_words t k (seen.Enter o method) = codes "enter " ++ object_words k.class o ++ codes " " ++ method
event_words t k (seen.Leave o answer) =
    codes "leave " ++ object_words k.class o ++ codes " " ++ last_call k.calls ++ told_answer t k.class (last_call k.calls) answer
event_words t k (seen.Send peer label payload) = codes "send " ++ peer ++ codes " " ++ label ++ carried_words payload
event_words t k (seen.Look peer label) = codes "look " ++ peer ++ codes " " ++ label
event_words t k (seen.Take peer label payload) = codes "take " ++ peer ++ codes " " ++ label ++ carried_words payload

-- the object of an event, where it has one
abbrev pub object_of : Event → ℕ
object_of (seen.Made o class) = o
object_of (seen.Enter o method) = o
object_of (seen.Leave o answer) = o
object_of _ = 0

-- the line of an event of the role of this name, where this is known of its object; a text that is printed has none
abbrev pub line_of : Telling → (role : Name) → Known → Event → List ℕ
line_of t name k (seen.Print text) = []
line_of t name k event = name ++ codes " " ++ event_words t k event ++ 10 ∷ []

-- the name of the role of a number
abbrev pub name_at : (names : List Name) → (role : ℕ) → Name
name_at names r = get_or names r []

-- The line of an event behind these events. Of its object the earlier events of its role tell: each role numbers its objects.
abbrev pub event_line : Telling → (names : List Name) → (before : List RoleEvent) → RoleEvent → List ℕ
event_line t names before e = line_of t (name_at names e.role) (known_in (events_of e.role before) (object_of e.event)) e.event

-- the lines of these events behind others
abbrev pub lines_from : Telling → (names : List Name) → (before : List RoleEvent) → List RoleEvent → List ℕ
lines_from t names before [] = []
lines_from t names before (e ∷ events) = event_line t names before e ++ lines_from t names (before ++ e ∷ []) events

-- the trace of a run of roles with these names
abbrev pub trace : Program → (names : List Name) → List RoleEvent → List ℕ
trace p names events = lines_from (ByTypes p) names [] events

-- the same where no types of methods are known
abbrev pub plain_trace : (names : List Name) → List RoleEvent → List ℕ
plain_trace names events = lines_from AsNumbers names [] events

-- the line that a text prints, behind the name of its role where that is asked for; other events print nothing
abbrev pub printed_line : (named : Bool) → (role : Name) → Event → List ℕ
printed_line named name (seen.Print text) = (if named then name ++ codes ": " else []) ++ text ++ 10 ∷ []
printed_line named name _ = []

-- what a run prints, in the order of its events
abbrev pub printed : (named : Bool) → (names : List Name) → List RoleEvent → List ℕ
printed named names events = flat_map (λ e. printed_line named (name_at names e.role) e.event) events
