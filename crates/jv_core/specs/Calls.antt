-- The calls of a core's objects, and whether they follow the typestates of their classes.
use Rattle.std.specs.Prelude.{◌≡◌, ℕ, List, Option, Some, None, ◌&&◌, nat_eq, map, slice_get, find, option_map, option_and_then}
use Rattle.std.specs.Str.{bytes_eq}
use Rattle.mg_text.specs.Call.{Name, Call}
use Rattle.mg_text.specs.declared.event.Event.{Event}
use Rattle.ts_tree.specs.Typestate.{Typestate}
use Rattle.ts_tree.specs.Calls.{Path, MayBeLeft}
use Rattle.jv_values.specs.Seen.{Results, Classes, told, calls_told}
use Rattle.jv_values.specs.Seen as seen
use Rattle.jv_core.specs.declared.program.CoreType.{CoreType}
use Rattle.jv_core.specs.declared.program.CoreType.TheVariants as types
use Rattle.jv_core.specs.Tree.{Class, Method, Program}
use Rattle.jv_core.specs.Lookup.{text_at, class_numbered}

-- the constants of the enum that a type is, if it is one
abbrev pub constants_of : Program → CoreType → Option (List Name)
constants_of p (types.Enum e) = option_map (λ d. map (text_at p) d.constants) (slice_get p.enums e)
constants_of p _ = None

-- the first method of a name in a class
abbrev pub method_named : Program → (class : ℕ) → Name → Option Method
method_named p c name = find (λ m. nat_eq m.class c && bytes_eq (text_at p m.name) name) p.methods

abbrev pub results_of : Program → (class : Name) → Results
results_of p c m = option_and_then (λ k. constants_of p k.result) (option_and_then (λ n. method_named p n m) (class_numbered p c))

-- The calls of an object of a class: each method that was entered, with the label that its answer is where its result is an enum.
abbrev pub calls : Program → (class : Name) → (object : ℕ) → List Event → List Call
calls p c o events = calls_told (results_of p c) (told o events)

-- the typestate of a class
abbrev pub typestate_of : Program → (class : Name) → Option Typestate
typestate_of p c =
    option_and_then (slice_get p.typestates) (option_and_then (λ (k : Class). k.typestate)
    (option_and_then (slice_get p.classes) (class_numbered p c)))

-- calls that lead along the typestate of a class
pub record IsPath (p : Program) (class : Name) (calls : List Call) (still_open : Option Name) : Type 0 where
  pub typestate : Typestate
  pub at : typestate_of p class ≡ Some typestate
  pub path : Path typestate calls still_open

-- calls after which an object of it may be left
pub record IsWhole (p : Program) (class : Name) (calls : List Call) : Type 0 where
  pub typestate : Typestate
  pub at : typestate_of p class ≡ Some typestate
  pub ends : MayBeLeft typestate calls

abbrev pub classes_seen : Program → Classes
classes_seen p = record { results = results_of p; path = IsPath p; ends = IsWhole p }

abbrev pub Follows : Program → List Event → Type 0
Follows p events = seen.Follows (classes_seen p) events

abbrev pub Finished : Program → List Event → Type 0
Finished p events = seen.Finished (classes_seen p) events
