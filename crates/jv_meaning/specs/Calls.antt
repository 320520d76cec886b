-- The calls of a program's objects, and whether they follow the typestates of their classes.
use Rattle.std.specs.Prelude.{◌≡◌, ℕ, List, Option, Some, None, option_map, option_and_then}
use Rattle.mg_text.specs.Call.{Name, Call}
use Rattle.mg_text.specs.declared.event.Event.{Event}
use Rattle.ts_tree.specs.declared.parts.TypeName.{TypeName}
use Rattle.ts_tree.specs.declared.parts.TypeName.TheVariants as types
use Rattle.ts_tree.specs.Typestate.{Typestate}
use Rattle.ts_tree.specs.Calls.{Path, MayBeLeft}
use Rattle.jv_tree.specs.Source.{Class}
use Rattle.jv_values.specs.Seen.{Results, Classes, told, calls_told}
use Rattle.jv_values.specs.Seen as seen
use Rattle.jv_meaning.specs.Program.{Sources, class_named, enum_named, method_named, typestate_named}

abbrev pub unless_class : Option Class → Option (List Name) → Option (List Name)
unless_class None names = names
unless_class (Some c) names = None

-- the constants of the enum that a type is, if it is one: its name is no class's
abbrev pub constants_of : Sources → TypeName → Option (List Name)
constants_of j (types.Named e) = unless_class (class_named j e) (option_map (λ k. k.constants) (enum_named j e))
constants_of j _ = None

abbrev pub results_of : Sources → (class : Name) → Results
results_of j c m = option_and_then (λ k. constants_of j k.result) (option_and_then (λ k. method_named k m) (class_named j c))

-- The calls of an object of a class: each method that was entered, with the label that its answer is where its result is an enum.
abbrev pub calls : Sources → (class : Name) → (object : ℕ) → List Event → List Call
calls j c o events = calls_told (results_of j c) (told o events)

-- the typestate that the class's annotation names
abbrev pub typestate_of : Sources → List Typestate → (class : Name) → Option Typestate
typestate_of j typestates c = option_and_then (typestate_named typestates) (option_and_then (λ (k : Class). k.typestate) (class_named j c))

-- calls that lead along the typestate of a class
pub record IsPath (j : Sources) (typestates : List Typestate) (class : Name) (calls : List Call) (still_open : Option Name) : Type 0 where
  pub typestate : Typestate
  pub named : typestate_of j typestates class ≡ Some typestate
  pub path : Path typestate calls still_open

-- calls after which an object of it may be left
pub record IsWhole (j : Sources) (typestates : List Typestate) (class : Name) (calls : List Call) : Type 0 where
  pub typestate : Typestate
  pub named : typestate_of j typestates class ≡ Some typestate
  pub ends : MayBeLeft typestate calls

abbrev pub classes_seen : Sources → List Typestate → Classes
classes_seen j typestates = record { results = results_of j; path = IsPath j typestates; ends = IsWhole j typestates }

abbrev pub Follows : Sources → List Typestate → List Event → Type 0
Follows j typestates events = seen.Follows (classes_seen j typestates) events

abbrev pub Finished : Sources → List Typestate → List Event → Type 0
Finished j typestates events = seen.Finished (classes_seen j typestates) events
