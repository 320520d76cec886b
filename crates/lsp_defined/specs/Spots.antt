-- The words of a document over which something is said: names of methods in states, labels of messages, and choices.
use Rattle.std.specs.Prelude.{List, [], ◌∷◌, Option, Some, None}
use Rattle.std.specs.List.{flat_map}
use Rattle.mg_text.specs.Call.{Name}
use Rattle.mg_text.specs.declared.place.Place.{Place}
use Rattle.scr_tree.specs.Tree.{LocalTree}
use Rattle.scr_tree.specs.Actions.{Action}
use Rattle.ts_parse.specs.Written.{WEntry, offer, drop_end, WState, WFile}
use Rattle.lsp_defined.specs.declared.spots.Spot.{Spot}
use Rattle.lsp_defined.specs.Called.{actions_of}

-- a word at a place, the method that it tells of, and the state, where it is one of a single state
abbrev pub spot : Place → (state : Option Name) → (method : Name) → Spot
spot place state method = record { place = place; state = state; method = method }

abbrev pub place_of : Spot → Place
place_of s = s.place

-- an entry of a state of this name: a method tells of itself, at its name
abbrev pub entry_spots : (state : Name) → WEntry → List Spot
entry_spots state (offer m) = spot m.name.place (Some state) m.name.text ∷ []
entry_spots state (drop_end place) = []

abbrev pub state_spots : WState → List Spot
state_spots s = flat_map (entry_spots s.name.text) s.entries

-- the methods of a typestate file, in the order of the text
abbrev pub method_spots : WFile → List Spot
method_spots w = flat_map state_spots w.states

-- a message tells of the method of its call, at its label, and the look at a choice of another role at its word `choice`
abbrev pub action_spots : Action → List Spot
action_spots a = spot a.place None a.call ∷ []

-- the messages of a protocol's file, and its choices elsewhere, in the order of the text
abbrev pub message_spots : LocalTree → List Spot
message_spots local = flat_map action_spots (actions_of local)
