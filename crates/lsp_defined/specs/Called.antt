-- The words of a protocol for which a call stands: labels of messages, and choices that are made elsewhere.
use Rattle.std.specs.Prelude.{Bool, List, filter, map}
use Rattle.std.specs.Str.{bytes_eq}
use Rattle.mg_text.specs.Call.{Name}
use Rattle.mg_text.specs.declared.place.Place.{Place}
use Rattle.scr_tree.specs.Tree.{Titled, LocalTree, titled, body_in}
use Rattle.scr_tree.specs.Actions.{Action, all_actions}

-- all protocols of a file are of one role
abbrev pub role_in : (me : Name) → Titled → Name
role_in me t = me

-- What the role of a protocol does, in the order of the text of its file. A message stands at its label, and the look at a choice at its
-- first word.
abbrev pub actions_of : LocalTree → List Action
actions_of local = all_actions (role_in local.me) body_in 1 (titled local)

abbrev pub is_called : (call : Name) → Action → Bool
is_called call a = bytes_eq a.call call

abbrev pub stand : Action → Place
stand a = a.place

-- where the text says what this call does
abbrev pub places_called : LocalTree → (call : Name) → List Place
places_called local call = map stand (filter (is_called call) (actions_of local))
