-- The calls of a protocol's text are those of the class that is made of the protocol.
use Rattle.std.specs.Prelude.{◌≡◌, map}
use Rattle.mg_text.specs.Call.{Name}
use Rattle.scr_tree.specs.Tree.{LocalTree}
use Rattle.scr_tree.specs.Meaning.{protocol_of}
use Rattle.scr_tree.specs.Actions.{Action}
use Rattle.stm_api.specs.Doings.{all_doings, call_of}
use Rattle.lsp_defined.specs.Called.{actions_of}

abbrev pub called : Action → Name
called a = a.call

-- One for one, in the order of the text. The class has a method for each of these calls, so each of its methods is defined in the text.
abbrev pub EachCallStands : Type 0
EachCallStands = (local : LocalTree) → map called (actions_of local) ≡ map (call_of local.me) (all_doings (protocol_of local))
