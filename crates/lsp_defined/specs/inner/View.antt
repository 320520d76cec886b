-- What the program's values say.
use Rattle.scr_tree.specs.Meaning.{message_of}
use Rattle.scr_tree.specs.Actions.{Action, Deed, Moves, Looks}
use Rattle.lsp_defined.specs.declared.actions.Action.{Action as KeptAction}
use Rattle.lsp_defined.specs.declared.actions.Deed.{Deed as KeptDeed}
use Rattle.lsp_defined.specs.declared.actions.Deed.TheVariants as deeds

abbrev pub deed_of : KeptDeed → Deed
deed_of (deeds.Moves m) = Moves (message_of m.now)
deed_of (deeds.Looks n) = Looks n

abbrev pub act : KeptAction → Action
act a = record { place = a.place; call = a.call; deed = deed_of a.deed }
