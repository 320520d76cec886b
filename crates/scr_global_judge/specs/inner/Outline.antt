-- For private clauses: the outline of a global protocol, a local protocol's text that meets the conditions which don't ask for two roles of
-- one message exactly where the global one does.
use Rattle.std.specs.Prelude.{[], Option, Some, None, if◌then◌else◌}
use Rattle.std.specs.Str.{bytes_eq}
use Rattle.mg_text.specs.Call.{Name}
use Rattle.scr_tree.specs.declared.syntax.Direction.{Direction}
use Rattle.scr_tree.specs.declared.syntax.Direction.TheVariants as directions
use Rattle.scr_tree.specs.declared.syntax.Message.{Message}
use Rattle.scr_tree.specs.Tree as local
use Rattle.scr_global.specs.Tree.{Told, Statements, Nothing, Says, Choice, Rec, Continue, Branches, NoBranch, Branch}

-- A message is taken, but where it begins a branch of a choice of another role than its sender.
abbrev pub way_of : Option Name → Name → Direction
way_of None sender = directions.From
way_of (Some at) sender = if bytes_eq sender at then directions.From else directions.To

abbrev pub outline_of : Option Name → Told → Message
outline_of begins m = record { place = m.place; direction = way_of begins m.from; peer = m.to; label = m.label; payload = m.payload }

abbrev mutual
  -- `begins` is the role of the choice whose branch begins here, if one does; choices are made by a role without a name
  pub outlined : Option Name → Statements → local.Statements
  outlined begins Nothing = local.Nothing
  outlined begins (Says m rest) = local.Says (outline_of begins m) (outlined None rest)
  outlined begins (Choice place at branches rest) = local.Choice place [] (outlined_each at branches) (outlined None rest)
  outlined begins (Rec place name body rest) = local.Rec place name (outlined None body) (outlined None rest)
  outlined begins (Continue place name rest) = local.Continue place name (outlined None rest)

  pub outlined_each : Name → Branches → local.Branches
  outlined_each at NoBranch = local.NoBranch
  outlined_each at (Branch b more) = local.Branch (outlined (Some at) b) (outlined_each at more)
