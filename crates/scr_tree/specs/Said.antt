-- The message that statements begin with, if they begin with one.
use Rattle.std.specs.Prelude.{Option, Some, None}
use Rattle.scr_tree.specs.declared.syntax.Message.{Message}
use Rattle.scr_tree.specs.Tree.{Statements, Says}

abbrev pub first_said : Statements → Option Message
first_said (Says m rest) = Some m
first_said _ = None
