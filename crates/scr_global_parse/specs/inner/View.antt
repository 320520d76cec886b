-- For private clauses: the statements of the program one by one, each with none behind it.
use Rattle.std.specs.Prelude.{List, [], ◌∷◌, map}
use Rattle.mg_text.specs.Row.{Row}
use Rattle.scr_global.specs.Tree.{Statements, Nothing, Says, Choice, Rec, Continue}
use Rattle.scr_global_tree.specs.declared.statement.GStatement.{GStatement}
use Rattle.scr_global_tree.specs.View.{front}

-- one statement
unfoldable pub alone : GStatement → Statements
alone s = front s Nothing

abbrev pub all_alone : List GStatement → List Statements
all_alone ss = map alone ss

abbrev pub blocks_alone : List (Row GStatement) → List (List Statements)
blocks_alone bs = map (λ b. all_alone b.items) bs

-- a statement that stands alone, in front of others
abbrev pub in_front_of : Statements → Statements → Statements
in_front_of Nothing behind = behind
in_front_of (Says m rest) behind = Says m behind
in_front_of (Choice place at branches rest) behind = Choice place at branches behind
in_front_of (Rec place name body rest) behind = Rec place name body behind
in_front_of (Continue place name rest) behind = Continue place name behind

abbrev pub joined : List Statements → Statements
joined [] = Nothing
joined (s ∷ ss) = in_front_of s (joined ss)
