-- For private clauses: the statements of the program one by one, each with none behind it.
use Rattle.std.specs.Prelude.{List, [], ◌∷◌, map}
use Rattle.mg_text.specs.Row.{Row}
use Rattle.scr_tree.specs.declared.syntax.Statement.{Statement}
use Rattle.scr_tree.specs.Tree.{Statements, Nothing, Says, Choice, Rec, Continue, Do}
use Rattle.scr_tree.specs.View.{front}
use Rattle.scr_tree.specs.declared.written.WrittenPart.{WrittenPart as Part}
use Rattle.scr_tree.specs.Written.{WrittenPart, part_written}

-- one statement
unfoldable pub alone : Statement → Statements
alone s = front s Nothing

abbrev pub all_alone : List Statement → List Statements
all_alone ss = map alone ss

abbrev pub blocks_alone : List (Row Statement) → List (List Statements)
blocks_alone bs = map (λ b. all_alone b.items) bs

-- a statement that stands alone, in front of others
abbrev pub in_front_of : Statements → Statements → Statements
in_front_of Nothing behind = behind
in_front_of (Says m rest) behind = Says m behind
in_front_of (Choice place at branches rest) behind = Choice place at branches behind
in_front_of (Rec place name body rest) behind = Rec place name body behind
in_front_of (Continue place name rest) behind = Continue place name behind
in_front_of (Do place name rest) behind = Do place name behind

abbrev pub joined : List Statements → Statements
joined [] = Nothing
joined (s ∷ ss) = in_front_of s (joined ss)

abbrev pub all_parts : List Part → List WrittenPart
all_parts ps = map part_written ps
