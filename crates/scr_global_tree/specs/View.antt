-- The tree that the program's statements are.
use Rattle.std.specs.Prelude.{ℕ, List, [], ◌∷◌, map}
use Rattle.mg_text.specs.Call.{Name}
use Rattle.mg_text.specs.Row.{Row}
use Rattle.mg_text.specs.declared.place.Place.{Place}
use Rattle.scr_tree.specs.declared.syntax.Payload.{Payload}
use Rattle.scr_global.specs.Tree.{Told, Statements, Nothing, Says, Choice, Rec, Continue, Branches, NoBranch, Branch}
use Rattle.scr_global_tree.specs.declared.statement.GStatement.{GStatement}
use Rattle.scr_global_tree.specs.declared.statement.GStatement.TheOpen.{GStatement-F}
use Rattle.scr_global_tree.specs.declared.statement.GStatement.TheOpen as layers
use Rattle.scr_global_tree.specs.declared.statement.GStatement.TheFolds.{fold-GStatement}
use Rattle.scr_global_tree.specs.Tree.{GlobalTree}

-- one statement, in front of those that stand behind it
abbrev pub Front : Type 0
Front = Statements → Statements

abbrev pub in_front : List Front → Statements
in_front [] = Nothing
in_front (front ∷ fronts) = front (in_front fronts)

abbrev pub branches_of : List Statements → Branches
branches_of [] = NoBranch
branches_of (statements ∷ more) = Branch statements (branches_of more)

-- a message with its place
abbrev pub told : Place → (from to label : Name) → Payload → Told
told place from to label payload = record { place = place; from = from; to = to; label = label; payload = payload }

-- one statement, with what each inner one says in its place
abbrev pub layer : GStatement-F Front → Front
layer (layers.Message place sender receiver label payload) = Says (told place sender receiver label payload)
layer (layers.Choice place at branches) = Choice place at (branches_of (map (λ b. in_front b.items) branches.items))
layer (layers.Rec place name body) = Rec place name (in_front body.items)
layer (layers.Continue place name) = Continue place name

unfoldable pub front : GStatement → Front
front = fold-GStatement Front layer

-- the tree of statements
abbrev pub statements : List GStatement → Statements
statements ss = in_front (map front ss)

-- the trees of branches
abbrev pub bodies : List (Row GStatement) → Branches
bodies branches = branches_of (map (λ b. statements b.items) branches)

-- the tree of a global protocol's parts
abbrev pub written : ℕ → Name → List Name → List Place → List GStatement → GlobalTree
written file name roles places body = record { file = file; name = name; roles = roles; places = places; body = statements body }
