-- The tree that the program's statements are.
use Rattle.std.specs.Prelude.{ℕ, List, [], ◌∷◌, map}
use Rattle.mg_text.specs.Call.{Name}
use Rattle.mg_text.specs.Row.{Row}
use Rattle.scr_tree.specs.declared.syntax.Part.{Part}
use Rattle.scr_tree.specs.declared.syntax.Statement.{Statement}
use Rattle.scr_tree.specs.declared.syntax.Statement.TheOpen.{Statement-F}
use Rattle.scr_tree.specs.declared.syntax.Statement.TheOpen as layers
use Rattle.scr_tree.specs.declared.syntax.Statement.TheFolds.{fold-Statement}
use Rattle.scr_tree.specs.Tree.{PartTree, LocalTree, Statements, Nothing, Says, Choice, Rec, Continue, Do, Branches, NoBranch, Branch}

-- one statement, in front of those that stand behind it
abbrev pub Front : Type 0
Front = Statements → Statements

abbrev pub in_front : List Front → Statements
in_front [] = Nothing
in_front (front ∷ fronts) = front (in_front fronts)

abbrev pub branches_of : List Statements → Branches
branches_of [] = NoBranch
branches_of (statements ∷ more) = Branch statements (branches_of more)

-- one statement, with what each inner one says in its place
abbrev pub layer : Statement-F Front → Front
layer (layers.Message message) = Says message
layer (layers.Choice place at branches) = Choice place at (branches_of (map (λ b. in_front b.items) branches.items))
layer (layers.Rec place name body) = Rec place name (in_front body.items)
layer (layers.Continue place name) = Continue place name
layer (layers.Do place name) = Do place name

unfoldable pub front : Statement → Front
front = fold-Statement Front layer

-- the tree of statements
abbrev pub statements : List Statement → Statements
statements ss = in_front (map front ss)

-- the trees of branches
abbrev pub bodies : List (Row Statement) → Branches
bodies branches = branches_of (map (λ b. statements b.items) branches)

-- a protocol behind the first
abbrev pub part_of : Part → PartTree
part_of p = record { place = p.place; name = p.name; body = statements p.body.items }

-- the tree of a local protocol's parts
abbrev pub written : ℕ → Name → Name → List Name → List Statement → List Part → LocalTree
written file name me roles body others =
    record { file = file; name = name; me = me; roles = roles; body = statements body; others = map part_of others }
