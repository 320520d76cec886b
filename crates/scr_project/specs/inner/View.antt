-- For private clauses: what the program's values say.
use Rattle.std.specs.Prelude.{List, [], ◌∷◌, Option, option_map}
use Rattle.mg_text.specs.Call.{Name}
use Rattle.mg_text.specs.Row.{Row}
use Rattle.scr_tree.specs.declared.syntax.Statement.{Statement}
use Rattle.scr_tree.specs.Tree.{Statements, Branches}
use Rattle.scr_tree.specs.View.{statements, bodies}
use Rattle.scr_project.specs.declared.names.Names.{Names}
use Rattle.scr_project.specs.declared.names.Names.TheVariants.{Outside, Inside'}
use Rattle.scr_project.specs.declared.part.Part.{Part}
use Rattle.scr_project.specs.declared.part.Each.{Each}
use Rattle.scr_project.specs.inner.Walk.{Found, FoundEach}

abbrev pub names_of : Names → List Name
names_of Outside = []
names_of (Inside' name p around) = name.now ∷ names_of around

abbrev pub says_of : Option (Row Statement) → Option Statements
says_of says = option_map (λ b. statements b.items) says

abbrev pub say_of : Option (Row (Row Statement)) → Option Branches
say_of says = option_map (λ b. bodies b.items) says

abbrev pub found_of : Part → Found
found_of p = record { named = p.named; reach = p.reach; first = p.first; says = says_of p.says }

abbrev pub each_of : Each → FoundEach
each_of p = record { named = p.named; reach = p.reach; first = p.first; says = say_of p.says }
