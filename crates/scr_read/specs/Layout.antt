-- How a local protocol is laid out: no module line and no types, four spaces a level; its protocols follow one another.
use Rattle.std.specs.Prelude.{ℕ, ◌+◌, ◌*◌, List, [], ◌∷◌, ◌++◌, codes, replicate}
use Rattle.mg_text.specs.Call.{Name}
use Rattle.scr_tree.specs.declared.syntax.Direction.{Direction}
use Rattle.scr_tree.specs.declared.syntax.Direction.TheVariants as directions
use Rattle.scr_tree.specs.declared.syntax.Message.{Message}
use Rattle.scr_tree.specs.Payloads.{payload_word}
use Rattle.scr_tree.specs.Tree.{LocalTree, Titled, titled, Statements, Nothing, Says, Choice, Rec, Continue, Do, Branches, NoBranch, Branch}

abbrev pub indent : ℕ → List ℕ
indent level = replicate (4 * level) 32

abbrev pub direction_word : Direction → List ℕ
direction_word directions.To = codes "to"
direction_word directions.From = codes "from"

abbrev pub message_text : Message → List ℕ
message_text m = m.label ++ (codes "("
    ++ (payload_word m.payload ++ (codes ") " ++ (direction_word m.direction ++ (codes " " ++ (m.peer ++ codes ";"))))))

-- lines between braces; the closing brace is at the level of the opening line
abbrev pub braced : ℕ → List ℕ → List ℕ
braced level inside = codes "{\n" ++ (inside ++ (indent level ++ codes "}"))

-- the arguments of a `do`, with what stands before the first; before each of the others stands a comma
abbrev pub argument_list : List ℕ → List Name → List ℕ
argument_list before [] = []
argument_list before (role ∷ roles) = before ++ (role ++ argument_list (codes ", ") roles)

abbrev pub do_text : List Name → Name → List ℕ
do_text roles name = codes "do " ++ (name ++ (codes "(" ++ (argument_list [] roles ++ codes ");")))

abbrev mutual
  -- the lines of statements of a protocol that has these roles
  pub lines : List Name → ℕ → Statements → List ℕ
  lines roles level Nothing = []
  lines roles level (Says m rest) = indent level ++ (message_text m ++ (codes "\n" ++ lines roles level rest))
  lines roles level (Choice place at branches rest) =
      indent level ++ (codes "choice at "
      ++ (at ++ (codes " " ++ (branch_lines roles [] level branches ++ (codes "\n" ++ lines roles level rest)))))
  lines roles level (Rec place name body rest) =
      indent level ++ (codes "rec " ++
      (name ++ (codes " " ++ (braced level (lines roles (level + 1) body) ++ (codes "\n" ++ lines roles level rest)))))
  lines roles level (Continue place name rest) = indent level ++ (codes "continue " ++ (name ++ (codes ";\n" ++ lines roles level rest)))
  lines roles level (Do place name rest) = indent level ++ (do_text roles name ++ (codes "\n" ++ lines roles level rest))

  -- branches, with what stands before the first; before each of the others stands "or"
  pub branch_lines : List Name → List ℕ → ℕ → Branches → List ℕ
  branch_lines roles before level NoBranch = []
  branch_lines roles before level (Branch b more) =
      before ++ (braced level (lines roles (level + 1) b) ++ branch_lines roles (codes " or ") level more)

-- statements between braces
abbrev pub block : List Name → ℕ → Statements → List ℕ
block roles level statements = braced level (lines roles (level + 1) statements)

-- roles, with what stands before the first; before each of the others stands a comma
abbrev pub role_list : List ℕ → List Name → List ℕ
role_list before [] = []
role_list before (role ∷ roles) = before ++ (codes "role " ++ (role ++ role_list (codes ", ") roles))

-- a protocol of a role, with all roles
abbrev pub part_text : Name → List Name → Titled → List ℕ
part_text me roles t =
    codes "local protocol " ++ (t.name
    ++ (codes " at " ++ (me ++ (codes "(" ++ (role_list [] roles ++ (codes ") " ++ (block roles 0 t.body ++ codes "\n")))))))

abbrev pub part_texts : Name → List Name → List Titled → List ℕ
part_texts me roles [] = []
part_texts me roles (t ∷ more) = part_text me roles t ++ part_texts me roles more

-- the text of a local protocol
abbrev pub layout : LocalTree → List ℕ
layout local = part_texts local.me local.roles (titled local)
