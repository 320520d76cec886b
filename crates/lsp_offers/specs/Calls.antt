-- Methods of a typestate as texts: their signatures, and calls of them with plain arguments.
use Rattle.std.specs.Prelude.{ℕ, List, [], ◌∷◌, ◌++◌, codes}
use Rattle.std.specs.List.{flat_map}
use Rattle.ts_tree.specs.declared.parts.TypeName.{TypeName}
use Rattle.ts_tree.specs.declared.parts.TypeName.TheVariants as types
use Rattle.ts_tree.specs.Typestate.{Method}

-- a type, as sources write it
abbrev pub type_text : TypeName → List ℕ
type_text types.Void = codes "void"
type_text types.Int = codes "int"
type_text types.Boolean = codes "boolean"
type_text types.Text = codes "String"
type_text (types.Named name) = name

-- a value of it that every program can write
abbrev pub plain_text : TypeName → List ℕ
plain_text types.Void = codes "null"
plain_text types.Int = codes "0"
plain_text types.Boolean = codes "true"
plain_text types.Text = codes "\"\""
plain_text (types.Named name) = codes "null"

-- texts of types, with a comma and a space between two
module _ (text : TypeName → List ℕ) where
  abbrev pub more_text : TypeName → List ℕ
  more_text type = codes ", " ++ text type

  abbrev pub listed : List TypeName → List ℕ
  listed [] = []
  listed (t ∷ ts) = text t ++ flat_map more_text ts

-- `void send_addIntToS(int)`
abbrev pub signature : Method → List ℕ
signature m =
    type_text m.result ++ (codes " " ++ (m.name ++ (codes "(" ++ (listed type_text m.params ++ codes ")"))))

-- `send_addIntToS(0)`
abbrev pub plain_call : Method → List ℕ
plain_call m = m.name ++ (codes "(" ++ (listed plain_text m.params ++ codes ")"))
