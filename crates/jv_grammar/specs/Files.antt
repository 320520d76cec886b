-- Reading files from left to right.
use Rattle.std.specs.Prelude.{ℕ, List, [], ◌∷◌, Option, Some, None, Bool, true, false, ◌&&◌, ◌||◌, not, if◌then◌else◌, codes}
use Rattle.std.specs.Str.{bytes_eq}
use Rattle.mg_text.specs.Call.{Name}
use Rattle.mg_text.specs.declared.place.Place.{Place}
use Rattle.mg_read.specs.Reader.{Reader, ◌>>=◌, all_of}
use Rattle.ts_tree.specs.declared.parts.TypeName.{TypeName}
use Rattle.ts_tree.specs.declared.parts.TypeName.TheVariants as types
use Rattle.jv_tree.specs.declared.tree.Param.{Param}
use Rattle.jv_tree.specs.declared.token.Sign.{Sign}
use Rattle.jv_tree.specs.declared.token.Sign.TheVariants as signs
use Rattle.jv_tree.specs.declared.token.TokenKind.{TokenKind}
use Rattle.jv_tree.specs.declared.token.TokenKind.TheVariants as kinds
use Rattle.jv_tree.specs.declared.token.Token.{Token}
use Rattle.jv_tree.specs.Source.{Field, Method, Class, Enum, Decl, ClassDecl, EnumDecl, File}
use Rattle.jv_tree.specs.Files.{Member, FieldMember, MethodMember, fields_among, methods_among, is_kind_among, modifiers}
use Rattle.jv_tree.specs.View.{stmts_of}
use Rattle.jv_grammar.specs.Base.{sign_at, is_sign, word_at, is_word, name_at, is_named}
use Rattle.jv_grammar.specs.Stmts.{ended_at, after_final, type_at, items_at}

abbrev pub behind : List Token → List Token
behind [] = []
behind (t ∷ ts) = ts

-- what comes behind modifiers of these words
abbrev pub after_mods : List Name → List Token → List Token
after_mods words [] = []
after_mods words (t ∷ ts) = if is_kind_among words t.kind then after_mods words ts else t ∷ ts

-- whether "static" is among them
abbrev pub static_mods : List Name → List Token → Bool
static_mods words [] = false
static_mods words (t ∷ ts) = if is_kind_among words t.kind then is_kind_among (codes "static" ∷ []) t.kind || static_mods words ts else
    false

-- "void" | type
unfoldable pub result_at : Reader Token TypeName
result_at ts = if is_word (codes "void") ts then (word_at (codes "void") ts >>= λ a. Some (types.Void, a.1)) else type_at ts

-- [ "final" ] type name
unfoldable pub param_at : Reader Token Param
param_at ts = type_at (after_final ts) >>= λ ty. name_at ty.1 >>= λ n. Some (record { place = n.0.0; ty = ty.0; name = n.0.1 }, n.1)

unfoldable pub next_param_at : Reader Token Param
next_param_at ts = sign_at signs.Comma ts >>= λ a. param_at a.1

unfoldable pub params_at : Reader Token (List Param)
params_at ts = param_at ts >>= λ first. all_of (is_sign signs.Comma) next_param_at first.1 >>= λ more. Some (first.0 ∷ more.0, more.1)

-- whether the parameter of `main` comes next
abbrev pub is_args : List Token → Bool
is_args ts = is_word (codes "String") ts && is_sign signs.OpenBracket (behind ts)

-- "String" "[" "]" name
unfoldable pub args_at : List Token → Option (List Token)
args_at ts =
    word_at (codes "String") ts >>= λ a. sign_at signs.OpenBracket a.1 >>= λ b. sign_at signs.CloseBracket b.1 >>= λ c. name_at c.1
    >>= λ n. Some n.1

-- [ params ] of a method that is `main`, or of another one; and whether it is that of `main`
unfoldable pub params_of_at : Bool → Reader Token (List Param × Bool)
params_of_at main ts =
    if is_sign signs.CloseParen ts then Some (([], false), ts)
    else (if is_args ts then (if main then (args_at ts >>= λ rest. Some (([], true), rest)) else None)
    else (params_at ts >>= λ ps. Some ((ps.0, false), ps.1)))

abbrev pub is_void : TypeName → Bool
is_void types.Void = true
is_void types.Int = false
is_void types.Boolean = false
is_void types.Text = false
is_void (types.Named n) = false

-- "static void main"
abbrev pub is_main : Bool → TypeName → Name → Bool
is_main static result name = static && (is_void result && bytes_eq name (codes "main"))

-- "(" [ params ] ")" block, behind the name of a method
unfoldable pub method_at : Bool → TypeName → Place → Name → Reader Token Method
method_at static result p n ts = do
  opening ← sign_at signs.OpenParen ts
  params ← params_of_at (is_main static result n) opening.1
  closing ← sign_at signs.CloseParen params.1
  start ← sign_at signs.OpenBrace closing.1
  body ← items_at 200 start.1
  end ← sign_at signs.CloseBrace body.1
  Some (
    record {
      place = p;
      end = end.0;
      is_static = static;
      result = result;
      name = n;
      params = params.0.0;
      takes_args = params.0.1;
      body =
          stmts_of body.0;
    },
    end.1,
  )

-- [ "=" expr ] ";", behind the name of a field
unfoldable pub field_at : TypeName → Place → Name → Reader Token Field
field_at ty p n ts =
    if is_sign signs.Assign ts then (sign_at signs.Assign ts >>= λ a. ended_at 200 a.1
    >>= λ e. Some (record { place = p; ty = ty; name = n; value = Some e.0 }, e.1))
    else (sign_at signs.Semicolon ts >>= λ a. Some (record { place = p; ty = ty; name = n; value = None }, a.1))

-- a member behind its modifiers
unfoldable pub member_with : Bool → Reader Token Member
member_with static ts = do
  result ← result_at ts
  name ← name_at result.1
  if is_sign signs.OpenParen name.1 then (method_at static result.0 name.0.0 name.0.1 name.1 >>= λ m. Some (MethodMember m.0, m.1)) else
      (if static || is_void result.0 then None else (field_at result.0 name.0.0 name.0.1 name.1 >>= λ f. Some (FieldMember f.0, f.1)))

unfoldable pub member_at : Reader Token Member
member_at ts = member_with (static_mods modifiers ts) (after_mods modifiers ts)

abbrev pub not_closed : List Token → Bool
not_closed ts = not (is_sign signs.CloseBrace ts)

-- "{" { member } "}"
unfoldable pub members_at : Reader Token (List Member)
members_at ts = sign_at signs.OpenBrace ts >>= λ a. all_of not_closed member_at a.1 >>= λ ms. sign_at signs.CloseBrace ms.1
    >>= λ c. Some (ms.0, c.1)

-- [ "@" "Typestate" "(" text ")" ]
abbrev pub text_kind : TokenKind → List Token → Option (List ℕ × List Token)
text_kind (kinds.Text t) ts = Some (t, ts)
text_kind (kinds.Word w) ts = None
text_kind (kinds.Number n) ts = None
text_kind (kinds.Sign s) ts = None

abbrev pub text_at : Reader Token (List ℕ)
text_at [] = None
text_at (t ∷ ts) = text_kind t.kind ts

unfoldable pub annotation_at : Reader Token (Option (List ℕ))
annotation_at ts =
    if is_sign signs.At ts then (sign_at signs.At ts >>= λ a. word_at (codes "Typestate") a.1 >>= λ b. sign_at signs.OpenParen b.1
    >>= λ c. text_at c.1 >>= λ t. sign_at signs.CloseParen t.1 >>= λ e. Some (Some t.0, e.1))
    else Some (None, ts)

abbrev pub class_words : List Name
class_words = codes "public" ∷ codes "final" ∷ []

abbrev pub enum_words : List Name
enum_words = codes "public" ∷ []

unfoldable pub class_at : Reader Token Class
class_at ts = do
  typestate ← annotation_at ts
  start ← word_at (codes "class") (after_mods class_words typestate.1)
  name ← name_at start.1
  members ← members_at name.1
  Some (
    record {
      place = name.0.0;
      name = name.0.1;
      typestate = typestate.0;
      fields = fields_among members.0;
      methods =
          methods_among members.0;
    },
    members.1,
  )

-- whether "," and a name come next
abbrev pub is_more_names : List Token → Bool
is_more_names ts = is_sign signs.Comma ts && is_named (behind ts)

unfoldable pub next_name_at : Reader Token Name
next_name_at ts = sign_at signs.Comma ts >>= λ a. name_at a.1 >>= λ n. Some (n.0.1, n.1)

unfoldable pub names_at : Reader Token (List Name)
names_at ts = name_at ts >>= λ n. all_of is_more_names next_name_at n.1 >>= λ more. Some (n.0.1 ∷ more.0, more.1)

-- what comes behind this sign, where it comes
abbrev pub past : Sign → List Token → List Token
past s [] = []
past s (t ∷ ts) = if is_sign s (t ∷ ts) then ts else t ∷ ts

unfoldable pub enum_at : Reader Token Enum
enum_at ts = do
  start ← word_at (codes "enum") (after_mods enum_words ts)
  name ← name_at start.1
  opening ← sign_at signs.OpenBrace name.1
  names ← names_at opening.1
  end ← sign_at signs.CloseBrace (past signs.Semicolon (past signs.Comma names.1))
  Some (record { place = name.0.0; name = name.0.1; constants = names.0 }, end.1)

-- whether an enum comes next
abbrev pub is_enum : List Token → Bool
is_enum ts = is_word (codes "enum") (after_mods enum_words ts)

unfoldable pub decl_at : Reader Token Decl
decl_at ts = if is_enum ts then (enum_at ts >>= λ e. Some (EnumDecl e.0, e.1)) else (class_at ts >>= λ c. Some (ClassDecl c.0, c.1))

-- whether "." and a name come next
abbrev pub is_more_steps : List Token → Bool
is_more_steps ts = is_sign signs.Dot ts && is_named (behind ts)

unfoldable pub next_step_at : Reader Token Name
next_step_at ts = sign_at signs.Dot ts >>= λ a. name_at a.1 >>= λ n. Some (n.0.1, n.1)

unfoldable pub path_at : Reader Token (List Name)
path_at ts = name_at ts >>= λ n. all_of is_more_steps next_step_at n.1 >>= λ more. Some (n.0.1 ∷ more.0, more.1)

-- [ "package" path ";" ]
unfoldable pub package_at : List Token → Option (List Token)
package_at ts =
    if is_word (codes "package") ts then (word_at (codes "package") ts >>= λ a. path_at a.1 >>= λ p. sign_at signs.Semicolon p.1
    >>= λ c. Some c.1) else Some ts

-- [ "." "*" ] ";"
unfoldable pub star_at : List Token → Option (List Token)
star_at ts =
    if is_sign signs.Dot ts then (sign_at signs.Dot ts >>= λ a. sign_at signs.Star a.1 >>= λ b. sign_at signs.Semicolon b.1
    >>= λ c. Some c.1)
    else (sign_at signs.Semicolon ts >>= λ c. Some c.1)

-- "import" path [ "." "*" ] ";"
unfoldable pub import_at : Reader Token (Unit {0})
import_at ts = word_at (codes "import") ts >>= λ a. path_at a.1 >>= λ p. star_at p.1 >>= λ rest. Some (tt, rest)

abbrev pub is_some_token : List Token → Bool
is_some_token [] = false
is_some_token (t ∷ ts) = true

unfoldable pub file_at : List Token → Option File
file_at ts =
    package_at ts >>= λ rest. all_of (is_word (codes "import")) import_at rest >>= λ imports. all_of is_some_token decl_at imports.1
    >>= λ decls. Some decls.0
