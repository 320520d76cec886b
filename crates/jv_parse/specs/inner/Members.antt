-- Members, as the program keeps them: its fields apart from its methods.
use Rattle.std.specs.Prelude.{List, map, Option, Some, None, Bool, if◌then◌else◌, codes}
use Rattle.mg_text.specs.Call.{Name}
use Rattle.mg_text.specs.declared.place.Place.{Place}
use Rattle.mg_read.specs.Reader.{Reader, ◌>>=◌, all_of}
use Rattle.jv_tree.specs.declared.token.Sign.TheVariants as signs
use Rattle.jv_tree.specs.declared.token.Token.{Token}
use Rattle.ts_tree.specs.declared.parts.TypeName.{TypeName}
use Rattle.jv_tree.specs.declared.tree.Param.{Param}
use Rattle.jv_tree.specs.Source.{Expr, Stmts, Field, Method, Class, Enum}
use Rattle.jv_tree.specs.Files.{Member, FieldMember, MethodMember, fields_among, methods_among}
use Rattle.jv_tree.specs.View.{stmt_of, stmts_of, field_of, method_of}
use Rattle.jv_grammar.specs.Base.{sign_at, is_sign, word_at, name_at}
use Rattle.jv_grammar.specs.Stmts.{ended_at, items_at}
use Rattle.jv_grammar.specs.Files.{after_mods, class_words, annotation_at, params_of_at, not_closed, member_at, names_at, past}
use Rattle.jv_parse.specs.declared.members.Behind.{Behind as KeptBehind}
use Rattle.jv_parse.specs.declared.members.Member.{Member as KeptMember}
use Rattle.jv_parse.specs.declared.members.Member.TheVariants as kept

-- what stands behind the name of a method: its parameters, whether they are those of `main`, its body and its end
abbrev pub Behind : Type 0
Behind = (List Param × Bool) × (Stmts × Place)

abbrev pub behind_of : KeptBehind → Behind
behind_of b = ((b.params.items, b.takes_args), (stmts_of (map stmt_of b.body.items), b.end))

unfoldable pub behind_at : Bool → Reader Token Behind
behind_at main ts = do
  opening ← sign_at signs.OpenParen ts
  params ← params_of_at main opening.1
  closing ← sign_at signs.CloseParen params.1
  start ← sign_at signs.OpenBrace closing.1
  body ← items_at 200 start.1
  end ← sign_at signs.CloseBrace body.1
  Some ((params.0, (stmts_of body.0, end.0)), end.1)

-- a method of these parts, in front of what stands behind it
abbrev pub method_from : Bool → TypeName → Place → Name → Behind × List Token → Option (Method × List Token)
method_from static result p n b = Some (
  record {
    place = p;
    end = b.0.1.1;
    is_static = static;
    result = result;
    name = n;
    params = b.0.0.0;
    takes_args = b.0.0.1;
    body =
        b.0.1.0;
  },
  b.1,
)

-- [ "=" expr ] ";", behind the name of a field
unfoldable pub value_at : Reader Token (Option Expr)
value_at ts =
    if is_sign signs.Assign ts then (sign_at signs.Assign ts >>= λ a. ended_at 200 a.1 >>= λ e. Some (Some e.0, e.1))
    else (sign_at signs.Semicolon ts >>= λ a. Some (None, a.1))

-- a field of these parts, in front of what stands behind it
abbrev pub field_from : TypeName → Place → Name → Option Expr × List Token → Option (Field × List Token)
field_from ty p n v = Some (record { place = p; ty = ty; name = n; value = v.0 }, v.1)

abbrev pub member_of : KeptMember → Member
member_of (kept.Field f) = FieldMember (field_of f)
member_of (kept.Method m) = MethodMember (method_of m)

-- members that were read, each kind for itself
abbrev pub sorted : Option (List Member × List Token) → Option ((List Field × List Method) × List Token)
sorted read = read >>= λ ms. Some ((fields_among ms.0, methods_among ms.0), ms.1)

abbrev pub sorted_at : Reader Token (List Field × List Method)
sorted_at ts = sorted (all_of not_closed member_at ts)

-- "{" { member } "}"
abbrev pub sorted_members : Reader Token (List Field × List Method)
sorted_members ts = sign_at signs.OpenBrace ts >>= λ a. sorted_at a.1 >>= λ ms. sign_at signs.CloseBrace ms.1 >>= λ c. Some (ms.0, c.1)

-- a class, with its members sorted so
abbrev pub class_read : Reader Token Class
class_read ts = do
  typestate ← annotation_at ts
  start ← word_at (codes "class") (after_mods class_words typestate.1)
  name ← name_at start.1
  members ← sorted_members name.1
  Some (record { place = name.0.0; name = name.0.1; typestate = typestate.0; fields = members.0.0; methods = members.0.1 }, members.1)

-- name "{" name { "," name } [ "," ] [ ";" ] "}", behind "enum"
abbrev pub named_enum_at : Reader Token Enum
named_enum_at ts = do
  name ← name_at ts
  opening ← sign_at signs.OpenBrace name.1
  names ← names_at opening.1
  end ← sign_at signs.CloseBrace (past signs.Semicolon (past signs.Comma names.1))
  Some (record { place = name.0.0; name = name.0.1; constants = names.0 }, end.1)
