-- What operators and names stand for: built-in methods, methods of classes, variables, enum constants, and what fields begin with.
use Rattle.std.specs.Prelude.{Bool, true, false, List, [], ◌∷◌, map, Option, Some, None, pos, ◌&&◌, if◌then◌else◌, is_some}
use Rattle.std.specs.Prelude.{option_map, option_and_then}
use Rattle.std.specs.List.{find as first}
use Rattle.std.specs.Str.{bytes_eq}
use Rattle.mg_text.specs.Call.{Name}
use Rattle.ts_tree.specs.declared.parts.TypeName.{TypeName}
use Rattle.ts_tree.specs.declared.parts.TypeName.TheVariants as types
use Rattle.jv_tree.specs.declared.tree.Param.{Param}
use Rattle.jv_tree.specs.Source.{Expr, Int, Truth, Text, Null, Variable, Member, Stmt, Block, Field, Method}
use Rattle.jv_values.specs.Values.{Value, Row, Here, find}
use Rattle.jv_values.specs.Values as values
use Rattle.jv_meaning.specs.Program.{Sources, class_named, enum_named, field_named, method_named, constant_position}

-- a method is named by its class and its name
abbrev pub Called : Type 0
Called = Name × Name

-- a method of a class, as it runs
abbrev pub method_in : Name → Method → values.Method Name Stmt
method_in class m = record {
  class = class;
  name = m.name;
  on_object = if m.is_static then false else true;
  has_result = elim m.result [ types.Void ↦ false | _ ↦ true ];
  params = map (λ (p : Param). p.name) m.params;
  body = Block m.place m.body m.end;
}

abbrev pub method_of : Sources → Called → Option (values.Method Name Stmt)
method_of j m = option_map (method_in m.0) (option_and_then (λ c. method_named c m.1) (class_named j m.0))

-- static void main(String[] x): no other method takes these arguments
abbrev pub is_main : Method → Bool
is_main m = m.is_static && m.takes_args

abbrev pub main_of : Sources → (class : Name) → Option (values.Method Name Stmt)
main_of j c = option_map (method_in c) (option_and_then (λ k. first is_main k.methods) (class_named j c))

-- What a name alone stands for: a local, or else a field of the object that the code runs on, or else no variable.
pub data Referent : Type 0 where
  ALocal : Value → Referent
  AField : Referent
  NoVariable : Referent

-- code that runs on an object, whose class has this field
abbrev pub has_field : Sources → Here Name → Name → Bool
has_field j here x = is_some here.object && is_some (option_and_then (λ c. field_named c x) (class_named j here.class))

abbrev pub local_or : Option Value → (is_field : Bool) → Referent
local_or (Some v) is_field = ALocal v
local_or None is_field = if is_field then AField else NoVariable

abbrev pub referent : Sources → Here Name → Row Name → Name → Referent
referent j here locals x = local_or (find bytes_eq x locals) (has_field j here x)

-- the constant `E.A`
abbrev pub constant_named : Sources → (enum constant : Name) → Option Value
constant_named j e a = option_and_then (λ k. option_map (values.Constant e) (constant_position k a)) (enum_named j e)

-- a field without a written constant begins with 0, false or null
abbrev pub default_of : TypeName → Value
default_of types.Int = values.Int (pos 0)
default_of types.Boolean = values.Truth false
default_of _ = values.Null

-- the constants that may be written: a number, a truth value, a text, null, and a constant of an enum
abbrev pub written : Sources → Expr → Option Value
written j (Int p z) = Some (values.Int z)
written j (Truth p b) = Some (values.Truth b)
written j (Text p t) = Some (values.Text t)
written j (Null p) = Some values.Null
written j (Member p (Variable q e) a) = constant_named j e a
written j _ = None

abbrev pub begins_with : Sources → TypeName → Option Expr → Option Value
begins_with j ty None = Some (default_of ty)
begins_with j ty (Some e) = written j e

-- the fields of a new object
abbrev pub new_fields : Sources → List Field → Option (Row Name)
new_fields j [] = Some []
new_fields j (f ∷ fs) = option_and_then (λ v. option_map (λ row. (f.name, v) ∷ row) (new_fields j fs)) (begins_with j f.ty f.value)
