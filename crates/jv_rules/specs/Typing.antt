-- The types of expressions. They know nothing of faults: an expression at fault may have a type, too.
use Rattle.std.specs.Prelude.{List, Option, Some, None, map, option_map, Bool, true, false, if◌then◌else◌, codes}
use Rattle.std.specs.List.{find, list_any}
use Rattle.std.specs.Str.{bytes_eq}
use Rattle.mg_text.specs.Call.{Name}
use Rattle.jv_tree.specs.declared.tree.Op.{Op}
use Rattle.jv_tree.specs.declared.tree.Op.TheVariants as ops
use Rattle.jv_tree.specs.declared.built_in.PlainType.{PlainType}
use Rattle.jv_tree.specs.declared.built_in.PlainType.TheVariants as plain
use Rattle.jv_tree.specs.BuiltIn.{PlainMethod, session_method, session_calls, text_method, text_calls}
use Rattle.jv_tree.specs.Source.{Method, Class, Expr, Int, Truth, Text, Null, This, Variable, Member, Neg, Not, Binary, Call, MethodCall}
use Rattle.jv_tree.specs.Source.{New}
use Rattle.jv_meaning.specs.Program.{class_named, enum_named, method_named}
use Rattle.jv_rules.specs.Program.{Program, is_of_protocol}
use Rattle.jv_rules.specs.Types.{ValueType, NoValue, IntType, BooleanType, TextType, EnumType, ClassType, NullType, Signature, signature_of}
use Rattle.jv_rules.specs.Scope.{Scope, variable_type, field_type}

abbrev pub takes_and_gives : List ValueType → ValueType → Signature
takes_and_gives params result = record { params = params; result = result }

-- the type that a plain one is
abbrev pub plain_type : PlainType → ValueType
plain_type plain.Void = NoValue
plain_type plain.Int = IntType
plain_type plain.Boolean = BooleanType
plain_type plain.Text = TextType

abbrev pub plain_signature : PlainMethod → Signature
plain_signature m = takes_and_gives (map plain_type m.params) (plain_type m.result)

abbrev pub signed : PlainMethod → Name × Signature
signed m = (m.name, plain_signature m)

-- the methods of the class `Session`
abbrev pub session_methods : List (Name × Signature)
session_methods = map (λ c. signed (session_method c)) session_calls

-- the methods of a text
abbrev pub text_methods : List (Name × Signature)
text_methods = map (λ c. signed (text_method c)) text_calls

abbrev pub built_in : List (Name × Signature) → Name → Option Signature
built_in methods name = option_map (λ m. m.1) (find (λ m. bytes_eq m.0 name) methods)

-- `main` with `String[]` isn't callable
abbrev pub static_of : Program → Method → Option Signature
static_of program m = if m.is_static then (if m.takes_args then None else Some (signature_of program m)) else None

-- A method of the object itself. From a static method no helper is callable. A method of the protocol is
-- known there too, though it may not be called so.
abbrev pub own_instance : Scope → Method → Option Signature
own_instance scope m =
    if m.is_static then None
    else if is_of_protocol scope.program scope.class m.name then Some (signature_of scope.program m)
    else if scope.method.is_static then None
    else Some (signature_of scope.program m)

abbrev pub own_method : Scope → Method → Option Signature
own_method scope m = if m.is_static then static_of scope.program m else own_instance scope m

-- a method of the protocol of another object
abbrev pub protocol_method : Program → Class → Name → Option Signature
protocol_method program class name = elim (method_named class name) [
  | None ↦ None
  | Some m ↦ if m.is_static then None else if is_of_protocol program class name then Some (signature_of program m) else None
]

-- `name(..)`
abbrev pub called : Scope → Name → Option Signature
called scope name = elim (method_named scope.class name) [ None ↦ None | Some m ↦ own_method scope m ]

-- `this.name(..)`
abbrev pub called_on_this : Scope → Name → Option Signature
called_on_this scope name = elim (method_named scope.class name) [ None ↦ None | Some m ↦ own_instance scope m ]

-- `C.name(..)`
abbrev pub called_on_class : Program → Name → Name → Option Signature
called_on_class program class name =
    if bytes_eq class (codes "Session") then built_in session_methods name
    else elim (class_named program.files class) [
      | None ↦ None
      | Some c ↦ elim (method_named c name) [ None ↦ None | Some m ↦ static_of program m ]
    ]

-- a call on a value of this type
abbrev pub called_on_value : Program → ValueType → Name → Option Signature
called_on_value program TextType name = built_in text_methods name
called_on_value program (ClassType class) name = elim (class_named program.files class) [
  | None ↦ None
  | Some c ↦ protocol_method program c
      name
]
called_on_value program _ name = None

-- a call on an expression of this type, where it has one
abbrev pub called_on : Scope → Expr → Option ValueType → Name → Option Signature
called_on scope (This p) type name = called_on_this scope name
called_on scope (Variable p x) None name = called_on_class scope.program x name
called_on scope e None name = None
called_on scope e (Some type) name = called_on_value scope.program type name

-- the constant of an enum, where no variable has the enum's name
abbrev pub constant_type : Program → Name → Name → Option ValueType
constant_type program of name = elim (enum_named program.files of) [
  | None ↦ None
  | Some e ↦ if list_any (bytes_eq name) e.constants then Some (EnumType of) else None
]

abbrev pub is_text : Option ValueType → Bool
is_text (Some TextType) = true
is_text _ = false

-- what a binary operator gives, of operands of these types
abbrev pub operator_type : Op → Option ValueType → Option ValueType → ValueType
operator_type ops.Or l r = BooleanType
operator_type ops.And l r = BooleanType
operator_type ops.Eq l r = BooleanType
operator_type ops.Ne l r = BooleanType
operator_type ops.Lt l r = BooleanType
operator_type ops.Le l r = BooleanType
operator_type ops.Gt l r = BooleanType
operator_type ops.Ge l r = BooleanType
operator_type ops.Add l r = if is_text l then TextType else if is_text r then TextType else IntType
operator_type ops.Sub l r = IntType
operator_type ops.Mul l r = IntType
operator_type ops.Div l r = IntType
operator_type ops.Rem l r = IntType

-- `e.name`: an own field behind `this`, and a constant behind the name of an enum that no variable has
abbrev pub member_type : Scope → Expr → Name → Option ValueType
member_type scope (This p) name = field_type scope name
member_type scope (Variable p x) name = elim (variable_type scope x) [ None ↦ constant_type scope.program x name | Some t ↦ None ]
member_type scope _ name = None

abbrev pub type_of : Scope → Expr → Option ValueType
type_of scope (Int p z) = Some IntType
type_of scope (Truth p b) = Some BooleanType
type_of scope (Text p t) = Some TextType
type_of scope (Null p) = Some NullType
type_of scope (This p) = None
type_of scope (Variable p x) = variable_type scope x
type_of scope (Member p e name) = member_type scope e name
type_of scope (Neg p e) = Some IntType
type_of scope (Not p e) = Some BooleanType
type_of scope (Binary p op l r) = Some (operator_type op (type_of scope l) (type_of scope r))
type_of scope (Call p name args) = option_map (λ s. s.result) (called scope name)
type_of scope (MethodCall p e name args) = option_map (λ s. s.result) (called_on scope e (type_of scope e) name)
type_of scope (New p class) = Some (ClassType class)
