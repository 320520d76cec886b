-- What is visible at a place of a method.
use Rattle.std.specs.Prelude.{List, [], ◌∷◌, Option, Some, None, option_map, Bool, true, false, if◌then◌else◌}
use Rattle.std.specs.List.{find}
use Rattle.std.specs.Str.{bytes_eq}
use Rattle.mg_text.specs.Call.{Name}
use Rattle.ts_tree.specs.declared.parts.TypeName.{TypeName}
use Rattle.jv_tree.specs.declared.tree.Param.{Param}
use Rattle.jv_tree.specs.Source.{Field, Method, Class, Stmt, Local, Expr, Variable, Member, This}
use Rattle.jv_meaning.specs.Program.{field_named}
use Rattle.jv_rules.specs.Program.{Program}
use Rattle.jv_rules.specs.Types.{ValueType, meant}

-- a local or a parameter, with the type of its values
pub record Declared : Type 0 where
  pub name : Name
  pub type : ValueType

-- what `break` and `continue` may lead to
pub data Target : Type 0 where
  Loop : (label : Option Name) → Target
  Switch : Target

pub record Scope : Type 0 where
  pub program : Program
  pub class : Class
  pub method : Method
  -- the parameters and locals in scope, the last one first
  pub locals : List Declared
  -- the loops and switches around, the innermost first
  pub around : List Target

-- where a method begins, before its parameters
abbrev pub entered : Program → Class → Method → Scope
entered program class method = record { program = program; class = class; method = method; locals = []; around = [] }

abbrev pub declare : Name → TypeName → Scope → Scope
declare name ty scope = record scope { locals = record { name = name; type = meant scope.program ty } ∷ scope.locals }

-- what is in scope behind a statement
abbrev pub behind : Stmt → Scope → Scope
behind (Local p ty name e) scope = declare name ty scope
behind s scope = scope

-- within a loop or a switch
abbrev pub within : Target → Scope → Scope
within target scope = record scope { around = target ∷ scope.around }

abbrev pub with_params : List Param → Scope → Scope
with_params [] scope = scope
with_params (p ∷ ps) scope = with_params ps (declare p.name p.ty scope)

-- the last one of a name
abbrev pub declared_named : List Declared → Name → Option Declared
declared_named locals name = find (λ d. bytes_eq d.name name) locals

abbrev pub local_named : Scope → Name → Option Declared
local_named scope name = declared_named scope.locals name

-- fields are visible in instance methods alone
abbrev pub own_field : Scope → Name → Option Field
own_field scope name = if scope.method.is_static then None else field_named scope.class name

abbrev pub field_type : Scope → Name → Option ValueType
field_type scope name = option_map (λ f. meant scope.program f.ty) (own_field scope name)

-- the type of a variable: a local or a parameter, else an own field
abbrev pub variable_type : Scope → Name → Option ValueType
variable_type scope name = elim (local_named scope name) [ None ↦ field_type scope name | Some d ↦ Some d.type ]

-- the own field that an expression is
abbrev pub field_of : Scope → Expr → Option Field
field_of scope (Variable p name) = elim (local_named scope name) [ None ↦ own_field scope name | Some d ↦ None ]
field_of scope (Member p (This q) name) = own_field scope name
field_of scope _ = None

-- an expression that has the form of a variable
abbrev pub is_variable : Expr → Bool
is_variable (Variable p name) = true
is_variable (Member p (This q) name) = true
is_variable _ = false
