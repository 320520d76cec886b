-- How expressions are resolved: each gives an expression of the core and its type, or nothing where it names what isn't there.
use Rattle.std.specs.Prelude.{ℕ, List, [], ◌∷◌, Option, Some, None, option_map, slice_get, Bool, true, false, if◌then◌else◌, codes}
use Rattle.std.specs.Str.{bytes_eq}
use Rattle.mg_text.specs.Call.{Name}
use Rattle.mg_text.specs.declared.place.Place.{Place}
use Rattle.jv_tree.specs.declared.built_in.TextCall.{TextCall}
use Rattle.jv_tree.specs.declared.built_in.TextCall.TheVariants as texts
use Rattle.jv_tree.specs.BuiltIn.{session_named, text_named}
use Rattle.jv_tree.specs.declared.tree.Op.{Op}
use Rattle.jv_tree.specs.declared.tree.Op.TheVariants as ops
use Rattle.jv_tree.specs.Source
use Rattle.jv_tree.specs.Source.{place_of}
use Rattle.jv_meaning.specs.Program.{constant_position}
use Rattle.jv_core.specs.declared.tree.Var.{Var}
use Rattle.jv_core.specs.declared.tree.Var.TheVariants as vars
use Rattle.jv_core.specs.declared.tree.CoreVar.{CoreVar}
use Rattle.jv_core.specs.declared.program.CoreType.{CoreType}
use Rattle.jv_core.specs.declared.program.CoreType.TheVariants as types
use Rattle.jv_core.specs.Tree as Core
use Rattle.jv_core.specs.Types.{session_result, text_result}
use Rattle.jv_core.specs.View.{exprs_of}
use Rattle.jv_scope.specs.declared.locals.Local.{Local}
use Rattle.jv_scope.specs.Named.{Named, named}
use Rattle.jv_resolve_law.specs.Tables.{◌>>=◌, Entry, Tables, Callee, class_called, enum_called, method_called, field_called, type_meant}

-- the type of an expression
pub data Given : Type 0 where
  -- that of `null`
  OfNull : Given
  -- Void, where it is a call of a method without a result
  Of : CoreType → Given

-- an expression of the core, and its type
pub record Resolved : Type 0 where
  pub expr : Core.Expr
  pub given : Given

abbrev pub typed : Core.Expr → CoreType → Resolved
typed e ty = record { expr = e; given = Of ty }

-- a parameter or local in scope
abbrev pub Known : Type 0
Known = Named Local

-- where code stands: its class, and whether its method is static
pub record Standing : Type 0 where
  pub entry : Entry
  pub is_static : Bool

-- a variable and its type
pub record Found : Type 0 where
  pub var : Var
  pub ty : CoreType

abbrev pub known_named : List Known → Name → Option Known
known_named locals name = named locals name

-- whether a type is String
abbrev pub is_text : Given → Bool
is_text (Of types.Text) = true
is_text _ = false

-- what a binary operator gives, of operands of these types
abbrev pub operator_gives : Op → Given → Given → CoreType
operator_gives ops.Or l r = types.Boolean
operator_gives ops.And l r = types.Boolean
operator_gives ops.Eq l r = types.Boolean
operator_gives ops.Ne l r = types.Boolean
operator_gives ops.Lt l r = types.Boolean
operator_gives ops.Le l r = types.Boolean
operator_gives ops.Gt l r = types.Boolean
operator_gives ops.Ge l r = types.Boolean
operator_gives ops.Add l r = if is_text l then types.Text else if is_text r then types.Text else types.Int
operator_gives ops.Sub l r = types.Int
operator_gives ops.Mul l r = types.Int
operator_gives ops.Div l r = types.Int
operator_gives ops.Rem l r = types.Int

-- what a call is on
pub data Receiver : Type 0 where
  OnThis : Receiver
  -- a name that no variable has
  OnClass : Name → Receiver
  OnValue : Resolved → Receiver

-- the variable that an expression is, with its place
abbrev pub variable_in : Core.Expr → Option CoreVar
variable_in (Core.Variable p x) = Some (record { place = p; var = x })
variable_in _ = None

-- the one argument of a call
abbrev pub only : List Core.Expr → Option Core.Expr
only (e ∷ []) = Some e
only _ = None

abbrev pub found_at : Place → Found → Resolved
found_at p x = typed (Core.Variable p x.var) x.ty

-- `equals` or `concat` of a text, with one argument
abbrev pub text_form : Place → Core.Expr → Core.Expr → TextCall → Core.Expr
text_form p text arg texts.Equals = Core.Equals p text arg
text_form p text arg texts.Concat = Core.Concat p text arg

abbrev pub text_call : Place → Core.Expr → Name → Core.Expr → Option Resolved
text_call p text f arg = do
  c ← text_named f
  Some (typed (text_form p text arg c) (text_result c))

abbrev pub session_call : Place → Name → List Core.Expr → Option Resolved
session_call p f args = do
  c ← session_named f
  Some (typed (Core.Session p c (exprs_of args)) (session_result c))

module _ (tables : Tables) where
  -- a constant of an enum
  abbrev pub constant : Place → Name → Name → Option Resolved
  constant p of name = do
    k ← enum_called tables of
    i ← constant_position k.enum name
    Some (typed (Core.Constant p k.number i) (types.Enum k.number))

  -- what a field begins with: a number, a truth value, a text, `null` or a constant of an enum
  abbrev pub initial : Source.Expr → Option Core.Expr
  initial (Source.Int p z) = Some (Core.Int p z)
  initial (Source.Truth p b) = Some (Core.Truth p b)
  initial (Source.Text p t) = Some (Core.Text p t)
  initial (Source.Null p) = Some (Core.Null p)
  initial (Source.Member p (Source.Variable q of) name) = option_map (λ r. r.expr) (constant p of name)
  initial _ = None

  -- a call of a static method
  abbrev pub static_call : Place → Callee → List Core.Expr → Option Resolved
  static_call p c args = do
    ty ← type_meant tables c.method.result
    Some (typed (Core.Static p c.number (exprs_of args)) ty)

  -- a call of a method on the own object
  abbrev pub helper_call : Place → Callee → List Core.Expr → Option Resolved
  helper_call p c args = do
    ty ← type_meant tables c.method.result
    Some (typed (Core.Helper p c.number (exprs_of args)) ty)

  -- a call of a method on the object of a variable
  abbrev pub object_call : Place → CoreVar → Callee → List Core.Expr → Option Resolved
  object_call p x c args = do
    ty ← type_meant tables c.method.result
    Some (typed (Core.Protocol p x c.number (exprs_of args)) ty)

  -- `C.f(..)`
  abbrev pub call_class : Place → Name → Name → List Core.Expr → Option Resolved
  call_class p class f args = do
    k ← class_called tables class
    c ← method_called k f
    if c.method.is_static then static_call p c args else None

  -- `x.f(..)`, where x is of the class of this number
  abbrev pub call_protocol : Place → CoreVar → (class : ℕ) → Name → List Core.Expr → Option Resolved
  call_protocol p x class f args = do
    k ← slice_get tables.classes class
    c ← method_called k f
    if c.method.is_static then None else object_call p x c args

  -- a call on a value of this type: of a text's method, or of the protocol of a variable
  abbrev pub call_typed : Place → Core.Expr → Given → Name → List Core.Expr → Option Resolved
  call_typed p e (Of types.Text) f args = do
    arg ← only args
    text_call p e f arg
  call_typed p e (Of (types.Object c)) f args = do
    x ← variable_in e
    call_protocol p x c f args
  call_typed p e _ f args = None

  module _ (at : Standing) where
    -- the own field of a name, which is visible in instance methods alone
    abbrev pub own_found : Name → Option (Option Found)
    own_found name =
        if at.is_static then Some None
        else elim (field_called at.entry name) [
          | None ↦ Some None
          | Some f ↦ type_meant tables f.field.ty >>= λ ty. Some (Some (record { var = vars.Field f.place; ty = ty }))
        ]

    -- `f(..)`
    abbrev pub call_own : Place → Name → List Core.Expr → Option Resolved
    call_own p f args = do
      c ← method_called at.entry f
      if c.method.is_static then static_call p c args else helper_call p c args

    -- `this.f(..)`
    abbrev pub call_this : Place → Name → List Core.Expr → Option Resolved
    call_this p f args = do
      c ← method_called at.entry f
      if c.method.is_static then None else helper_call p c args

    -- `e.f(..)`
    abbrev pub call_on : Place → Receiver → Name → List Core.Expr → Option Resolved
    call_on p OnThis f args = call_this p f args
    call_on p (OnClass class) f args = if bytes_eq class (codes "Session") then session_call p f args else call_class p class f args
    call_on p (OnValue r) f args = call_typed p r.expr r.given f args

    -- `new C()`
    abbrev pub make : Place → Name → Option Resolved
    make p class = do
      k ← class_called tables class
      Some (typed (Core.New p k.number) (types.Object k.number))

    module _ (locals : List Known) where
      -- the variable of a name: a local or a parameter, else an own field
      abbrev pub found : Name → Option (Option Found)
      found name = elim (known_named locals name) [
        | Some l ↦ Some (Some (record { var = vars.Slot l.it.slot; ty = l.it.ty }))
        | None ↦ own_found name
      ]

      -- a variable, which must be there
      abbrev pub variable_at : Place → Option Found → Option Resolved
      variable_at p None = None
      variable_at p (Some x) = Some (found_at p x)

      -- behind the name of an enum, which no variable has
      abbrev pub constant_at : Place → Name → Name → Option Found → Option Resolved
      constant_at p of name None = constant p of name
      constant_at p of name (Some x) = None

      -- `e.name`: an own field behind `this`, and a constant behind the name of an enum
      abbrev pub member : Place → Source.Expr → Name → Option Resolved
      member p (Source.This q) name = own_found name >>= variable_at p
      member p (Source.Variable q of) name = found of >>= constant_at p of name
      member p _ name = None

      abbrev pub named_receiver : Place → Name → Option Found → Receiver
      named_receiver p name None = OnClass name
      named_receiver p name (Some x) = OnValue (found_at p x)

      -- what a call is on, where the expression was resolved to this
      abbrev pub receiver : Source.Expr → Option Resolved → Option Receiver
      receiver (Source.This p) r = Some OnThis
      receiver (Source.Variable p name) r = option_map (named_receiver p name) (found name)
      receiver e r = option_map OnValue r

      abbrev mutual
        pub resolved : Source.Expr → Option Resolved
        resolved (Source.Int p z) = Some (typed (Core.Int p z) types.Int)
        resolved (Source.Truth p b) = Some (typed (Core.Truth p b) types.Boolean)
        resolved (Source.Text p t) = Some (typed (Core.Text p t) types.Text)
        resolved (Source.Null p) = Some (record { expr = Core.Null p; given = OfNull })
        resolved (Source.This p) = None
        resolved (Source.Variable p name) = found name >>= variable_at p
        resolved (Source.Member p e name) = member p e name
        resolved (Source.Neg p e) = do
          r ← resolved e
          Some (typed (Core.Neg p r.expr) types.Int)
        resolved (Source.Not p e) = do
          r ← resolved e
          Some (typed (Core.Not p r.expr) types.Boolean)
        resolved (Source.Binary p op l r) = do
          l' ← resolved l
          r' ← resolved r
          Some (typed (Core.Binary p op l'.expr r'.expr) (operator_gives op l'.given r'.given))
        resolved (Source.Call p f args) = do
          as' ← resolved_all args
          call_own p f as'
        resolved (Source.MethodCall p e f args) = do
          w ← receiver e (resolved e)
          as' ← resolved_all args
          call_on p w f as'
        resolved (Source.New p class) = make p class

        pub resolved_all : Source.Exprs → Option (List Core.Expr)
        resolved_all Source.NoExpr = Some []
        resolved_all (Source.Argument e more) = do
          r ← resolved e
          rest ← resolved_all more
          Some (r.expr ∷ rest)
