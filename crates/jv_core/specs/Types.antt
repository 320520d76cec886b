-- The types of expressions, in a method and with these slots in scope.
use Rattle.std.specs.Prelude.{◌≡◌, ◌⊎◌, ◌<◌, ℕ, ℤ, Bool, List, [], ◌∷◌, map, length, Some, slice_get, Contains}
use Rattle.mg_text.specs.declared.place.Place.{Place}
use Rattle.jv_tree.specs.declared.tree.Op.{Op}
use Rattle.jv_tree.specs.declared.tree.Op.TheVariants as ops
use Rattle.jv_core.specs.declared.tree.Var.{Var}
use Rattle.jv_core.specs.declared.tree.Var.TheVariants as vars
use Rattle.jv_core.specs.declared.tree.CoreVar.{CoreVar}
use Rattle.jv_tree.specs.declared.built_in.SessionCall.{SessionCall}
use Rattle.jv_tree.specs.declared.built_in.PlainType.{PlainType}
use Rattle.jv_tree.specs.declared.built_in.PlainType.TheVariants as plain
use Rattle.jv_tree.specs.declared.built_in.TextCall.{TextCall}
use Rattle.jv_tree.specs.BuiltIn.{session_method, text_method}
use Rattle.jv_core.specs.declared.program.CoreType.{CoreType}
use Rattle.jv_core.specs.declared.program.CoreType.TheVariants as types
use Rattle.jv_core.specs.declared.program.MethodKind.{MethodKind}
use Rattle.jv_core.specs.declared.program.MethodKind.TheVariants as kinds
use Rattle.jv_core.specs.Tree.{Expr, Int, Truth, Text, Null, Variable, Constant, Neg, Not, Binary, Protocol, Helper, Static, Equals, Concat}
use Rattle.jv_core.specs.Tree.{Session, New}
use Rattle.jv_core.specs.Tree.{Exprs, NoExpr, Argument, Class, Enum, Method, Program}
use Rattle.jv_core.specs.Lookup.{variable_type, param_types, IsInstance}

-- Operators.

-- `- * / %`
abbrev pub IsArithmetic : Op → Type 0
IsArithmetic ops.Sub = Unit {0}
IsArithmetic ops.Mul = Unit {0}
IsArithmetic ops.Div = Unit {0}
IsArithmetic ops.Rem = Unit {0}
IsArithmetic _ = ⊥

-- `< <= > >=`
abbrev pub IsOrder : Op → Type 0
IsOrder ops.Lt = Unit {0}
IsOrder ops.Le = Unit {0}
IsOrder ops.Gt = Unit {0}
IsOrder ops.Ge = Unit {0}
IsOrder _ = ⊥

-- `== !=`
abbrev pub IsEquality : Op → Type 0
IsEquality ops.Eq = Unit {0}
IsEquality ops.Ne = Unit {0}
IsEquality _ = ⊥

-- `&& ||`
abbrev pub IsLogic : Op → Type 0
IsLogic ops.And = Unit {0}
IsLogic ops.Or = Unit {0}
IsLogic _ = ⊥

-- ints, booleans and Strings are printed, and joined to a String by `+`
abbrev pub IsShown : CoreType → Type 0
IsShown types.Int = Unit {0}
IsShown types.Boolean = Unit {0}
IsShown types.Text = Unit {0}
IsShown _ = ⊥

-- two ints, two booleans or two constants of one enum are compared by `==`
abbrev pub IsCompared : CoreType → Type 0
IsCompared types.Int = Unit {0}
IsCompared types.Boolean = Unit {0}
IsCompared (types.Enum e) = Unit {0}
IsCompared _ = ⊥

-- The methods that every program has: what those of `Session` take and give, and what those of texts give.

abbrev pub plain_type : PlainType → CoreType
plain_type plain.Void = types.Void
plain_type plain.Int = types.Int
plain_type plain.Boolean = types.Boolean
plain_type plain.Text = types.Text

abbrev pub session_params : SessionCall → List CoreType
session_params c = map plain_type (session_method c).params

abbrev pub session_result : SessionCall → CoreType
session_result c = plain_type (session_method c).result

abbrev pub text_result : TextCall → CoreType
text_result c = plain_type (text_method c).result

-- Helper calls in the arguments of a call on an own field.

abbrev mutual
  -- a helper call stands in an expression, at any depth
  pub CallsHelper : Expr → Type 0
  CallsHelper (Neg q e) = CallsHelper e
  CallsHelper (Not q e) = CallsHelper e
  CallsHelper (Binary q o a b) = CallsHelper a ⊎ CallsHelper b
  CallsHelper (Protocol q x m args) = CallsHelperIn args
  CallsHelper (Helper q m args) = Unit {0}
  CallsHelper (Static q m args) = CallsHelperIn args
  CallsHelper (Equals q a b) = CallsHelper a ⊎ CallsHelper b
  CallsHelper (Concat q a b) = CallsHelper a ⊎ CallsHelper b
  CallsHelper (Session q c args) = CallsHelperIn args
  CallsHelper _ = ⊥

  pub CallsHelperIn : Exprs → Type 0
  CallsHelperIn NoExpr = ⊥
  CallsHelperIn (Argument e more) = CallsHelper e ⊎ CallsHelperIn more

abbrev pub IsField : Var → Type 0
IsField (vars.Field f) = Unit {0}
IsField (vars.Slot k) = ⊥

-- an expression is an own field
abbrev pub IsOwnField : Expr → Type 0
IsOwnField (Variable q x) = IsField x
IsOwnField _ = ⊥

-- Classes with a typestate, whose objects are made and kept.
pub record HasTypestate (p : Program) (c : ℕ) : Type 0 where
  pub class : Class
  pub at : slice_get p.classes c ≡ Some class
  pub typestate : ℕ
  pub is : class.typestate ≡ Some typestate

module _ (p : Program) (m : Method) where
  -- a slot in scope; or a field of the class, in code that runs on an object
  abbrev pub IsVisible : List ℕ → Var → Type 0
  IsVisible scope (vars.Slot k) = Contains scope k
  IsVisible scope (vars.Field f) = IsInstance m.kind

  pub record IsVariable (scope : List ℕ) (x : Var) (t : CoreType) : Type 0 where
    pub visible : IsVisible scope x
    pub type : variable_type p m x ≡ Some t

  -- a method of this number and kind
  pub record IsCalled (n : ℕ) (kind : MethodKind) (k : Method) : Type 0 where
    pub at : slice_get p.methods n ≡ Some k
    pub kind_is : k.kind ≡ kind

  mutual
    pub data Has (scope : List ℕ) : Expr → CoreType → Type 0 where
      int : {q : Place} {z : ℤ} → Has scope (Int q z) types.Int
      truth : {q : Place} {b : Bool} → Has scope (Truth q b) types.Boolean
      text : {q : Place} {s : List ℕ} → Has scope (Text q s) types.Text
      -- `null` fits each class
      null : {q : Place} {c : ℕ} → Has scope (Null q) (types.Object c)
      variable : {q : Place} {x : Var} {t : CoreType} → IsVariable scope x t → Has scope (Variable q x) t
      constant : {q : Place} {e n : ℕ} {d : Enum} → slice_get p.enums e ≡ Some d → n < length d.constants →
          Has scope (Constant q e n) (types.Enum e)
      negative : {q : Place} {a : Expr} → Has scope a types.Int → Has scope (Neg q a) types.Int
      opposite : {q : Place} {a : Expr} → Has scope a types.Boolean → Has scope (Not q a) types.Boolean
      sum : {q : Place} {a b : Expr} → Has scope a types.Int → Has scope b types.Int → Has scope (Binary q ops.Add a b) types.Int
      -- `+` with a String on one side
      text_and : {q : Place} {a b : Expr} {t : CoreType} → Has scope a types.Text → Has scope b t → IsShown t →
          Has scope (Binary q ops.Add a b) types.Text
      and_text : {q : Place} {a b : Expr} {t : CoreType} → Has scope a t → IsShown t → Has scope b types.Text →
          Has scope (Binary q ops.Add a b) types.Text
      computed : {q : Place} {o : Op} {a b : Expr} → IsArithmetic o → Has scope a types.Int → Has scope b types.Int →
          Has scope (Binary q o a b) types.Int
      ordered : {q : Place} {o : Op} {a b : Expr} → IsOrder o → Has scope a types.Int → Has scope b types.Int →
          Has scope (Binary q o a b) types.Boolean
      logic : {q : Place} {o : Op} {a b : Expr} → IsLogic o → Has scope a types.Boolean → Has scope b types.Boolean →
          Has scope (Binary q o a b) types.Boolean
      same : {q : Place} {o : Op} {a b : Expr} {t : CoreType} → IsEquality o → IsCompared t → Has scope a t → Has scope b t →
          Has scope (Binary q o a b) types.Boolean
      -- a variable of a class and `null`, on either side
      is_null : {q r s : Place} {o : Op} {x : Var} {c : ℕ} → IsEquality o → IsVariable scope x (types.Object c) →
          Has scope (Binary q o (Variable r x) (Null s)) types.Boolean
      null_is : {q r s : Place} {o : Op} {x : Var} {c : ℕ} → IsEquality o → IsVariable scope x (types.Object c) →
          Has scope (Binary q o (Null r) (Variable s x)) types.Boolean
      -- a protocol method of the class of a variable; no helper is called in the arguments of a call on an own field
      protocol : {q : Place} {x : CoreVar} {n : ℕ} {k : Method} {args : Exprs} {t : CoreType} →
          IsVariable scope x.var (types.Object k.class) → IsCalled n kinds.Protocol k →
          HasAll scope args (param_types k) → k.result ≡ t → (IsField x.var → CallsHelperIn args → ⊥) → Has scope (Protocol q x n args) t
      -- a helper of the own class, in code that runs on an object
      helper : {q : Place} {n : ℕ} {k : Method} {args : Exprs} {t : CoreType} → IsInstance m.kind → IsCalled n kinds.Helper k →
          k.class ≡ m.class →
          HasAll scope args (param_types k) → k.result ≡ t → Has scope (Helper q n args) t
      static : {q : Place} {n : ℕ} {k : Method} {args : Exprs} {t : CoreType} → IsCalled n kinds.Static k →
          HasAll scope args (param_types k) → k.result ≡ t → Has scope (Static q n args) t
      equals : {q : Place} {a b : Expr} → Has scope a types.Text → Has scope b types.Text → (IsOwnField a → CallsHelper b → ⊥) →
          Has scope (Equals q a b) types.Boolean
      concat : {q : Place} {a b : Expr} → Has scope a types.Text → Has scope b types.Text → (IsOwnField a → CallsHelper b → ⊥) →
          Has scope (Concat q a b) types.Text
      session : {q : Place} {c : SessionCall} {args : Exprs} {t : CoreType} → HasAll scope args (session_params c) →
          session_result c ≡ t → Has scope (Session q c args) t
      new : {q : Place} {c : ℕ} → HasTypestate p c → Has scope (New q c) (types.Object c)

    -- arguments, one of each type
    pub data HasAll (scope : List ℕ) : Exprs → List CoreType → Type 0 where
      no_args : HasAll scope NoExpr []
      arg : {e : Expr} {more : Exprs} {t : CoreType} {ts : List CoreType} → Has scope e t → HasAll scope more ts →
          HasAll scope (Argument e more) (t ∷ ts)
