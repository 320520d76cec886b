-- The type of an expression of a core, by its form alone. `null` has none of its own.
use Rattle.std.specs.Prelude.{Bool, true, false, Option, Some, None, ◌||◌}
use Rattle.jv_tree.specs.declared.tree.Op.{Op}
use Rattle.jv_tree.specs.declared.tree.Op.TheVariants as ops
use Rattle.jv_core.specs.declared.program.CoreType.{CoreType}
use Rattle.jv_core.specs.declared.program.CoreType.TheVariants as types
use Rattle.jv_core.specs.Tree.{Expr, Int, Truth, Text, Null, Variable, Constant, Neg}
use Rattle.jv_core.specs.Tree.{Not, Binary, Protocol, Helper, Static, Equals, Concat, Session, New}
use Rattle.jv_core.specs.Tree.{Method, Program}
use Rattle.jv_core.specs.Lookup.{variable_type}
use Rattle.jv_core.specs.Types.{session_result}
use Rattle.jv_core.specs.Meaning.{result_of}

abbrev pub is_text : Option CoreType → Bool
is_text (Some types.Text) = true
is_text _ = false

-- `+` joins where one side is a String, and adds where none is
abbrev pub joins : Op → (left right : Option CoreType) → Bool
joins ops.Add a b = is_text a || is_text b
joins _ a b = false

abbrev pub operator_type : Op → (joins : Bool) → CoreType
operator_type ops.Add true = types.Text
operator_type ops.Add false = types.Int
operator_type ops.Sub joined = types.Int
operator_type ops.Mul joined = types.Int
operator_type ops.Div joined = types.Int
operator_type ops.Rem joined = types.Int
operator_type _ joined = types.Boolean

module _ (p : Program) (m : Method) where
  abbrev pub type_of : Expr → Option CoreType
  type_of (Int q z) = Some types.Int
  type_of (Truth q b) = Some types.Boolean
  type_of (Text q s) = Some types.Text
  type_of (Null q) = None
  type_of (Variable q x) = variable_type p m x
  type_of (Constant q e n) = Some (types.Enum e)
  type_of (Neg q a) = Some types.Int
  type_of (Not q a) = Some types.Boolean
  type_of (Binary q o a b) = Some (operator_type o (joins o (type_of a) (type_of b)))
  type_of (Protocol q x n args) = result_of p n
  type_of (Helper q n args) = result_of p n
  type_of (Static q n args) = result_of p n
  type_of (Equals q a b) = Some types.Boolean
  type_of (Concat q a b) = Some types.Text
  type_of (Session q c args) = Some (session_result c)
  type_of (New q c) = Some (types.Object c)
