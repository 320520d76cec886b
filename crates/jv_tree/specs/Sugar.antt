-- What is written in one way and stands in the tree in another.
use Rattle.std.specs.Prelude.{pos, Option, Some, None, Bool, true, false, ◌&&◌, if◌then◌else◌, codes}
use Rattle.std.specs.Str.{bytes_eq}
use Rattle.jv_tree.specs.declared.tree.Op.{Op}
use Rattle.jv_tree.specs.declared.tree.Op.TheVariants as ops
use Rattle.jv_tree.specs.declared.token.Sign.{Sign}
use Rattle.jv_tree.specs.declared.token.Sign.TheVariants as signs
use Rattle.jv_tree.specs.Source.{Expr, Int, Variable, Member, Binary, Call, MethodCall, New, Exprs, NoExpr, Argument, place_of}
use Rattle.jv_tree.specs.Source.{Stmt, If, IfElse, While}
use Rattle.jv_tree.specs.Source.{Stmts, NoStmt, Then, Groups, NoGroup, Group}

-- the operator of `t op= e`
abbrev pub compound : Sign → Option Op
compound signs.PlusAssign = Some ops.Add
compound signs.MinusAssign = Some ops.Sub
compound signs.StarAssign = Some ops.Mul
compound signs.SlashAssign = Some ops.Div
compound signs.PercentAssign = Some ops.Rem
compound _ = None

-- the operator of `t++`, `++t`, `t--` and `--t`
abbrev pub counter : Sign → Option Op
counter signs.PlusPlus = Some ops.Add
counter signs.MinusMinus = Some ops.Sub
counter _ = None

-- The value that a target gets by `t op= e`. What is added stands where the target stands.
abbrev pub changed : Op → Expr → Expr → Expr
changed o target e = Binary (place_of target) o target e

-- the one that `++` and `--` add or take
abbrev pub one_at : Expr → Expr
one_at target = Int (place_of target) (pos 1)

-- `System.out`
abbrev pub is_out : Expr → Bool
is_out (Member p (Variable q n) m) = bytes_eq n (codes "System") && bytes_eq m (codes "out")
is_out _ = false

abbrev pub only_argument : Exprs → Option Expr
only_argument (Argument e NoExpr) = Some e
only_argument _ = None

-- What is printed by a statement of this expression: it is `System.out.println(e)`, with parentheses or without.
abbrev pub printed : Expr → Option Expr
printed (MethodCall p e n args) = if is_out e && bytes_eq n (codes "println") then only_argument args else None
printed _ = None

-- a call or `new`
abbrev pub is_call : Expr → Bool
is_call (Call p n args) = true
is_call (MethodCall p e n args) = true
is_call (New p n) = true
is_call _ = false

-- Whether an `else` behind this statement belongs to an `if` that ends it: an `else` belongs to the nearest `if`.
abbrev pub takes_else : Stmt → Bool
takes_else (If p c s) = true
takes_else (IfElse p c s r) = takes_else r
takes_else (While p l c s) = takes_else s
takes_else _ = false

-- Whether these statements and the labels of the groups after them are one group: a `case` directly after another one belongs to its group.
abbrev pub is_one_group : Stmts → Groups → Bool
is_one_group NoStmt (Group labels body end more) = true
is_one_group NoStmt NoGroup = false
is_one_group (Then s more) groups = false
