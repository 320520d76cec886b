-- How large the frame of a method is: the greatest depth of operands that its templates reach, and the number of its locals.
use Rattle.std.specs.Prelude.{ℕ, suc, max, Option, Some, None}
use Rattle.jv_tree.specs.declared.tree.Op.{Op}
use Rattle.jv_tree.specs.declared.tree.Op.TheVariants as ops
use Rattle.jv_core.specs.declared.tree.Var.{Var}
use Rattle.jv_core.specs.declared.tree.Var.TheVariants as vars
use Rattle.jv_core.specs.declared.program.CoreType.{CoreType}
use Rattle.jv_core.specs.declared.program.CoreType.TheVariants as types
use Rattle.jv_core.specs.Tree.{Expr, Truth, Neg, Not, Binary, Protocol, Helper, Static, Equals, Concat, Session, New}
use Rattle.jv_core.specs.Tree.{Exprs, NoExpr, Argument}
use Rattle.jv_core.specs.Tree.{Stmt, Block, Empty, Local, Assign, If, IfElse, While, Do, Switch, Break, Continue, Return, Print, Eval}
use Rattle.jv_core.specs.Tree.{Stmts, NoStmt, Then, Declare, Groups, NoGroup, Group, Method, Program}
use Rattle.gen_rules.specs.Typed.{type_of}
use Rattle.gen_rules.specs.Locals.{next_local, params_in_scope}
use Rattle.gen_rules.specs.Templates.{Compared, Both, LeftAlone, RightAlone, compared}

-- the greatest depths of the three forms of an expression; it jumps alike in J and in T
pub record Depths : Type 0 where
  pub value : ℕ
  pub jump : ℕ

-- J and T are V and a test
abbrev pub depths_by_value : ℕ → Depths
depths_by_value value = record { value = value; jump = value }

-- V is J, and then 1 or 0
abbrev pub depths_by_jumps : ℕ → Depths
depths_by_jumps jump = record { value = max jump 1; jump = jump }

-- the second stands on the value of the first
abbrev pub two_depths : (left right : Depths) → ℕ
two_depths a b = max a.value (suc b.value)

abbrev pub comparison_depths : Compared → (left right : Depths) → Depths
comparison_depths Both a b = depths_by_jumps (two_depths a b)
comparison_depths LeftAlone a b = depths_by_jumps a.value
comparison_depths RightAlone a b = depths_by_jumps b.value

abbrev pub binary_depths : Op → Compared → (left right : Depths) → Depths
binary_depths ops.Or c a b = depths_by_jumps (max a.jump b.jump)
binary_depths ops.And c a b = depths_by_jumps (max a.jump b.jump)
binary_depths ops.Add c a b = depths_by_value (two_depths a b)
binary_depths ops.Sub c a b = depths_by_value (two_depths a b)
binary_depths ops.Mul c a b = depths_by_value (two_depths a b)
binary_depths ops.Div c a b = depths_by_value (two_depths a b)
binary_depths ops.Rem c a b = depths_by_value (two_depths a b)
binary_depths o c a b = comparison_depths c a b

-- what a call leaves on the stack
abbrev pub left_by : Option CoreType → ℕ
left_by (Some types.Void) = 0
left_by _ = 1

module _ (p : Program) (m : Method) where
  abbrev mutual
    pub depths : Expr → Depths
    depths (Truth q b) = record { value = 1; jump = 0 }
    depths (Neg q a) = depths_by_value (depths a).value
    depths (Not q a) = depths_by_jumps (depths a).jump
    depths (Binary q o a b) = binary_depths o (compared a b) (depths a) (depths b)
    -- the arguments stand on the object
    depths (Protocol q x n args) = depths_by_value (suc (depth_of_arguments args))
    depths (Helper q n args) = depths_by_value (suc (depth_of_arguments args))
    depths (Static q n args) = depths_by_value (max (depth_of_arguments args) (left_by (type_of p m (Static q n args))))
    depths (Equals q a b) = depths_by_value (two_depths (depths a) (depths b))
    depths (Concat q a b) = depths_by_value (two_depths (depths a) (depths b))
    depths (Session q c args) = depths_by_value (max (depth_of_arguments args) (left_by (type_of p m (Session q c args))))
    -- the object, and once more for its constructor
    depths (New q c) = depths_by_value 2
    depths _ = depths_by_value 1

    -- each stands on the values of those before
    pub depth_of_arguments : Exprs → ℕ
    depth_of_arguments NoExpr = 0
    depth_of_arguments (Argument e more) = max (depths e).value (suc (depth_of_arguments more))

  -- the object whose field is assigned stands below the value
  abbrev pub depth_of_assignment : Var → ℕ → ℕ
  depth_of_assignment (vars.Slot k) value = value
  depth_of_assignment (vars.Field f) value = suc value

  abbrev mutual
    pub depth_of : Stmt → ℕ
    depth_of (Block q body end) = depth_of_all body
    depth_of (Empty q) = 0
    depth_of (Local q k e) = (depths e).value
    depth_of (Assign q x e) = depth_of_assignment x.var (depths e).value
    depth_of (If q c s) = max (depths c).jump (depth_of s)
    depth_of (IfElse q c s r) = max (depths c).jump (max (depth_of s) (depth_of r))
    depth_of (While q n c s) = max (depths c).jump (depth_of s)
    depth_of (Do q n s c) = max (depth_of s) (depths c).jump
    depth_of (Switch q e groups end) = max (depths e).value (depth_of_groups groups)
    depth_of (Break q n) = 0
    depth_of (Continue q n) = 0
    depth_of (Return q None) = 0
    depth_of (Return q (Some e)) = (depths e).value
    -- the print stream stands below the value
    depth_of (Print q e) = suc (depths e).value
    depth_of (Eval q e) = (depths e).value

    pub depth_of_all : Stmts → ℕ
    depth_of_all NoStmt = 0
    depth_of_all (Then s more) = max (depth_of s) (depth_of_all more)
    depth_of_all (Declare q k e more) = max (depths e).value (depth_of_all more)

    pub depth_of_groups : Groups → ℕ
    depth_of_groups NoGroup = 0
    depth_of_groups (Group labels body end more) = max (depth_of_all body) (depth_of_groups more)

  abbrev pub depth_of_end : CoreType → ℕ
  depth_of_end types.Void = 0
  depth_of_end _ = 1

  abbrev pub max_stack : ℕ
  max_stack = max (depth_of_all m.body) (depth_of_end m.result)

-- Locals: how many there are at most, where so many are taken at the beginning.

abbrev mutual
  pub locals_of : (taken : ℕ) → Stmt → ℕ
  locals_of n (Block q body end) = locals_of_all n body
  locals_of n (Local q k e) = suc n
  locals_of n (If q c s) = locals_of n s
  locals_of n (IfElse q c s r) = max (locals_of n s) (locals_of n r)
  locals_of n (While q l c s) = locals_of n s
  locals_of n (Do q l s c) = locals_of n s
  locals_of n (Switch q e groups end) = locals_of_groups n groups
  locals_of n _ = n

  pub locals_of_all : (taken : ℕ) → Stmts → ℕ
  locals_of_all n NoStmt = n
  locals_of_all n (Then s more) = max (locals_of n s) (locals_of_all n more)
  locals_of_all n (Declare q k e more) = locals_of_all (suc n) more

  pub locals_of_groups : (taken : ℕ) → Groups → ℕ
  locals_of_groups n NoGroup = n
  locals_of_groups n (Group labels body end more) = max (locals_of_all n body) (locals_of_groups n more)

-- the object or the array of `main`, the parameters, and the locals that are in scope at once
abbrev pub max_locals : Method → ℕ
max_locals m = locals_of_all (next_local m.kind (params_in_scope m)) m.body
