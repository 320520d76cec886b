-- Statements of expressions, as the program makes them.
use Rattle.std.specs.Prelude.{ℕ, Option, Some, None, Bool, true, false, leb, if◌then◌else◌}
use Rattle.std.specs.Str.{bytes_eq}
use Rattle.mg_text.specs.Call.{Name}
use Rattle.mg_text.specs.declared.place.Place.{Place}
use Rattle.jv_tree.specs.Source.{Expr, Variable, Member, Neg, Not, Binary, Call, MethodCall, Exprs, NoExpr, Argument, Stmt, Print, Eval}
use Rattle.jv_tree.specs.Depth.{depth}

-- a name, and this one
abbrev pub is_variable : Name → Expr → Bool
is_variable name (Variable p n) = bytes_eq n name
is_variable name _ = false

abbrev pub is_none : Exprs → Bool
is_none NoExpr = true
is_none (Argument e more) = false

-- whether an expression holds no other one
abbrev pub is_leaf : Expr → Bool
is_leaf (Call p n args) = is_none args
is_leaf (Member p e n) = false
is_leaf (Neg p e) = false
is_leaf (Not p e) = false
is_leaf (Binary p o l r) = false
is_leaf (MethodCall p e n args) = false
is_leaf _ = true

abbrev pub eval_if : ℕ → Place → Expr → Option Stmt
eval_if d p c = if leb (depth c) d then Some (Eval p c) else None

abbrev pub print_if : ℕ → Place → Expr → Option Stmt
print_if d p e = if leb (depth e) d then Some (Print p e) else None
