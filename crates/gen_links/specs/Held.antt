-- Which numbers and texts of a program a class file can hold: its ints are of 32 bits, and its texts and names are UTF-8.
use Rattle.std.specs.Prelude.{◌<◌, ◌^◌, Option, Some, None}
use Rattle.std.specs.List.{AllByRecursion}
use Rattle.std.specs.Str.{IsUtf8}
use Rattle.std.specs.Int.RustNames.{FitsSigned}
use mir.Syntax.{w32}
use Rattle.jv_core.specs.Tree.{Expr, Int, Text, Constant, Neg}
use Rattle.jv_core.specs.Tree.{Not, Binary, Protocol, Helper, Static, Equals, Concat, Session}
use Rattle.jv_core.specs.Tree.{Exprs, NoExpr, Argument}
use Rattle.jv_core.specs.Tree.{Stmt, Block, Local, Assign, If, IfElse, While, Do, Switch, Return, Print, Eval}
use Rattle.jv_core.specs.Tree.{Stmts, NoStmt, Then, Declare, Groups, NoGroup, Group, Program}

abbrev mutual
  -- each number, each text and each position of a constant that stands in an expression
  pub HoldsExpr : Expr → Type 0
  HoldsExpr (Int q z) = FitsSigned w32 z
  HoldsExpr (Text q s) = IsUtf8 s
  HoldsExpr (Constant q e n) = n < 2 ^ 31
  HoldsExpr (Neg q a) = HoldsExpr a
  HoldsExpr (Not q a) = HoldsExpr a
  HoldsExpr (Binary q o a b) = HoldsExpr a × HoldsExpr b
  HoldsExpr (Protocol q x n args) = HoldsExprs args
  HoldsExpr (Helper q n args) = HoldsExprs args
  HoldsExpr (Static q n args) = HoldsExprs args
  HoldsExpr (Equals q a b) = HoldsExpr a × HoldsExpr b
  HoldsExpr (Concat q a b) = HoldsExpr a × HoldsExpr b
  HoldsExpr (Session q c args) = HoldsExprs args
  HoldsExpr _ = Unit {0}

  pub HoldsExprs : Exprs → Type 0
  HoldsExprs NoExpr = Unit {0}
  HoldsExprs (Argument e more) = HoldsExpr e × HoldsExprs more

abbrev pub HoldsValue : Option Expr → Type 0
HoldsValue None = Unit {0}
HoldsValue (Some e) = HoldsExpr e

abbrev mutual
  pub HoldsStmt : Stmt → Type 0
  HoldsStmt (Block q body end) = HoldsStmts body
  HoldsStmt (Local q k e) = HoldsExpr e
  HoldsStmt (Assign q x e) = HoldsExpr e
  HoldsStmt (If q c s) = HoldsExpr c × HoldsStmt s
  HoldsStmt (IfElse q c s r) = HoldsExpr c × HoldsStmt s × HoldsStmt r
  HoldsStmt (While q n c s) = HoldsExpr c × HoldsStmt s
  HoldsStmt (Do q n s c) = HoldsStmt s × HoldsExpr c
  HoldsStmt (Switch q e groups end) = HoldsExpr e × HoldsGroups groups
  HoldsStmt (Return q value) = HoldsValue value
  HoldsStmt (Print q e) = HoldsExpr e
  HoldsStmt (Eval q e) = HoldsExpr e
  HoldsStmt _ = Unit {0}

  pub HoldsStmts : Stmts → Type 0
  HoldsStmts NoStmt = Unit {0}
  HoldsStmts (Then s more) = HoldsStmt s × HoldsStmts more
  HoldsStmts (Declare q k e more) = HoldsExpr e × HoldsStmts more

  pub HoldsGroups : Groups → Type 0
  HoldsGroups NoGroup = Unit {0}
  HoldsGroups (Group labels body end more) = HoldsStmts body × HoldsGroups more

pub record IsHeld (p : Program) : Type 0 where
  pub names : AllByRecursion IsUtf8 p.names
  pub fields : AllByRecursion (λ k. AllByRecursion (λ f. HoldsValue f.value) k.fields) p.classes
  pub methods : AllByRecursion (λ m. HoldsStmts m.body) p.methods
