-- The constructs of which the laws speak: all, where methods call none but these.
use Rattle.std.specs.Prelude.{ℕ, List, Some, None, Contains}
use Rattle.jv_core.specs.Tree.{Expr, Int, Truth, Text, Null, Variable, Constant, Neg, Not, Binary, Equals, Concat, Session, Protocol}
use Rattle.jv_core.specs.Tree.{Helper, Static, New}
use Rattle.jv_core.specs.Tree.{Exprs, NoExpr, Argument}
use Rattle.jv_core.specs.Tree.{Stmt, Block, Empty, Local, Assign, If, IfElse, While, Do, Switch, Break, Continue, Return, Print, Eval}
use Rattle.jv_core.specs.Tree.{Stmts, NoStmt, Then, Declare, Groups, NoGroup, Group}

-- where these methods of the program may be called
module _ (may : List ℕ) where
  abbrev mutual
    -- constants, locals and own fields under operators, `equals` and `concat`, calls of `Session`, new objects, and calls of these methods
    pub IsPlain : Expr → Type 0
    IsPlain (Int q z) = Unit {0}
    IsPlain (Truth q b) = Unit {0}
    IsPlain (Text q t) = Unit {0}
    IsPlain (Null q) = Unit {0}
    IsPlain (Variable q x) = Unit {0}
    IsPlain (Constant q e k) = Unit {0}
    IsPlain (Neg q a) = IsPlain a
    IsPlain (Not q a) = IsPlain a
    IsPlain (Binary q o a b) = IsPlain a × IsPlain b
    IsPlain (Equals q a b) = IsPlain a × IsPlain b
    IsPlain (Concat q a b) = IsPlain a × IsPlain b
    IsPlain (Protocol q x n args) = Contains may n × ArePlainArgs args
    IsPlain (Helper q n args) = Contains may n × ArePlainArgs args
    IsPlain (Static q n args) = Contains may n × ArePlainArgs args
    IsPlain (Session q c args) = ArePlainArgs args
    IsPlain (New q c) = Unit {0}

    pub ArePlainArgs : Exprs → Type 0
    ArePlainArgs NoExpr = Unit {0}
    ArePlainArgs (Argument e more) = IsPlain e × ArePlainArgs more

  -- all statements over such expressions
  abbrev mutual
    pub IsPlainStmt : Stmt → Type 0
    IsPlainStmt (Block q body end) = ArePlain body
    IsPlainStmt (Empty q) = Unit {0}
    IsPlainStmt (Local q k e) = IsPlain e
    IsPlainStmt (Assign q x e) = IsPlain e
    IsPlainStmt (If q c s) = IsPlain c × IsPlainStmt s
    IsPlainStmt (IfElse q c s r) = IsPlain c × IsPlainStmt s × IsPlainStmt r
    IsPlainStmt (While q l c s) = IsPlain c × IsPlainStmt s
    IsPlainStmt (Do q l s c) = IsPlain c × IsPlainStmt s
    IsPlainStmt (Switch q e gs end) = IsPlain e × ArePlainGroups gs
    IsPlainStmt (Break q l) = Unit {0}
    IsPlainStmt (Continue q l) = Unit {0}
    IsPlainStmt (Return q None) = Unit {0}
    IsPlainStmt (Return q (Some e)) = IsPlain e
    IsPlainStmt (Print q e) = IsPlain e
    IsPlainStmt (Eval q e) = IsPlain e

    pub ArePlain : Stmts → Type 0
    ArePlain NoStmt = Unit {0}
    ArePlain (Then s more) = IsPlainStmt s × ArePlain more
    ArePlain (Declare q k e more) = IsPlain e × ArePlain more

    pub ArePlainGroups : Groups → Type 0
    ArePlainGroups NoGroup = Unit {0}
    ArePlainGroups (Group labels body end more) = ArePlain body × ArePlainGroups more
