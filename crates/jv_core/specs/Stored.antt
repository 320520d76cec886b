-- How the logic stores a program: a statement or an expression is a tree, each node of which has a label and up to three parts.
use Rattle.std.specs.Prelude.{◌≡◌, ℕ, ℤ, List, Bool, Option, Some, None, refl}
use Rattle.std.proofs.Common.{ap, ap₂, sym, subst}
use Rattle.std.specs.Coded.{Coded, code_by, codes}
use base.Stored.{Gv, gnil, gnum, gcons}
use Rattle.mg_text.specs.declared.place.Place.{Place}
use Rattle.jv_tree.specs.declared.tree.Op.{Op}
use Rattle.jv_core.specs.declared.tree.Var.{Var}
use Rattle.jv_core.specs.declared.tree.CoreVar.{CoreVar}
use Rattle.jv_tree.specs.declared.built_in.SessionCall.{SessionCall}
use Rattle.jv_core.specs.Tree as tree

-- what a node is, with what is neither an expression nor a statement
data Label : Type 0 where
  Int : Place → ℤ → Label
  Truth : Place → Bool → Label
  Text : Place → List ℕ → Label
  Null : Place → Label
  Variable : Place → Var → Label
  Constant : Place → ℕ → ℕ → Label
  Neg : Place → Label
  Not : Place → Label
  Binary : Place → Op → Label
  Protocol : Place → CoreVar → ℕ → Label
  Helper : Place → ℕ → Label
  Static : Place → ℕ → Label
  Equals : Place → Label
  Concat : Place → Label
  Session : Place → SessionCall → Label
  New : Place → ℕ → Label
  Argument : Label
  Block : Place → Place → Label
  Empty : Place → Label
  Local : Place → ℕ → Label
  Assign : Place → CoreVar → Label
  If : Place → Label
  IfElse : Place → Label
  While : Place → ℕ → Label
  Do : Place → ℕ → Label
  Switch : Place → Place → Label
  Break : Place → Option ℕ → Label
  Continue : Place → ℕ → Label
  Leave : Place → Label
  Return : Place → Label
  Print : Place → Label
  Eval : Place → Label
  Then : Label
  Declare : Place → ℕ → Label
  Group : List (Option ℕ) → Place → Label

data Shape : Type 0 where
  Tip : Shape
  Node : Label → (first second third : Shape) → Shape

label_code : Coded Label
label_code = hlevel codes

-- ---- a shape is stored as a tree of numbers

stored : Shape → Gv
stored Tip = gnil
stored (Node l a b c) = gcons (label_code.code l) (gcons (stored a) (gcons (stored b) (stored c)))

abbrev head : Gv → Gv
head gnil = gnil
head (gnum n) = gnil
head (gcons a b) = a

abbrev tail : Gv → Gv
tail gnil = gnil
tail (gnum n) = gnil
tail (gcons a b) = b

abbrev IsNode : Gv → Type 0
IsNode gnil = ⊥
IsNode (gnum n) = ⊥
IsNode (gcons a b) = Unit {0}

stored_once : (x y : Shape) → stored x ≡ stored y → x ≡ y
unfolding stored
stored_once Tip Tip e = refl
stored_once Tip (Node l a b c) e = absurd (subst IsNode (sym e) tt)
stored_once (Node l a b c) Tip e = absurd (subst IsNode e tt)
stored_once (Node l a b c) (Node m x y z) e = λ i. Node (label_code.inj l m (ap head e) i) (stored_once a x (ap (λ g. head (tail g)) e) i)
    (stored_once b y (ap (λ g. head (tail (tail g))) e) i) (stored_once c z (ap (λ g. tail (tail (tail g))) e) i)

abbrev shape_code : Coded Shape
shape_code = record { code = stored; inj = stored_once }

-- ---- the shape of an expression and of a statement

abbrev mutual
  expr_shape : tree.Expr → Shape
  expr_shape (tree.Int p z) = Node (Int p z) Tip Tip Tip
  expr_shape (tree.Truth p b) = Node (Truth p b) Tip Tip Tip
  expr_shape (tree.Text p t) = Node (Text p t) Tip Tip Tip
  expr_shape (tree.Null p) = Node (Null p) Tip Tip Tip
  expr_shape (tree.Variable p x) = Node (Variable p x) Tip Tip Tip
  expr_shape (tree.Constant p k n) = Node (Constant p k n) Tip Tip Tip
  expr_shape (tree.Neg p e) = Node (Neg p) (expr_shape e) Tip Tip
  expr_shape (tree.Not p e) = Node (Not p) (expr_shape e) Tip Tip
  expr_shape (tree.Binary p o l r) = Node (Binary p o) (expr_shape l) (expr_shape r) Tip
  expr_shape (tree.Protocol p x m args) = Node (Protocol p x m) (exprs_shape args) Tip Tip
  expr_shape (tree.Helper p m args) = Node (Helper p m) (exprs_shape args) Tip Tip
  expr_shape (tree.Static p m args) = Node (Static p m) (exprs_shape args) Tip Tip
  expr_shape (tree.Equals p l r) = Node (Equals p) (expr_shape l) (expr_shape r) Tip
  expr_shape (tree.Concat p l r) = Node (Concat p) (expr_shape l) (expr_shape r) Tip
  expr_shape (tree.Session p c args) = Node (Session p c) (exprs_shape args) Tip Tip
  expr_shape (tree.New p c) = Node (New p c) Tip Tip Tip

  exprs_shape : tree.Exprs → Shape
  exprs_shape tree.NoExpr = Tip
  exprs_shape (tree.Argument e more) = Node Argument (expr_shape e) (exprs_shape more) Tip

abbrev mutual
  stmt_shape : tree.Stmt → Shape
  stmt_shape (tree.Block p body end) = Node (Block p end) (stmts_shape body) Tip Tip
  stmt_shape (tree.Empty p) = Node (Empty p) Tip Tip Tip
  stmt_shape (tree.Local p k e) = Node (Local p k) (expr_shape e) Tip Tip
  stmt_shape (tree.Assign p x e) = Node (Assign p x) (expr_shape e) Tip Tip
  stmt_shape (tree.If p e s) = Node (If p) (expr_shape e) (stmt_shape s) Tip
  stmt_shape (tree.IfElse p e s r) = Node (IfElse p) (expr_shape e) (stmt_shape s) (stmt_shape r)
  stmt_shape (tree.While p l e s) = Node (While p l) (expr_shape e) (stmt_shape s) Tip
  stmt_shape (tree.Do p l s e) = Node (Do p l) (stmt_shape s) (expr_shape e) Tip
  stmt_shape (tree.Switch p e gs end) = Node (Switch p end) (expr_shape e) (groups_shape gs) Tip
  stmt_shape (tree.Break p l) = Node (Break p l) Tip Tip Tip
  stmt_shape (tree.Continue p l) = Node (Continue p l) Tip Tip Tip
  stmt_shape (tree.Return p None) = Node (Leave p) Tip Tip Tip
  stmt_shape (tree.Return p (Some e)) = Node (Return p) (expr_shape e) Tip Tip
  stmt_shape (tree.Print p e) = Node (Print p) (expr_shape e) Tip Tip
  stmt_shape (tree.Eval p e) = Node (Eval p) (expr_shape e) Tip Tip

  stmts_shape : tree.Stmts → Shape
  stmts_shape tree.NoStmt = Tip
  stmts_shape (tree.Then s more) = Node Then (stmt_shape s) (stmts_shape more) Tip
  stmts_shape (tree.Declare p k e more) = Node (Declare p k) (expr_shape e) (stmts_shape more) Tip

  groups_shape : tree.Groups → Shape
  groups_shape tree.NoGroup = Tip
  groups_shape (tree.Group labels body end more) = Node (Group labels end) (stmts_shape body) (groups_shape more) Tip

-- ---- and back: what a shape says as an expression, as arguments, and so on

record Said : Type 0 where
  expr : tree.Expr
  exprs : tree.Exprs
  stmt : tree.Stmt
  stmts : tree.Stmts
  groups : tree.Groups

abbrev nowhere : Place
nowhere = record { file = 0; line = 0; column = 0 }

abbrev nothing : Said
nothing = record { expr = tree.Null nowhere; exprs = tree.NoExpr; stmt = tree.Empty nowhere; stmts = tree.NoStmt; groups = tree.NoGroup }

abbrev an_expr : tree.Expr → Said
an_expr e = record nothing { expr = e }

abbrev a_stmt : tree.Stmt → Said
a_stmt s = record nothing { stmt = s }

abbrev said : Shape → Said
said Tip = nothing
said (Node (Int p z) a b c) = an_expr (tree.Int p z)
said (Node (Truth p x) a b c) = an_expr (tree.Truth p x)
said (Node (Text p t) a b c) = an_expr (tree.Text p t)
said (Node (Null p) a b c) = an_expr (tree.Null p)
said (Node (Variable p x) a b c) = an_expr (tree.Variable p x)
said (Node (Constant p k n) a b c) = an_expr (tree.Constant p k n)
said (Node (Neg p) a b c) = an_expr (tree.Neg p (said a).expr)
said (Node (Not p) a b c) = an_expr (tree.Not p (said a).expr)
said (Node (Binary p o) a b c) = an_expr (tree.Binary p o (said a).expr (said b).expr)
said (Node (Protocol p x m) a b c) = an_expr (tree.Protocol p x m (said a).exprs)
said (Node (Helper p m) a b c) = an_expr (tree.Helper p m (said a).exprs)
said (Node (Static p m) a b c) = an_expr (tree.Static p m (said a).exprs)
said (Node (Equals p) a b c) = an_expr (tree.Equals p (said a).expr (said b).expr)
said (Node (Concat p) a b c) = an_expr (tree.Concat p (said a).expr (said b).expr)
said (Node (Session p k) a b c) = an_expr (tree.Session p k (said a).exprs)
said (Node (New p k) a b c) = an_expr (tree.New p k)
said (Node Argument a b c) = record nothing { exprs = tree.Argument (said a).expr (said b).exprs }
said (Node (Block p end) a b c) = a_stmt (tree.Block p (said a).stmts end)
said (Node (Empty p) a b c) = a_stmt (tree.Empty p)
said (Node (Local p k) a b c) = a_stmt (tree.Local p k (said a).expr)
said (Node (Assign p x) a b c) = a_stmt (tree.Assign p x (said a).expr)
said (Node (If p) a b c) = a_stmt (tree.If p (said a).expr (said b).stmt)
said (Node (IfElse p) a b c) = a_stmt (tree.IfElse p (said a).expr (said b).stmt (said c).stmt)
said (Node (While p l) a b c) = a_stmt (tree.While p l (said a).expr (said b).stmt)
said (Node (Do p l) a b c) = a_stmt (tree.Do p l (said a).stmt (said b).expr)
said (Node (Switch p end) a b c) = a_stmt (tree.Switch p (said a).expr (said b).groups end)
said (Node (Break p l) a b c) = a_stmt (tree.Break p l)
said (Node (Continue p l) a b c) = a_stmt (tree.Continue p l)
said (Node (Leave p) a b c) = a_stmt (tree.Return p None)
said (Node (Return p) a b c) = a_stmt (tree.Return p (Some (said a).expr))
said (Node (Print p) a b c) = a_stmt (tree.Print p (said a).expr)
said (Node (Eval p) a b c) = a_stmt (tree.Eval p (said a).expr)
said (Node Then a b c) = record nothing { stmts = tree.Then (said a).stmt (said b).stmts }
said (Node (Declare p k) a b c) = record nothing { stmts = tree.Declare p k (said a).expr (said b).stmts }
said (Node (Group labels end) a b c) = record nothing { groups = tree.Group labels (said a).stmts end (said b).groups }

mutual
  expr_said : (e : tree.Expr) → (said (expr_shape e)).expr ≡ e
  expr_said (tree.Int p z) = refl
  expr_said (tree.Truth p b) = refl
  expr_said (tree.Text p t) = refl
  expr_said (tree.Null p) = refl
  expr_said (tree.Variable p x) = refl
  expr_said (tree.Constant p k n) = refl
  expr_said (tree.Neg p e) = ap (tree.Neg p) (expr_said e)
  expr_said (tree.Not p e) = ap (tree.Not p) (expr_said e)
  expr_said (tree.Binary p o l r) = ap₂ (tree.Binary p o) (expr_said l) (expr_said r)
  expr_said (tree.Protocol p x m args) = ap (tree.Protocol p x m) (exprs_said args)
  expr_said (tree.Helper p m args) = ap (tree.Helper p m) (exprs_said args)
  expr_said (tree.Static p m args) = ap (tree.Static p m) (exprs_said args)
  expr_said (tree.Equals p l r) = ap₂ (tree.Equals p) (expr_said l) (expr_said r)
  expr_said (tree.Concat p l r) = ap₂ (tree.Concat p) (expr_said l) (expr_said r)
  expr_said (tree.Session p c args) = ap (tree.Session p c) (exprs_said args)
  expr_said (tree.New p c) = refl

  exprs_said : (es : tree.Exprs) → (said (exprs_shape es)).exprs ≡ es
  exprs_said tree.NoExpr = refl
  exprs_said (tree.Argument e more) = ap₂ tree.Argument (expr_said e) (exprs_said more)

mutual
  stmt_said : (s : tree.Stmt) → (said (stmt_shape s)).stmt ≡ s
  stmt_said (tree.Block p body end) = ap (λ ss. tree.Block p ss end) (stmts_said body)
  stmt_said (tree.Empty p) = refl
  stmt_said (tree.Local p k e) = ap (tree.Local p k) (expr_said e)
  stmt_said (tree.Assign p x e) = ap (tree.Assign p x) (expr_said e)
  stmt_said (tree.If p e s) = ap₂ (tree.If p) (expr_said e) (stmt_said s)
  stmt_said (tree.IfElse p e s r) = λ i. tree.IfElse p (expr_said e i) (stmt_said s i) (stmt_said r i)
  stmt_said (tree.While p l e s) = ap₂ (tree.While p l) (expr_said e) (stmt_said s)
  stmt_said (tree.Do p l s e) = ap₂ (tree.Do p l) (stmt_said s) (expr_said e)
  stmt_said (tree.Switch p e gs end) = ap₂ (λ x ys. tree.Switch p x ys end) (expr_said e) (groups_said gs)
  stmt_said (tree.Break p l) = refl
  stmt_said (tree.Continue p l) = refl
  stmt_said (tree.Return p None) = refl
  stmt_said (tree.Return p (Some e)) = ap (λ x. tree.Return p (Some x)) (expr_said e)
  stmt_said (tree.Print p e) = ap (tree.Print p) (expr_said e)
  stmt_said (tree.Eval p e) = ap (tree.Eval p) (expr_said e)

  stmts_said : (ss : tree.Stmts) → (said (stmts_shape ss)).stmts ≡ ss
  stmts_said tree.NoStmt = refl
  stmts_said (tree.Then s more) = ap₂ tree.Then (stmt_said s) (stmts_said more)
  stmts_said (tree.Declare p k e more) = ap₂ (tree.Declare p k) (expr_said e) (stmts_said more)

  groups_said : (gs : tree.Groups) → (said (groups_shape gs)).groups ≡ gs
  groups_said tree.NoGroup = refl
  groups_said (tree.Group labels body end more) = ap₂ (λ ss gs. tree.Group labels ss end gs) (stmts_said body) (groups_said more)

-- ---- the code of a program

expr_code : Coded tree.Expr
expr_code = code_by Shape shape_code expr_shape (λ s. (said s).expr) expr_said

stmts_code : Coded tree.Stmts
stmts_code = code_by Shape shape_code stmts_shape (λ s. (said s).stmts) stmts_said

pub program_code : Coded tree.Program
program_code = hlevel (codes, expr_code, stmts_code)
