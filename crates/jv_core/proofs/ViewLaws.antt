-- What each expression and statement of a core says.
use Rattle.std.proofs.Common.{◌≡◌, ℕ, List, Bool, Option, Some, None, sym, ap, ◌∙◌}
use Rattle.std.specs.Prelude.{ℤ, map, option_map}
use Rattle.std.specs.declared.boxed.Box.{Box}
use Rattle.std.specs.declared.alloc.Global.{Global}
use Rattle.mg_text.specs.Row.{Row}
use Rattle.mg_text.specs.declared.place.Place.{Place}
use Rattle.jv_tree.specs.declared.tree.Op.{Op}
use Rattle.jv_core.specs.declared.tree.Var.{Var}
use Rattle.jv_core.specs.declared.tree.CoreVar.{CoreVar}
use Rattle.jv_tree.specs.declared.built_in.SessionCall.{SessionCall}
use Rattle.jv_core.specs.declared.tree.CoreExpr.{CoreExpr, fold_out-CoreExpr}
use Rattle.jv_core.specs.declared.tree.CoreExprKind.{fold-roll-CoreExprKind}
use Rattle.jv_core.specs.declared.tree.CoreExprKind.TheOpen as F
use Rattle.jv_core.specs.declared.tree.CoreExprKind.TheVariants as E
use Rattle.jv_core.specs.declared.tree.CoreStmt.{CoreStmt, fold_out-CoreStmt}
use Rattle.jv_core.specs.declared.tree.CoreGroup.{CoreGroup, roll-CoreGroup, fold-roll-CoreGroup}
use Rattle.jv_core.specs.declared.tree.CoreStmtKind.{CoreStmtKind, fold-roll-CoreStmtKind}
use Rattle.jv_core.specs.declared.tree.CoreStmtKind.TheOpen as FS
use Rattle.jv_core.specs.declared.tree.CoreStmtKind.TheVariants as S
use Rattle.jv_core.specs.Tree.{Expr, Int, Truth, Text, Null, Variable, Constant, Neg, Not, Binary, Protocol, Helper, Static, Equals, Concat}
use Rattle.jv_core.specs.Tree.{Session, New}
use Rattle.jv_core.specs.Tree.{Stmt, Block, Empty, Local, Assign, If, IfElse, While, Do, Switch, Break, Continue, Return, Print, Eval}
use Rattle.jv_core.specs.View.{exprs_of, stmts_of, groups_of, OneGroup, expr_layer, placed_layer, expr_of, kind_of, stmt_layer, group_layer}
use Rattle.jv_core.specs.View.{placed_stmt_layer, stmt_of, group_of, stmt_kind_of}

pub expr_of-is : (e : CoreExpr) → expr_of e ≡ kind_of e.kind e.place
unfolding expr_of kind_of
expr_of-is e = fold_out-CoreExpr (Place → Expr) Expr expr_layer placed_layer e

pub stmt_of-is : (s : CoreStmt) → stmt_of s ≡ stmt_kind_of s.kind s.place
unfolding stmt_of stmt_kind_of
stmt_of-is s = fold_out-CoreStmt (Place → Stmt) OneGroup Stmt stmt_layer group_layer placed_stmt_layer s

pub group_of-roll : (g : FS.CoreGroup-F CoreStmtKind CoreGroup CoreStmt) →
    group_of (roll-CoreGroup g) ≡ record { labels = g.labels.items; body = stmts_of (map stmt_of g.body.items); end = g.end }
unfolding stmt_of group_of
group_of-roll g = fold-roll-CoreGroup (Place → Stmt) OneGroup Stmt stmt_layer group_layer placed_stmt_layer g

pub kind-Int : (z : ℤ) (p : Place) → kind_of (E.Int z) p ≡ Int p z
unfolding kind_of expr_of
kind-Int z p =
    ap (λ (f : _). kind_of f p) (sym (E.rolls-Int z))
    ∙ ap (λ (f : Place → Expr). f p) (fold-roll-CoreExprKind (Place → Expr) Expr expr_layer placed_layer (F.Int z))

pub kind-Truth : (b : Bool) (p : Place) → kind_of (E.Truth b) p ≡ Truth p b
unfolding kind_of expr_of
kind-Truth b p =
    ap (λ (f : _). kind_of f p) (sym (E.rolls-Truth b))
    ∙ ap (λ (f : Place → Expr). f p) (fold-roll-CoreExprKind (Place → Expr) Expr expr_layer placed_layer (F.Truth b))

pub kind-Text : (t : List ℕ) (p : Place) → kind_of (E.Text t) p ≡ Text p t
unfolding kind_of expr_of
kind-Text t p =
    ap (λ (f : _). kind_of f p) (sym (E.rolls-Text t))
    ∙ ap (λ (f : Place → Expr). f p) (fold-roll-CoreExprKind (Place → Expr) Expr expr_layer placed_layer (F.Text t))

pub kind-Null : (p : Place) → kind_of E.Null p ≡ Null p
unfolding kind_of expr_of
kind-Null p =
    ap (λ (f : _). kind_of f p) (sym E.rolls-Null)
    ∙ ap (λ (f : Place → Expr). f p) (fold-roll-CoreExprKind (Place → Expr) Expr expr_layer placed_layer F.Null)

pub kind-Var : (x : Var) (p : Place) → kind_of (E.Var x) p ≡ Variable p x
unfolding kind_of expr_of
kind-Var x p =
    ap (λ (f : _). kind_of f p) (sym (E.rolls-Var x))
    ∙ ap (λ (f : Place → Expr). f p) (fold-roll-CoreExprKind (Place → Expr) Expr expr_layer placed_layer (F.Var x))

pub kind-Constant : (of position : ℕ) (p : Place) → kind_of (E.Constant of position) p ≡ Constant p of position
unfolding kind_of expr_of
kind-Constant of position p =
    ap (λ (f : _). kind_of f p) (sym (E.rolls-Constant of position))
    ∙ ap (λ (f : Place → Expr). f p) (fold-roll-CoreExprKind (Place → Expr) Expr expr_layer placed_layer (F.Constant of position))

pub kind-Neg : (e : Box CoreExpr Global) (p : Place) → kind_of (E.Neg e) p ≡ Neg p (expr_of e.value)
unfolding kind_of expr_of
kind-Neg e p =
    ap (λ (f : _). kind_of f p) (sym (E.rolls-Neg e))
    ∙ ap (λ (f : Place → Expr). f p) (fold-roll-CoreExprKind (Place → Expr) Expr expr_layer placed_layer (F.Neg e))

pub kind-Not : (e : Box CoreExpr Global) (p : Place) → kind_of (E.Not e) p ≡ Not p (expr_of e.value)
unfolding kind_of expr_of
kind-Not e p =
    ap (λ (f : _). kind_of f p) (sym (E.rolls-Not e))
    ∙ ap (λ (f : Place → Expr). f p) (fold-roll-CoreExprKind (Place → Expr) Expr expr_layer placed_layer (F.Not e))

pub kind-Binary : (o : Op) (l r : Box CoreExpr Global) (p : Place) →
    kind_of (E.Binary o l r) p ≡ Binary p o (expr_of l.value) (expr_of r.value)
unfolding kind_of expr_of
kind-Binary o l r p =
    ap (λ (f : _). kind_of f p) (sym (E.rolls-Binary o l r))
    ∙ ap (λ (f : Place → Expr). f p) (fold-roll-CoreExprKind (Place → Expr) Expr expr_layer placed_layer (F.Binary o l r))

pub kind-Protocol : (x : CoreVar) (m : ℕ) (args : Row CoreExpr) (p : Place) →
    kind_of (E.Protocol x m args) p ≡ Protocol p x m (exprs_of (map expr_of args.items))
unfolding kind_of expr_of
kind-Protocol x m args p =
    ap (λ (f : _). kind_of f p) (sym (E.rolls-Protocol x m args))
    ∙ ap (λ (f : Place → Expr). f p) (fold-roll-CoreExprKind (Place → Expr) Expr expr_layer placed_layer (F.Protocol x m args))

pub kind-Helper : (m : ℕ) (args : Row CoreExpr) (p : Place) → kind_of (E.Helper m args) p ≡ Helper p m (exprs_of (map expr_of args.items))
unfolding kind_of expr_of
kind-Helper m args p =
    ap (λ (f : _). kind_of f p) (sym (E.rolls-Helper m args))
    ∙ ap (λ (f : Place → Expr). f p) (fold-roll-CoreExprKind (Place → Expr) Expr expr_layer placed_layer (F.Helper m args))

pub kind-Static : (m : ℕ) (args : Row CoreExpr) (p : Place) → kind_of (E.Static m args) p ≡ Static p m (exprs_of (map expr_of args.items))
unfolding kind_of expr_of
kind-Static m args p =
    ap (λ (f : _). kind_of f p) (sym (E.rolls-Static m args))
    ∙ ap (λ (f : Place → Expr). f p) (fold-roll-CoreExprKind (Place → Expr) Expr expr_layer placed_layer (F.Static m args))

pub kind-Equals : (l r : Box CoreExpr Global) (p : Place) → kind_of (E.Equals l r) p ≡ Equals p (expr_of l.value) (expr_of r.value)
unfolding kind_of expr_of
kind-Equals l r p =
    ap (λ (f : _). kind_of f p) (sym (E.rolls-Equals l r))
    ∙ ap (λ (f : Place → Expr). f p) (fold-roll-CoreExprKind (Place → Expr) Expr expr_layer placed_layer (F.Equals l r))

pub kind-Concat : (l r : Box CoreExpr Global) (p : Place) → kind_of (E.Concat l r) p ≡ Concat p (expr_of l.value) (expr_of r.value)
unfolding kind_of expr_of
kind-Concat l r p =
    ap (λ (f : _). kind_of f p) (sym (E.rolls-Concat l r))
    ∙ ap (λ (f : Place → Expr). f p) (fold-roll-CoreExprKind (Place → Expr) Expr expr_layer placed_layer (F.Concat l r))

pub kind-Session : (c : SessionCall) (args : Row CoreExpr) (p : Place) →
    kind_of (E.Session c args) p ≡ Session p c (exprs_of (map expr_of args.items))
unfolding kind_of expr_of
kind-Session c args p =
    ap (λ (f : _). kind_of f p) (sym (E.rolls-Session c args))
    ∙ ap (λ (f : Place → Expr). f p) (fold-roll-CoreExprKind (Place → Expr) Expr expr_layer placed_layer (F.Session c args))

pub kind-New : (c : ℕ) (p : Place) → kind_of (E.New c) p ≡ New p c
unfolding kind_of expr_of
kind-New c p =
    ap (λ (f : _). kind_of f p) (sym (E.rolls-New c))
    ∙ ap (λ (f : Place → Expr). f p) (fold-roll-CoreExprKind (Place → Expr) Expr expr_layer placed_layer (F.New c))

pub stmt-Block : (b : Row CoreStmt) (end : Place) (p : Place) →
    stmt_kind_of (S.Block b end) p ≡ Block p (stmts_of (map stmt_of b.items)) end
unfolding stmt_kind_of stmt_of group_of
stmt-Block b end p =
    ap (λ (f : _). stmt_kind_of f p) (sym (S.rolls-Block b end))
    ∙ ap (λ (f : Place → Stmt). f p) (fold-roll-CoreStmtKind (Place → Stmt) OneGroup Stmt stmt_layer group_layer placed_stmt_layer
    (FS.Block b end))

pub stmt-Empty : (p : Place) → stmt_kind_of S.Empty p ≡ Empty p
unfolding stmt_kind_of stmt_of group_of
stmt-Empty p =
    ap (λ (f : _). stmt_kind_of f p) (sym S.rolls-Empty)
    ∙ ap (λ (f : Place → Stmt). f p) (fold-roll-CoreStmtKind
    (Place → Stmt) OneGroup Stmt stmt_layer group_layer placed_stmt_layer FS.Empty)

pub stmt-Local : (x : ℕ) (e : CoreExpr) (p : Place) → stmt_kind_of (S.Local x e) p ≡ Local p x (expr_of e)
unfolding stmt_kind_of stmt_of group_of
stmt-Local x e p =
    ap (λ (f : _). stmt_kind_of f p) (sym (S.rolls-Local x e))
    ∙ ap (λ (f : Place → Stmt). f p) (fold-roll-CoreStmtKind (Place → Stmt) OneGroup Stmt stmt_layer group_layer placed_stmt_layer
    (FS.Local x e))

pub stmt-Assign : (x : CoreVar) (e : CoreExpr) (p : Place) → stmt_kind_of (S.Assign x e) p ≡ Assign p x (expr_of e)
unfolding stmt_kind_of stmt_of group_of
stmt-Assign x e p =
    ap (λ (f : _). stmt_kind_of f p) (sym (S.rolls-Assign x e))
    ∙ ap (λ (f : Place → Stmt). f p) (fold-roll-CoreStmtKind (Place → Stmt) OneGroup Stmt stmt_layer group_layer placed_stmt_layer
    (FS.Assign x e))

pub stmt-If-None : (c : CoreExpr) (s : Box CoreStmt Global) (p : Place) →
    stmt_kind_of (S.If c s None) p ≡ If p (expr_of c) (stmt_of s.value)
unfolding stmt_kind_of stmt_of group_of
stmt-If-None c s p =
    ap (λ (f : _). stmt_kind_of f p) (sym (S.rolls-If c s None))
    ∙ ap (λ (f : Place → Stmt). f p) (fold-roll-CoreStmtKind (Place → Stmt) OneGroup Stmt stmt_layer group_layer placed_stmt_layer
    (FS.If c s None))

pub stmt-If-Some : (c : CoreExpr) (s r : Box CoreStmt Global) (p : Place) →
    stmt_kind_of (S.If c s (Some r)) p ≡ IfElse p (expr_of c) (stmt_of s.value) (stmt_of r.value)
unfolding stmt_kind_of stmt_of group_of
stmt-If-Some c s r p =
    ap (λ (f : _). stmt_kind_of f p) (sym (S.rolls-If c s (Some r)))
    ∙ ap (λ (f : Place → Stmt). f p) (fold-roll-CoreStmtKind (Place → Stmt) OneGroup Stmt stmt_layer group_layer placed_stmt_layer
    (FS.If c s (Some r)))

pub stmt-While : (l : ℕ) (c : CoreExpr) (s : Box CoreStmt Global) (p : Place) →
    stmt_kind_of (S.While l c s) p ≡ While p l (expr_of c) (stmt_of s.value)
unfolding stmt_kind_of stmt_of group_of
stmt-While l c s p =
    ap (λ (f : _). stmt_kind_of f p) (sym (S.rolls-While l c s))
    ∙ ap (λ (f : Place → Stmt). f p) (fold-roll-CoreStmtKind (Place → Stmt) OneGroup Stmt stmt_layer group_layer placed_stmt_layer
    (FS.While l c s))

pub stmt-Do : (l : ℕ) (s : Box CoreStmt Global) (c : CoreExpr) (p : Place) →
    stmt_kind_of (S.Do l s c) p ≡ Do p l (stmt_of s.value) (expr_of c)
unfolding stmt_kind_of stmt_of group_of
stmt-Do l s c p =
    ap (λ (f : _). stmt_kind_of f p) (sym (S.rolls-Do l s c))
    ∙ ap (λ (f : Place → Stmt). f p) (fold-roll-CoreStmtKind (Place → Stmt) OneGroup Stmt stmt_layer group_layer placed_stmt_layer
    (FS.Do l s c))

pub stmt-Switch : (e : CoreExpr) (gs : Row CoreGroup) (end : Place) (p : Place) →
    stmt_kind_of (S.Switch e gs end) p ≡ Switch p (expr_of e) (groups_of (map group_of gs.items)) end
unfolding stmt_kind_of stmt_of group_of
stmt-Switch e gs end p =
    ap (λ (f : _). stmt_kind_of f p) (sym (S.rolls-Switch e gs end))
    ∙ ap (λ (f : Place → Stmt). f p) (fold-roll-CoreStmtKind (Place → Stmt) OneGroup Stmt stmt_layer group_layer placed_stmt_layer
    (FS.Switch e gs end))

pub stmt-Break : (l : Option ℕ) (p : Place) → stmt_kind_of (S.Break l) p ≡ Break p l
unfolding stmt_kind_of stmt_of group_of
stmt-Break l p =
    ap (λ (f : _). stmt_kind_of f p) (sym (S.rolls-Break l))
    ∙ ap (λ (f : Place → Stmt). f p) (fold-roll-CoreStmtKind (Place → Stmt) OneGroup Stmt stmt_layer group_layer placed_stmt_layer
    (FS.Break l))

pub stmt-Continue : (l : ℕ) (p : Place) → stmt_kind_of (S.Continue l) p ≡ Continue p l
unfolding stmt_kind_of stmt_of group_of
stmt-Continue l p =
    ap (λ (f : _). stmt_kind_of f p) (sym (S.rolls-Continue l))
    ∙ ap (λ (f : Place → Stmt). f p) (fold-roll-CoreStmtKind (Place → Stmt) OneGroup Stmt stmt_layer group_layer placed_stmt_layer
    (FS.Continue l))

pub stmt-Return : (e : Option CoreExpr) (p : Place) → stmt_kind_of (S.Return e) p ≡ Return p (option_map expr_of e)
unfolding stmt_kind_of stmt_of group_of
stmt-Return e p =
    ap (λ (f : _). stmt_kind_of f p) (sym (S.rolls-Return e))
    ∙ ap (λ (f : Place → Stmt). f p) (fold-roll-CoreStmtKind (Place → Stmt) OneGroup Stmt stmt_layer group_layer placed_stmt_layer
    (FS.Return e))

pub stmt-Print : (e : CoreExpr) (p : Place) → stmt_kind_of (S.Print e) p ≡ Print p (expr_of e)
unfolding stmt_kind_of stmt_of group_of
stmt-Print e p =
    ap (λ (f : _). stmt_kind_of f p) (sym (S.rolls-Print e))
    ∙ ap (λ (f : Place → Stmt). f p) (fold-roll-CoreStmtKind (Place → Stmt) OneGroup Stmt stmt_layer group_layer placed_stmt_layer
    (FS.Print e))

pub stmt-Eval : (e : CoreExpr) (p : Place) → stmt_kind_of (S.Eval e) p ≡ Eval p (expr_of e)
unfolding stmt_kind_of stmt_of group_of
stmt-Eval e p =
    ap (λ (f : _). stmt_kind_of f p) (sym (S.rolls-Eval e))
    ∙ ap (λ (f : Place → Stmt). f p) (fold-roll-CoreStmtKind (Place → Stmt) OneGroup Stmt stmt_layer group_layer placed_stmt_layer
    (FS.Eval e))

pub ruleset views = (
  expr_of-is,
  stmt_of-is,
  group_of-roll,
  kind-Int,
  kind-Truth,
  kind-Text,
  kind-Null,
  kind-Var,
  kind-Constant,
  kind-Neg,
  kind-Not,
  kind-Binary,
  kind-Protocol,
  kind-Helper,
  kind-Static,
  kind-Equals,
  kind-Concat,
  kind-Session,
  kind-New,
  stmt-Block,
  stmt-Empty,
  stmt-Local,
  stmt-Assign,
  stmt-If-None,
  stmt-If-Some,
  stmt-While,
  stmt-Do,
  stmt-Switch,
  stmt-Break,
  stmt-Continue,
  stmt-Return,
  stmt-Print,
  stmt-Eval,
)
