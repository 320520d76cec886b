-- What each expression and statement of the program says.
use Rattle.std.proofs.Common.{◌≡◌, ℕ, List, Bool, Option, Some, None, refl, sym, ap, ◌∙◌}
use Rattle.std.specs.Prelude.{ℤ, map, option_map}
use Rattle.std.specs.declared.boxed.Box.{Box}
use Rattle.std.specs.declared.alloc.Global.{Global}
use Rattle.mg_text.specs.Call.{Name}
use Rattle.mg_text.specs.Row.{Row}
use Rattle.mg_text.specs.declared.place.Place.{Place}
use Rattle.ts_tree.specs.declared.parts.TypeName.{TypeName}
use Rattle.jv_tree.specs.declared.tree.Op.{Op}
use Rattle.jv_tree.specs.declared.tree.Expr.{Expr as KeptExpr, fold_out-Expr}
use Rattle.jv_tree.specs.declared.tree.ExprKind.{fold-roll-ExprKind, fold_out-ExprKind, ExprKind as KeptExprKind}
use Rattle.jv_tree.specs.declared.tree.ExprKind.TheOpen as F
use Rattle.jv_tree.specs.declared.tree.ExprKind.TheVariants as E
use Rattle.jv_tree.specs.declared.tree.Stmt.{Stmt as KeptStmt, fold_out-Stmt}
use Rattle.jv_tree.specs.declared.tree.Group.{Group as KeptGroup, roll-Group, fold-roll-Group}
use Rattle.jv_tree.specs.declared.tree.StmtKind.{StmtKind as KeptStmtKind, fold-roll-StmtKind}
use Rattle.jv_tree.specs.declared.tree.StmtKind.TheOpen as FS
use Rattle.jv_tree.specs.declared.tree.StmtKind.TheVariants as S
use Rattle.jv_tree.specs.Source.{Expr, Int, Truth, Text, Null, This, Variable, Member, Neg, Not, Binary, Call, MethodCall, New, place_of}
use Rattle.jv_tree.specs.Source.{Stmt, Block, Empty, Local, Assign, If, IfElse, While, Do, Switch, Break, Continue, Return, Print, Eval}
use Rattle.jv_tree.specs.View.{exprs_of, stmts_of, groups_of, OneGroup, expr_layer, placed_layer, expr_of, kind_of, if_with, stmt_layer}
use Rattle.jv_tree.specs.View.{group_layer, placed_stmt_layer, stmt_of, group_of, stmt_kind_of}

pub expr_of-is : (e : KeptExpr) → expr_of e ≡ kind_of e.kind e.place
unfolding expr_of kind_of
expr_of-is e = fold_out-Expr (Place → Expr) Expr expr_layer placed_layer e

pub stmt_of-is : (s : KeptStmt) → stmt_of s ≡ stmt_kind_of s.kind s.place
unfolding stmt_of stmt_kind_of
stmt_of-is s = fold_out-Stmt (Place → Stmt) OneGroup Stmt stmt_layer group_layer placed_stmt_layer s

pub group_of-roll : (g : FS.Group-F KeptStmtKind KeptGroup KeptStmt) → group_of (roll-Group g) ≡ record {
  labels = g.labels.items;
  body =
      stmts_of (map stmt_of g.body.items);
  end = g.end;
}
unfolding stmt_of group_of
group_of-roll g = fold-roll-Group (Place → Stmt) OneGroup Stmt stmt_layer group_layer placed_stmt_layer g

layer_place : (f : F.ExprKind-F (Place → Expr) Expr) (p : Place) → place_of (expr_layer f p) ≡ p
layer_place (F.Int z) p = refl
layer_place (F.Truth b) p = refl
layer_place (F.Text t) p = refl
layer_place F.Null p = refl
layer_place F.This p = refl
layer_place (F.Name n) p = refl
layer_place (F.Member e n) p = refl
layer_place (F.Neg e) p = refl
layer_place (F.Not e) p = refl
layer_place (F.Binary o l r) p = refl
layer_place (F.Call n args) p = refl
layer_place (F.MethodCall e n args) p = refl
layer_place (F.New n) p = refl

kind_place : (k : KeptExprKind) (p : Place) → place_of (kind_of k p) ≡ p
unfolding kind_of
kind_place k p = ap (λ (f : Place → Expr). place_of (f p)) (fold_out-ExprKind (Place → Expr) Expr expr_layer placed_layer k) ∙
    layer_place _ p

-- an expression stands where it says
pub place-expr : (e : KeptExpr) → place_of (expr_of e) ≡ e.place
place-expr e = ap place_of (expr_of-is e) ∙ kind_place e.kind e.place

pub kind-Int : (z : ℤ) (p : Place) → kind_of (E.Int z) p ≡ Int p z
unfolding kind_of expr_of
kind-Int z p = ap (λ (f : _). kind_of f p) (sym (E.rolls-Int z)) ∙ ap (λ (f : Place → Expr). f p)
    (fold-roll-ExprKind (Place → Expr) Expr expr_layer placed_layer (F.Int z))

pub kind-Truth : (b : Bool) (p : Place) → kind_of (E.Truth b) p ≡ Truth p b
unfolding kind_of expr_of
kind-Truth b p = ap (λ (f : _). kind_of f p) (sym (E.rolls-Truth b)) ∙ ap (λ (f : Place → Expr). f p)
    (fold-roll-ExprKind (Place → Expr) Expr expr_layer placed_layer (F.Truth b))

pub kind-Text : (t : List ℕ) (p : Place) → kind_of (E.Text t) p ≡ Text p t
unfolding kind_of expr_of
kind-Text t p = ap (λ (f : _). kind_of f p) (sym (E.rolls-Text t)) ∙ ap (λ (f : Place → Expr). f p)
    (fold-roll-ExprKind (Place → Expr) Expr expr_layer placed_layer (F.Text t))

pub kind-Null : (p : Place) → kind_of E.Null p ≡ Null p
unfolding kind_of expr_of
kind-Null p = ap (λ (f : _). kind_of f p) (sym (E.rolls-Null)) ∙ ap (λ (f : Place → Expr). f p)
    (fold-roll-ExprKind (Place → Expr) Expr expr_layer placed_layer F.Null)

pub kind-This : (p : Place) → kind_of E.This p ≡ This p
unfolding kind_of expr_of
kind-This p = ap (λ (f : _). kind_of f p) (sym (E.rolls-This)) ∙ ap (λ (f : Place → Expr). f p)
    (fold-roll-ExprKind (Place → Expr) Expr expr_layer placed_layer F.This)

pub kind-Name : (n : Name) (p : Place) → kind_of (E.Name n) p ≡ Variable p n
unfolding kind_of expr_of
kind-Name n p = ap (λ (f : _). kind_of f p) (sym (E.rolls-Name n)) ∙ ap (λ (f : Place → Expr). f p)
    (fold-roll-ExprKind (Place → Expr) Expr expr_layer placed_layer (F.Name n))

pub kind-Member : (e : Box KeptExpr Global) (n : Name) (p : Place) → kind_of (E.Member e n) p ≡ Member p (expr_of e.value) n
unfolding kind_of expr_of
kind-Member e n p = ap (λ (f : _). kind_of f p) (sym (E.rolls-Member e n)) ∙ ap (λ (f : Place → Expr). f p)
    (fold-roll-ExprKind (Place → Expr) Expr expr_layer placed_layer (F.Member e n))

pub kind-Neg : (e : Box KeptExpr Global) (p : Place) → kind_of (E.Neg e) p ≡ Neg p (expr_of e.value)
unfolding kind_of expr_of
kind-Neg e p = ap (λ (f : _). kind_of f p) (sym (E.rolls-Neg e)) ∙ ap (λ (f : Place → Expr). f p)
    (fold-roll-ExprKind (Place → Expr) Expr expr_layer placed_layer (F.Neg e))

pub kind-Not : (e : Box KeptExpr Global) (p : Place) → kind_of (E.Not e) p ≡ Not p (expr_of e.value)
unfolding kind_of expr_of
kind-Not e p = ap (λ (f : _). kind_of f p) (sym (E.rolls-Not e)) ∙ ap (λ (f : Place → Expr). f p)
    (fold-roll-ExprKind (Place → Expr) Expr expr_layer placed_layer (F.Not e))

pub kind-Binary : (o : Op) (l r : Box KeptExpr Global) (p : Place) → kind_of (E.Binary o l r) p ≡ Binary p o (expr_of l.value)
    (expr_of r.value)
unfolding kind_of expr_of
kind-Binary o l r p = ap (λ (f : _). kind_of f p) (sym (E.rolls-Binary o l r)) ∙ ap (λ (f : Place → Expr). f p)
    (fold-roll-ExprKind (Place → Expr) Expr expr_layer placed_layer (F.Binary o l r))

pub kind-Call : (n : Name) (args : Row KeptExpr) (p : Place) → kind_of (E.Call n args) p ≡ Call p n (exprs_of (map expr_of args.items))
unfolding kind_of expr_of
kind-Call n args p = ap (λ (f : _). kind_of f p) (sym (E.rolls-Call n args)) ∙ ap (λ (f : Place → Expr). f p)
    (fold-roll-ExprKind (Place → Expr) Expr expr_layer placed_layer (F.Call n args))

pub kind-MethodCall : (e : Box KeptExpr Global) (n : Name) (args : Row KeptExpr) (p : Place) →
    kind_of (E.MethodCall e n args) p ≡ MethodCall p (expr_of e.value) n (exprs_of (map expr_of args.items))
unfolding kind_of expr_of
kind-MethodCall e n args p = ap (λ (f : _). kind_of f p) (sym (E.rolls-MethodCall e n args)) ∙ ap (λ (f : Place → Expr). f p)
    (fold-roll-ExprKind (Place → Expr) Expr expr_layer placed_layer (F.MethodCall e n args))

pub kind-New : (n : Name) (p : Place) → kind_of (E.New n) p ≡ New p n
unfolding kind_of expr_of
kind-New n p = ap (λ (f : _). kind_of f p) (sym (E.rolls-New n)) ∙ ap (λ (f : Place → Expr). f p)
    (fold-roll-ExprKind (Place → Expr) Expr expr_layer placed_layer (F.New n))

pub kind-Block : (b : Row KeptStmt) (end : Place) (p : Place) → stmt_kind_of (S.Block b end) p ≡ Block p (stmts_of (map stmt_of b.items))
    end
unfolding stmt_kind_of stmt_of group_of
kind-Block b end p = ap (λ (f : _). stmt_kind_of f p) (sym (S.rolls-Block b end)) ∙ ap (λ (f : Place → Stmt). f p)
    (fold-roll-StmtKind (Place → Stmt) OneGroup Stmt stmt_layer group_layer placed_stmt_layer (FS.Block b end))

pub kind-Empty : (p : Place) → stmt_kind_of S.Empty p ≡ Empty p
unfolding stmt_kind_of stmt_of group_of
kind-Empty p = ap (λ (f : _). stmt_kind_of f p) (sym (S.rolls-Empty)) ∙ ap (λ (f : Place → Stmt). f p)
    (fold-roll-StmtKind (Place → Stmt) OneGroup Stmt stmt_layer group_layer placed_stmt_layer FS.Empty)

pub kind-Local : (ty : TypeName) (n : Name) (e : KeptExpr) (p : Place) → stmt_kind_of (S.Local ty n e) p ≡ Local p ty n (expr_of e)
unfolding stmt_kind_of stmt_of group_of
kind-Local ty n e p = ap (λ (f : _). stmt_kind_of f p) (sym (S.rolls-Local ty n e)) ∙ ap (λ (f : Place → Stmt). f p)
    (fold-roll-StmtKind (Place → Stmt) OneGroup Stmt stmt_layer group_layer placed_stmt_layer (FS.Local ty n e))

pub kind-Assign : (t e : KeptExpr) (p : Place) → stmt_kind_of (S.Assign t e) p ≡ Assign p (expr_of t) (expr_of e)
unfolding stmt_kind_of stmt_of group_of
kind-Assign t e p = ap (λ (f : _). stmt_kind_of f p) (sym (S.rolls-Assign t e)) ∙ ap (λ (f : Place → Stmt). f p)
    (fold-roll-StmtKind (Place → Stmt) OneGroup Stmt stmt_layer group_layer placed_stmt_layer (FS.Assign t e))

pub kind-If-None : (c : KeptExpr) (s : Box KeptStmt Global) (p : Place) → stmt_kind_of (S.If c s None) p ≡ If p (expr_of c)
    (stmt_of s.value)
unfolding stmt_kind_of stmt_of
kind-If-None c s p = ap (λ (f : _). stmt_kind_of f p) (sym (S.rolls-If c s None)) ∙ ap (λ (f : Place → Stmt). f p)
    (fold-roll-StmtKind (Place → Stmt) OneGroup Stmt stmt_layer group_layer placed_stmt_layer (FS.If c s None))

pub kind-If-Some : (c : KeptExpr) (s : Box KeptStmt Global) (r : Box KeptStmt Global) (p : Place) → stmt_kind_of (S.If c s (Some r)) p ≡
    IfElse p (expr_of c) (stmt_of s.value) (stmt_of r.value)
unfolding stmt_kind_of stmt_of
kind-If-Some c s r p = ap (λ (f : _). stmt_kind_of f p) (sym (S.rolls-If c s (Some r))) ∙ ap (λ (f : Place → Stmt). f p)
    (fold-roll-StmtKind (Place → Stmt) OneGroup Stmt stmt_layer group_layer placed_stmt_layer (FS.If c s (Some r)))

pub kind-While : (l : Option Name) (c : KeptExpr) (s : Box KeptStmt Global) (p : Place) → stmt_kind_of (S.While l c s) p ≡ While p l
    (expr_of c) (stmt_of s.value)
unfolding stmt_kind_of stmt_of group_of
kind-While l c s p = ap (λ (f : _). stmt_kind_of f p) (sym (S.rolls-While l c s)) ∙ ap (λ (f : Place → Stmt). f p)
    (fold-roll-StmtKind (Place → Stmt) OneGroup Stmt stmt_layer group_layer placed_stmt_layer (FS.While l c s))

pub kind-Do : (l : Option Name) (s : Box KeptStmt Global) (c : KeptExpr) (p : Place) → stmt_kind_of (S.Do l s c) p ≡ Do p l
    (stmt_of s.value) (expr_of c)
unfolding stmt_kind_of stmt_of group_of
kind-Do l s c p = ap (λ (f : _). stmt_kind_of f p) (sym (S.rolls-Do l s c)) ∙ ap (λ (f : Place → Stmt). f p)
    (fold-roll-StmtKind (Place → Stmt) OneGroup Stmt stmt_layer group_layer placed_stmt_layer (FS.Do l s c))

pub kind-Switch : (e : KeptExpr) (gs : Row KeptGroup) (end : Place) (p : Place) → stmt_kind_of (S.Switch e gs end) p ≡ Switch p (expr_of e)
    (groups_of (map group_of gs.items)) end
unfolding stmt_kind_of stmt_of group_of
kind-Switch e gs end p = ap (λ (f : _). stmt_kind_of f p) (sym (S.rolls-Switch e gs end)) ∙ ap (λ (f : Place → Stmt). f p)
    (fold-roll-StmtKind (Place → Stmt) OneGroup Stmt stmt_layer group_layer placed_stmt_layer (FS.Switch e gs end))

pub kind-Break : (l : Option Name) (p : Place) → stmt_kind_of (S.Break l) p ≡ Break p l
unfolding stmt_kind_of stmt_of group_of
kind-Break l p = ap (λ (f : _). stmt_kind_of f p) (sym (S.rolls-Break l)) ∙ ap (λ (f : Place → Stmt). f p)
    (fold-roll-StmtKind (Place → Stmt) OneGroup Stmt stmt_layer group_layer placed_stmt_layer (FS.Break l))

pub kind-Continue : (l : Option Name) (p : Place) → stmt_kind_of (S.Continue l) p ≡ Continue p l
unfolding stmt_kind_of stmt_of group_of
kind-Continue l p = ap (λ (f : _). stmt_kind_of f p) (sym (S.rolls-Continue l)) ∙ ap (λ (f : Place → Stmt). f p)
    (fold-roll-StmtKind (Place → Stmt) OneGroup Stmt stmt_layer group_layer placed_stmt_layer (FS.Continue l))

pub kind-Return : (e : Option KeptExpr) (p : Place) → stmt_kind_of (S.Return e) p ≡ Return p (option_map expr_of e)
unfolding stmt_kind_of stmt_of group_of
kind-Return e p = ap (λ (f : _). stmt_kind_of f p) (sym (S.rolls-Return e)) ∙ ap (λ (f : Place → Stmt). f p)
    (fold-roll-StmtKind (Place → Stmt) OneGroup Stmt stmt_layer group_layer placed_stmt_layer (FS.Return e))

pub kind-Print : (e : KeptExpr) (p : Place) → stmt_kind_of (S.Print e) p ≡ Print p (expr_of e)
unfolding stmt_kind_of stmt_of group_of
kind-Print e p = ap (λ (f : _). stmt_kind_of f p) (sym (S.rolls-Print e)) ∙ ap (λ (f : Place → Stmt). f p)
    (fold-roll-StmtKind (Place → Stmt) OneGroup Stmt stmt_layer group_layer placed_stmt_layer (FS.Print e))

pub kind-Eval : (e : KeptExpr) (p : Place) → stmt_kind_of (S.Eval e) p ≡ Eval p (expr_of e)
unfolding stmt_kind_of stmt_of group_of
kind-Eval e p = ap (λ (f : _). stmt_kind_of f p) (sym (S.rolls-Eval e)) ∙ ap (λ (f : Place → Stmt). f p)
    (fold-roll-StmtKind (Place → Stmt) OneGroup Stmt stmt_layer group_layer placed_stmt_layer (FS.Eval e))

pub ruleset views = (
  expr_of-is,
  stmt_of-is,
  group_of-roll,
  place-expr,
  kind-Int,
  kind-Truth,
  kind-Text,
  kind-Null,
  kind-This,
  kind-Name,
  kind-Member,
  kind-Neg,
  kind-Not,
  kind-Binary,
  kind-Call,
  kind-MethodCall,
  kind-New,
  kind-Block,
  kind-Empty,
  kind-Local,
  kind-Assign,
  kind-If-None,
  kind-If-Some,
  kind-While,
  kind-Do,
  kind-Switch,
  kind-Break,
  kind-Continue,
  kind-Return,
  kind-Print,
  kind-Eval,
)
