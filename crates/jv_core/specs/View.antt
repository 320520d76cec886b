-- The trees that the parts of a core say.
use Rattle.std.specs.Prelude.{List, [], ◌∷◌, map, Option, Some, None, option_map, ℕ}
use Rattle.mg_text.specs.Call.{Name}
use Rattle.mg_text.specs.declared.place.Place.{Place}
use Rattle.ts_tree.specs.Typestate.{Typestate}
use Rattle.jv_core.specs.declared.tree.CoreExpr.{CoreExpr, fold-CoreExpr}
use Rattle.jv_core.specs.declared.tree.CoreExprKind.{CoreExprKind, fold-CoreExprKind}
use Rattle.jv_core.specs.declared.tree.CoreExprKind.TheOpen.{CoreExpr-F, CoreExprKind-F}
use Rattle.jv_core.specs.declared.tree.CoreExprKind.TheOpen as exprs
use Rattle.jv_core.specs.declared.tree.CoreStmt.{CoreStmt, fold-CoreStmt}
use Rattle.jv_core.specs.declared.tree.CoreStmtKind.{CoreStmtKind, fold-CoreStmtKind}
use Rattle.jv_core.specs.declared.tree.CoreGroup.{CoreGroup, fold-CoreGroup}
use Rattle.jv_core.specs.declared.tree.CoreStmtKind.TheOpen.{CoreStmt-F, CoreStmtKind-F, CoreGroup-F}
use Rattle.jv_core.specs.declared.tree.CoreStmtKind.TheOpen as stmts
use Rattle.jv_core.specs.declared.program.CoreField.{CoreField}
use Rattle.jv_core.specs.declared.program.CoreClass.{CoreClass}
use Rattle.jv_core.specs.declared.program.CoreEnum.{CoreEnum}
use Rattle.jv_core.specs.declared.program.CoreSlot.{CoreSlot}
use Rattle.jv_core.specs.declared.program.CoreLoop.{CoreLoop}
use Rattle.jv_core.specs.declared.program.CoreMethod.{CoreMethod}
use Rattle.jv_core.specs.Tree.{Expr, Int, Truth, Text, Null, Variable, Constant, Neg, Not, Binary, Protocol, Helper, Static, Equals, Concat}
use Rattle.jv_core.specs.Tree.{Session, New}
use Rattle.jv_core.specs.Tree.{Exprs, NoExpr, Argument}
use Rattle.jv_core.specs.Tree.{Stmt, Block, Empty, Local, Assign, If, IfElse, While, Do, Switch, Break, Continue, Return, Print, Eval}
use Rattle.jv_core.specs.Tree.{Stmts, NoStmt, Then, Declare, Groups, NoGroup, Group, Field, Class, Enum, Slot, Loop, Method, Program}

abbrev pub exprs_of : List Expr → Exprs
exprs_of [] = NoExpr
exprs_of (e ∷ es) = Argument e (exprs_of es)

-- a statement in front of others; these are in the scope of a declaration
abbrev pub before : Stmt → Stmts → Stmts
before (Local p x e) more = Declare p x e more
before s more = Then s more

abbrev pub stmts_of : List Stmt → Stmts
stmts_of [] = NoStmt
stmts_of (s ∷ ss) = before s (stmts_of ss)

-- a group without those after it
pub record OneGroup : Type 0 where
  pub labels : List (Option ℕ)
  pub body : Stmts
  pub end : Place

abbrev pub groups_of : List OneGroup → Groups
groups_of [] = NoGroup
groups_of (g ∷ gs) = Group g.labels g.body g.end (groups_of gs)

-- one expression, with what each inner one says in its place
abbrev pub expr_layer : CoreExprKind-F (Place → Expr) Expr → Place → Expr
expr_layer (exprs.Int z) p = Int p z
expr_layer (exprs.Truth b) p = Truth p b
expr_layer (exprs.Text t) p = Text p t
expr_layer exprs.Null p = Null p
expr_layer (exprs.Var x) p = Variable p x
expr_layer (exprs.Constant of position) p = Constant p of position
expr_layer (exprs.Neg e) p = Neg p e.value
expr_layer (exprs.Not e) p = Not p e.value
expr_layer (exprs.Binary o l r) p = Binary p o l.value r.value
expr_layer (exprs.Protocol x m args) p = Protocol p x m (exprs_of args.items)
expr_layer (exprs.Helper m args) p = Helper p m (exprs_of args.items)
expr_layer (exprs.Static m args) p = Static p m (exprs_of args.items)
expr_layer (exprs.Equals l r) p = Equals p l.value r.value
expr_layer (exprs.Concat l r) p = Concat p l.value r.value
expr_layer (exprs.Session c args) p = Session p c (exprs_of args.items)
expr_layer (exprs.New c) p = New p c

abbrev pub placed_layer : CoreExpr-F (Place → Expr) Expr → Expr
placed_layer e = e.kind e.place

unfoldable pub expr_of : CoreExpr → Expr
expr_of = fold-CoreExpr (Place → Expr) Expr expr_layer placed_layer

-- an expression of this kind, at a place
unfoldable pub kind_of : CoreExprKind → Place → Expr
kind_of = fold-CoreExprKind (Place → Expr) Expr expr_layer placed_layer

abbrev pub if_with : Place → Expr → Stmt → Option Stmt → Stmt
if_with p c s None = If p c s
if_with p c s (Some r) = IfElse p c s r

-- one statement, with what each inner one says in its place
abbrev pub stmt_layer : CoreStmtKind-F (Place → Stmt) OneGroup Stmt → Place → Stmt
stmt_layer (stmts.Block body end) p = Block p (stmts_of body.items) end
stmt_layer stmts.Empty p = Empty p
stmt_layer (stmts.Local x e) p = Local p x (expr_of e)
stmt_layer (stmts.Assign x e) p = Assign p x (expr_of e)
stmt_layer (stmts.If c s r) p = if_with p (expr_of c) s.value (option_map (λ b. b.value) r)
stmt_layer (stmts.While l c s) p = While p l (expr_of c) s.value
stmt_layer (stmts.Do l s c) p = Do p l s.value (expr_of c)
stmt_layer (stmts.Switch e groups end) p = Switch p (expr_of e) (groups_of groups.items) end
stmt_layer (stmts.Break l) p = Break p l
stmt_layer (stmts.Continue l) p = Continue p l
stmt_layer (stmts.Return value) p = Return p (option_map expr_of value)
stmt_layer (stmts.Print e) p = Print p (expr_of e)
stmt_layer (stmts.Eval e) p = Eval p (expr_of e)

abbrev pub group_layer : CoreGroup-F (Place → Stmt) OneGroup Stmt → OneGroup
group_layer g = record { labels = g.labels.items; body = stmts_of g.body.items; end = g.end }

abbrev pub placed_stmt_layer : CoreStmt-F (Place → Stmt) OneGroup Stmt → Stmt
placed_stmt_layer s = s.kind s.place

unfoldable pub stmt_of : CoreStmt → Stmt
stmt_of = fold-CoreStmt (Place → Stmt) OneGroup Stmt stmt_layer group_layer placed_stmt_layer

unfoldable pub group_of : CoreGroup → OneGroup
group_of = fold-CoreGroup (Place → Stmt) OneGroup Stmt stmt_layer group_layer placed_stmt_layer

-- a statement of this kind, at a place
unfoldable pub stmt_kind_of : CoreStmtKind → Place → Stmt
stmt_kind_of = fold-CoreStmtKind (Place → Stmt) OneGroup Stmt stmt_layer group_layer placed_stmt_layer

abbrev pub field_of : CoreField → Field
field_of f = record { name = f.name.0; ty = f.ty; value = option_map expr_of f.value }

abbrev pub class_of : CoreClass → Class
class_of c = record {
  place = c.place;
  name = c.name.0;
  typestate = c.typestate;
  fields = map field_of c.fields.items;
  methods = c.methods.items;
}

abbrev pub enum_of : CoreEnum → Enum
enum_of e = record { name = e.name.0; constants = map (λ n. n.0) e.constants.items }

abbrev pub slot_of : CoreSlot → Slot
slot_of s = record { name = s.name.0; ty = s.ty }

abbrev pub loop_of : CoreLoop → Loop
loop_of l = record { place = l.place; scope = l.scope.items }

abbrev pub method_of : CoreMethod → Method
method_of m = record {
  place = m.place;
  end = m.end;
  class = m.class;
  name = m.name.0;
  kind = m.kind;
  result = m.result;
  params = m.params;
  slots = map slot_of m.slots.items;
  loops = map loop_of m.loops.items;
  body = stmts_of (map stmt_of m.body.items);
}

-- the program of these parts
abbrev pub program_of : List CoreClass → List CoreEnum → List CoreMethod → List Typestate → List Name → Program
program_of classes enums methods typestates names = record {
  classes = map class_of classes;
  enums = map enum_of enums;
  methods = map method_of methods;
  typestates = typestates;
  names = names;
}
