-- The trees that the program's files say.
use Rattle.std.specs.Prelude.{List, [], ◌∷◌, map, Option, Some, None, option_map}
use Rattle.mg_text.specs.Call.{Name}
use Rattle.mg_text.specs.declared.place.Place.{Place}
use Rattle.jv_tree.specs.declared.tree.Expr.{Expr as KeptExpr, fold-Expr}
use Rattle.jv_tree.specs.declared.tree.ExprKind.{ExprKind as KeptExprKind, fold-ExprKind}
use Rattle.jv_tree.specs.declared.tree.ExprKind.TheOpen.{Expr-F, ExprKind-F}
use Rattle.jv_tree.specs.declared.tree.ExprKind.TheOpen as exprs
use Rattle.jv_tree.specs.declared.tree.Stmt.{Stmt as KeptStmt, fold-Stmt}
use Rattle.jv_tree.specs.declared.tree.StmtKind.{StmtKind as KeptStmtKind, fold-StmtKind}
use Rattle.jv_tree.specs.declared.tree.Group.{Group as KeptGroup, fold-Group}
use Rattle.jv_tree.specs.declared.tree.StmtKind.TheOpen.{Stmt-F, StmtKind-F, Group-F}
use Rattle.jv_tree.specs.declared.tree.StmtKind.TheOpen as stmts
use Rattle.jv_tree.specs.declared.tree.Field.{Field as KeptField}
use Rattle.jv_tree.specs.declared.tree.MethodDecl.{MethodDecl}
use Rattle.jv_tree.specs.declared.tree.Class.{Class as KeptClass}
use Rattle.jv_tree.specs.declared.tree.Enum.{Enum as KeptEnum}
use Rattle.jv_tree.specs.declared.tree.Decl.{Decl as KeptDecl}
use Rattle.jv_tree.specs.declared.tree.Decl.TheVariants as decls
use Rattle.jv_tree.specs.declared.tree.File.{File as KeptFile}
use Rattle.jv_tree.specs.Source.{Expr, Int, Truth, Text, Null, This, Variable, Member, Neg, Not, Binary, Call, MethodCall, New, Exprs}
use Rattle.jv_tree.specs.Source.{NoExpr, Argument}
use Rattle.jv_tree.specs.Source.{Stmt, Block, Empty, Local, Assign, If, IfElse, While, Do, Switch, Break, Continue, Return, Print, Eval}
use Rattle.jv_tree.specs.Source.{Stmts, NoStmt, Then, Groups, NoGroup, Group, Field, Method, Class, Enum, Decl, ClassDecl, EnumDecl, File}

abbrev pub exprs_of : List Expr → Exprs
exprs_of [] = NoExpr
exprs_of (e ∷ es) = Argument e (exprs_of es)

abbrev pub stmts_of : List Stmt → Stmts
stmts_of [] = NoStmt
stmts_of (s ∷ ss) = Then s (stmts_of ss)

-- a group without those after it
pub record OneGroup : Type 0 where
  pub labels : List (Option Name)
  pub body : Stmts
  pub end : Place

abbrev pub groups_of : List OneGroup → Groups
groups_of [] = NoGroup
groups_of (g ∷ gs) = Group g.labels g.body g.end (groups_of gs)

-- one expression, with what each inner one says in its place
abbrev pub expr_layer : ExprKind-F (Place → Expr) Expr → Place → Expr
expr_layer (exprs.Int z) p = Int p z
expr_layer (exprs.Truth b) p = Truth p b
expr_layer (exprs.Text t) p = Text p t
expr_layer exprs.Null p = Null p
expr_layer exprs.This p = This p
expr_layer (exprs.Name n) p = Variable p n
expr_layer (exprs.Member e n) p = Member p e.value n
expr_layer (exprs.Neg e) p = Neg p e.value
expr_layer (exprs.Not e) p = Not p e.value
expr_layer (exprs.Binary o l r) p = Binary p o l.value r.value
expr_layer (exprs.Call n args) p = Call p n (exprs_of args.items)
expr_layer (exprs.MethodCall e n args) p = MethodCall p e.value n (exprs_of args.items)
expr_layer (exprs.New n) p = New p n

abbrev pub placed_layer : Expr-F (Place → Expr) Expr → Expr
placed_layer e = e.kind e.place

unfoldable pub expr_of : KeptExpr → Expr
expr_of = fold-Expr (Place → Expr) Expr expr_layer placed_layer

-- an expression of this kind, at a place
unfoldable pub kind_of : KeptExprKind → Place → Expr
kind_of = fold-ExprKind (Place → Expr) Expr expr_layer placed_layer

abbrev pub if_with : Place → Expr → Stmt → Option Stmt → Stmt
if_with p c s None = If p c s
if_with p c s (Some r) = IfElse p c s r

-- one statement, with what each inner one says in its place
abbrev pub stmt_layer : StmtKind-F (Place → Stmt) OneGroup Stmt → Place → Stmt
stmt_layer (stmts.Block body end) p = Block p (stmts_of body.items) end
stmt_layer stmts.Empty p = Empty p
stmt_layer (stmts.Local ty n e) p = Local p ty n (expr_of e)
stmt_layer (stmts.Assign target value) p = Assign p (expr_of target) (expr_of value)
stmt_layer (stmts.If c s r) p = if_with p (expr_of c) s.value (option_map (λ b. b.value) r)
stmt_layer (stmts.While l c s) p = While p l (expr_of c) s.value
stmt_layer (stmts.Do l s c) p = Do p l s.value (expr_of c)
stmt_layer (stmts.Switch e groups end) p = Switch p (expr_of e) (groups_of groups.items) end
stmt_layer (stmts.Break l) p = Break p l
stmt_layer (stmts.Continue l) p = Continue p l
stmt_layer (stmts.Return value) p = Return p (option_map expr_of value)
stmt_layer (stmts.Print e) p = Print p (expr_of e)
stmt_layer (stmts.Eval e) p = Eval p (expr_of e)

abbrev pub group_layer : Group-F (Place → Stmt) OneGroup Stmt → OneGroup
group_layer g = record { labels = g.labels.items; body = stmts_of g.body.items; end = g.end }

abbrev pub placed_stmt_layer : Stmt-F (Place → Stmt) OneGroup Stmt → Stmt
placed_stmt_layer s = s.kind s.place

unfoldable pub stmt_of : KeptStmt → Stmt
stmt_of = fold-Stmt (Place → Stmt) OneGroup Stmt stmt_layer group_layer placed_stmt_layer

unfoldable pub group_of : KeptGroup → OneGroup
group_of = fold-Group (Place → Stmt) OneGroup Stmt stmt_layer group_layer placed_stmt_layer

-- a statement of this kind, at a place
unfoldable pub stmt_kind_of : KeptStmtKind → Place → Stmt
stmt_kind_of = fold-StmtKind (Place → Stmt) OneGroup Stmt stmt_layer group_layer placed_stmt_layer

abbrev pub field_of : KeptField → Field
field_of f = record { place = f.place; ty = f.ty; name = f.name; value = option_map expr_of f.value }

abbrev pub method_of : MethodDecl → Method
method_of m = record {
  place = m.place;
  end = m.end;
  is_static = m.is_static;
  result = m.result;
  name = m.name;
  params = m.params.items;
  takes_args = m.takes_args;
  body = stmts_of (map stmt_of m.body.items);
}

abbrev pub class_of : KeptClass → Class
class_of c = record {
  place = c.place;
  name = c.name;
  typestate = c.typestate;
  fields = map field_of c.fields.items;
  methods = map method_of c.methods.items;
}

abbrev pub enum_of : KeptEnum → Enum
enum_of e = record { place = e.place; name = e.name; constants = e.constants.items }

abbrev pub decl_of : KeptDecl → Decl
decl_of (decls.Class c) = ClassDecl (class_of c)
decl_of (decls.Enum e) = EnumDecl (enum_of e)

-- the declarations of a file
abbrev pub file_of : KeptFile → File
file_of f = map decl_of f.decls.items
