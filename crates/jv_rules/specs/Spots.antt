-- The spots of a method at which conditions are judged, in the order in which they are judged:
-- operands before their node, and a statement's own conditions before those of the statements inside it.
use Rattle.std.specs.Prelude.{List, [], ◌∷◌, ◌++◌, Option, Some, None}
use Rattle.mg_text.specs.Call.{Name}
use Rattle.mg_text.specs.declared.place.Place.{Place}
use Rattle.jv_tree.specs.declared.tree.Param.{Param}
use Rattle.jv_tree.specs.Source.{Expr, Int, Truth, Text, Null, This, Variable, Member, Neg, Not, Binary, Call, MethodCall, New, Exprs}
use Rattle.jv_tree.specs.Source.{NoExpr, Argument}
use Rattle.jv_tree.specs.Source.{Stmt, Block, Empty, Local, Assign, If, IfElse, While, Do, Switch, Break, Continue, Return, Print, Eval}
use Rattle.jv_tree.specs.Source.{Stmts, NoStmt, Then, Groups, NoGroup, Group, Method, Class}
use Rattle.jv_meaning.specs.Program.{classes_of}
use Rattle.jv_rules.specs.Program.{Program}
use Rattle.jv_rules.specs.Scope.{Scope, Loop, Target, entered, declare, behind, within, with_params}
use Rattle.jv_rules.specs.Scope as targets

-- a node of an expression
pub data Node : Type 0 where
  -- an expression whose value is taken
  Value : Expr → Node
  -- a name before `.name(..)`, which may be that of a class
  Receiver : Place → Name → Node
  -- a name before `.name`, which may be that of an enum or of a class
  Qualifier : Place → Name → Node

abbrev mutual
  -- the nodes, operands first, from left to right
  pub nodes : Expr → List Node
  nodes (Int p z) = Value (Int p z) ∷ []
  nodes (Truth p b) = Value (Truth p b) ∷ []
  nodes (Text p t) = Value (Text p t) ∷ []
  nodes (Null p) = Value (Null p) ∷ []
  nodes (This p) = Value (This p) ∷ []
  nodes (Variable p x) = Value (Variable p x) ∷ []
  nodes (Member p (This q) name) = Value (Member p (This q) name) ∷ []
  nodes (Member p (Variable q x) name) = Qualifier q x ∷ Value (Member p (Variable q x) name) ∷ []
  nodes (Member p e name) = nodes e ++ Value (Member p e name) ∷ []
  nodes (Neg p e) = nodes e ++ Value (Neg p e) ∷ []
  nodes (Not p e) = nodes e ++ Value (Not p e) ∷ []
  nodes (Binary p op l r) = nodes l ++ (nodes r ++ Value (Binary p op l r) ∷ [])
  nodes (Call p name args) = nodes_in args ++ Value (Call p name args) ∷ []
  nodes (MethodCall p (This q) name args) = nodes_in args ++ Value (MethodCall p (This q) name args) ∷ []
  nodes (MethodCall p (Variable q x) name args) = Receiver q x ∷ (nodes_in args ++ Value (MethodCall p (Variable q x) name args) ∷ [])
  nodes (MethodCall p e name args) = nodes e ++ (nodes_in args ++ Value (MethodCall p e name args) ∷ [])
  nodes (New p class) = Value (New p class) ∷ []

  pub nodes_in : Exprs → List Node
  nodes_in NoExpr = []
  nodes_in (Argument e more) = nodes e ++ nodes_in more

pub data Spot : Type 0 where
  -- a node of an expression
  AtNode : Scope → Node → Spot
  -- a statement, whose operands were judged
  AtStatement : Scope → Stmt → Spot
  -- a parameter, behind those before it
  AtParameter : Scope → Param → Spot
  -- the end of a method's body
  AtEnd : Method → Spot

abbrev pub at_nodes : Scope → List Node → List Spot
at_nodes scope [] = []
at_nodes scope (n ∷ ns) = AtNode scope n ∷ at_nodes scope ns

abbrev pub expr_spots : Scope → Expr → List Spot
expr_spots scope e = at_nodes scope (nodes e)

abbrev pub value_spots : Scope → Option Expr → List Spot
value_spots scope None = []
value_spots scope (Some e) = expr_spots scope e

abbrev mutual
  pub stmt_spots : Scope → Stmt → List Spot
  stmt_spots scope (Block p body end) = stmts_spots scope body
  stmt_spots scope (Empty p) = []
  stmt_spots scope (Local p ty name e) = expr_spots scope e ++ AtStatement scope (Local p ty name e) ∷ []
  stmt_spots scope (Assign p target value) = expr_spots scope target ++ (expr_spots scope value ++ AtStatement scope (Assign p target value)
      ∷ [])
  stmt_spots scope (If p c s) = expr_spots scope c ++ AtStatement scope (If p c s) ∷ stmt_spots scope s
  stmt_spots scope (IfElse p c s r) = expr_spots scope c ++ AtStatement scope (IfElse p c s r) ∷ (stmt_spots scope s ++ stmt_spots scope r)
  stmt_spots scope (While p label c s) = expr_spots scope c ++ AtStatement scope (While p label c s) ∷ stmt_spots
      (within (Loop label) scope) s
  stmt_spots scope (Do p label s c) = stmt_spots (within (Loop label) scope) s
      ++ (expr_spots scope c ++ AtStatement scope (Do p label s c) ∷ [])
  stmt_spots scope (Switch p e groups end) = expr_spots scope e ++ AtStatement scope (Switch p e groups end) ∷ group_spots
      (within targets.Switch scope) groups
  stmt_spots scope (Break p label) = AtStatement scope (Break p label) ∷ []
  stmt_spots scope (Continue p label) = AtStatement scope (Continue p label) ∷ []
  stmt_spots scope (Return p value) = value_spots scope value ++ AtStatement scope (Return p value) ∷ []
  stmt_spots scope (Print p e) = expr_spots scope e ++ AtStatement scope (Print p e) ∷ []
  stmt_spots scope (Eval p e) = expr_spots scope e

  -- a local is in scope behind its declaration, up to the end of its list
  pub stmts_spots : Scope → Stmts → List Spot
  stmts_spots scope NoStmt = []
  stmts_spots scope (Then s more) = stmt_spots scope s ++ stmts_spots (behind s scope) more

  pub group_spots : Scope → Groups → List Spot
  group_spots scope NoGroup = []
  group_spots scope (Group labels body end more) = stmts_spots scope body ++ group_spots scope more

abbrev pub param_spots : Scope → List Param → List Spot
param_spots scope [] = []
param_spots scope (p ∷ ps) = AtParameter scope p ∷ param_spots (declare p.name p.ty scope) ps

-- parameters, the body, and its end
abbrev pub method_spots : Program → Class → Method → List Spot
method_spots program class m =
    let scope = entered program class m in
    param_spots scope m.params ++ (stmts_spots (with_params m.params scope) m.body ++ AtEnd m ∷ [])

abbrev pub methods_spots : Program → Class → List Method → List Spot
methods_spots program class [] = []
methods_spots program class (m ∷ ms) = method_spots program class m ++ methods_spots program class ms

abbrev pub classes_spots : Program → List Class → List Spot
classes_spots program [] = []
classes_spots program (c ∷ cs) = methods_spots program c c.methods ++ classes_spots program cs

-- all spots of a program, method by method in file and text order
abbrev pub spots : Program → List Spot
spots program = classes_spots program (classes_of program.files)
