-- How deep trees are: statements and expressions one inside another. Groups and cases count nothing.
use Rattle.std.specs.Prelude.{ℕ, suc, max, List, [], ◌∷◌, Option, Some, None}
use Rattle.jv_tree.specs.Source.{Expr, Int, Truth, Text, Null, This, Variable, Member, Neg, Not, Binary, Call, MethodCall, New, Exprs}
use Rattle.jv_tree.specs.Source.{NoExpr, Argument}
use Rattle.jv_tree.specs.Source.{Stmt, Block, Empty, Local, Assign, If, IfElse, While, Do, Switch, Break, Continue, Return, Print, Eval}
use Rattle.jv_tree.specs.Source.{Stmts, NoStmt, Then, Groups, NoGroup, Group, Field, Method, Decl, ClassDecl, EnumDecl, File}

abbrev mutual
  pub depth : Expr → ℕ
  depth (Int p z) = 1
  depth (Truth p b) = 1
  depth (Text p t) = 1
  depth (Null p) = 1
  depth (This p) = 1
  depth (Variable p n) = 1
  depth (Member p e n) = suc (depth e)
  depth (Neg p e) = suc (depth e)
  depth (Not p e) = suc (depth e)
  depth (Binary p o l r) = suc (max (depth l) (depth r))
  depth (Call p n args) = suc (depth_of_args args)
  depth (MethodCall p e n args) = suc (max (depth e) (depth_of_args args))
  depth (New p n) = 1

  pub depth_of_args : Exprs → ℕ
  depth_of_args NoExpr = 0
  depth_of_args (Argument e more) = max (depth e) (depth_of_args more)

abbrev pub depth_of_value : Option Expr → ℕ
depth_of_value None = 0
depth_of_value (Some e) = depth e

abbrev mutual
  pub depth_of_stmt : Stmt → ℕ
  depth_of_stmt (Block p body end) = suc (depth_of_stmts body)
  depth_of_stmt (Empty p) = 1
  depth_of_stmt (Local p ty n e) = suc (depth e)
  depth_of_stmt (Assign p target value) = suc (max (depth target) (depth value))
  depth_of_stmt (If p c s) = suc (max (depth c) (depth_of_stmt s))
  depth_of_stmt (IfElse p c s r) = suc (max (depth c) (max (depth_of_stmt s) (depth_of_stmt r)))
  depth_of_stmt (While p l c s) = suc (max (depth c) (depth_of_stmt s))
  depth_of_stmt (Do p l s c) = suc (max (depth_of_stmt s) (depth c))
  depth_of_stmt (Switch p e groups end) = suc (max (depth e) (depth_of_groups groups))
  depth_of_stmt (Break p l) = 1
  depth_of_stmt (Continue p l) = 1
  depth_of_stmt (Return p value) = suc (depth_of_value value)
  depth_of_stmt (Print p e) = suc (depth e)
  depth_of_stmt (Eval p e) = suc (depth e)

  pub depth_of_stmts : Stmts → ℕ
  depth_of_stmts NoStmt = 0
  depth_of_stmts (Then s more) = max (depth_of_stmt s) (depth_of_stmts more)

  pub depth_of_groups : Groups → ℕ
  depth_of_groups NoGroup = 0
  depth_of_groups (Group labels body end more) = max (depth_of_stmts body) (depth_of_groups more)

abbrev pub depth_of_fields : List Field → ℕ
depth_of_fields [] = 0
depth_of_fields (f ∷ fs) = max (depth_of_value f.value) (depth_of_fields fs)

abbrev pub depth_of_methods : List Method → ℕ
depth_of_methods [] = 0
depth_of_methods (m ∷ ms) = max (depth_of_stmts m.body) (depth_of_methods ms)

abbrev pub depth_of_decl : Decl → ℕ
depth_of_decl (ClassDecl c) = max (depth_of_fields c.fields) (depth_of_methods c.methods)
depth_of_decl (EnumDecl e) = 0

abbrev pub depth_of_file : File → ℕ
depth_of_file [] = 0
depth_of_file (d ∷ ds) = max (depth_of_decl d) (depth_of_file ds)
