-- Java sources as trees, with all their places, and without where their parts lie in memory.
use Rattle.std.specs.Prelude.{ℕ, ℤ, List, Bool, Option}
use Rattle.mg_text.specs.Call.{Name}
use Rattle.mg_text.specs.declared.place.Place.{Place}
use Rattle.ts_tree.specs.declared.parts.TypeName.{TypeName}
use Rattle.jv_tree.specs.declared.tree.Op.{Op}
use Rattle.jv_tree.specs.declared.tree.Param.{Param}

mutual
  -- an expression, with its place first
  pub data Expr : Type 0 where
    Int : Place → ℤ → Expr
    Truth : Place → Bool → Expr
    Text : Place → List ℕ → Expr
    Null : Place → Expr
    This : Place → Expr
    Variable : Place → Name → Expr
    Member : Place → Expr → Name → Expr
    Neg : Place → Expr → Expr
    Not : Place → Expr → Expr
    Binary : Place → Op → Expr → Expr → Expr
    Call : Place → Name → Exprs → Expr
    MethodCall : Place → Expr → Name → Exprs → Expr
    New : Place → Name → Expr

  -- arguments
  pub data Exprs : Type 0 where
    NoExpr : Exprs
    Argument : Expr → Exprs → Exprs

mutual
  -- a statement, with its place first
  pub data Stmt : Type 0 where
    Block : Place → Stmts → (end : Place) → Stmt
    Empty : Place → Stmt
    Local : Place → TypeName → Name → Expr → Stmt
    Assign : Place → (target value : Expr) → Stmt
    If : Place → Expr → Stmt → Stmt
    IfElse : Place → Expr → Stmt → Stmt → Stmt
    While : Place → (label : Option Name) → Expr → Stmt → Stmt
    Do : Place → (label : Option Name) → Stmt → Expr → Stmt
    Switch : Place → Expr → Groups → (end : Place) → Stmt
    Break : Place → Option Name → Stmt
    Continue : Place → Option Name → Stmt
    Return : Place → Option Expr → Stmt
    Print : Place → Expr → Stmt
    Eval : Place → Expr → Stmt

  pub data Stmts : Type 0 where
    NoStmt : Stmts
    Then : Stmt → Stmts → Stmts

  -- the groups of a switch: labels, where none is `default`, statements, and the place after them
  pub data Groups : Type 0 where
    NoGroup : Groups
    Group : List (Option Name) → Stmts → (end : Place) → Groups → Groups

pub record Field : Type 0 where
  pub place : Place
  pub ty : TypeName
  pub name : Name
  pub value : Option Expr

pub record Method : Type 0 where
  pub place : Place
  pub end : Place
  pub is_static : Bool
  pub result : TypeName
  pub name : Name
  pub params : List Param
  pub takes_args : Bool
  pub body : Stmts

pub record Class : Type 0 where
  pub place : Place
  pub name : Name
  pub typestate : Option (List ℕ)
  pub fields : List Field
  pub methods : List Method

pub record Enum : Type 0 where
  pub place : Place
  pub name : Name
  pub constants : List Name

pub data Decl : Type 0 where
  ClassDecl : Class → Decl
  EnumDecl : Enum → Decl

-- the declarations of a file
abbrev pub File : Type 0
File = List Decl

-- where an expression stands
abbrev pub place_of : Expr → Place
place_of (Int p z) = p
place_of (Truth p b) = p
place_of (Text p t) = p
place_of (Null p) = p
place_of (This p) = p
place_of (Variable p n) = p
place_of (Member p e n) = p
place_of (Neg p e) = p
place_of (Not p e) = p
place_of (Binary p o l r) = p
place_of (Call p n args) = p
place_of (MethodCall p e n args) = p
place_of (New p n) = p
