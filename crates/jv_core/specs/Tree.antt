-- Resolved programs as trees, with all their places, and without where their parts lie in memory.
use Rattle.std.specs.Prelude.{ℕ, ℤ, List, Bool, Option}
use Rattle.mg_text.specs.Call.{Name}
use Rattle.mg_text.specs.declared.place.Place.{Place}
use Rattle.ts_tree.specs.Typestate.{Typestate}
use Rattle.jv_tree.specs.declared.tree.Op.{Op}
use Rattle.jv_core.specs.declared.tree.Var.{Var}
use Rattle.jv_core.specs.declared.tree.CoreVar.{CoreVar}
use Rattle.jv_tree.specs.declared.built_in.SessionCall.{SessionCall}
use Rattle.jv_core.specs.declared.program.CoreType.{CoreType}
use Rattle.jv_core.specs.declared.program.MethodKind.{MethodKind}

mutual
  -- an expression, with its place first
  pub data Expr : Type 0 where
    Int : Place → ℤ → Expr
    Truth : Place → Bool → Expr
    Text : Place → List ℕ → Expr
    Null : Place → Expr
    Variable : Place → Var → Expr
    Constant : Place → (enum position : ℕ) → Expr
    Neg : Place → Expr → Expr
    Not : Place → Expr → Expr
    Binary : Place → Op → Expr → Expr → Expr
    Protocol : Place → (receiver : CoreVar) → (method : ℕ) → Exprs → Expr
    Helper : Place → (method : ℕ) → Exprs → Expr
    Static : Place → (method : ℕ) → Exprs → Expr
    Equals : Place → Expr → Expr → Expr
    Concat : Place → Expr → Expr → Expr
    Session : Place → SessionCall → Exprs → Expr
    New : Place → (class : ℕ) → Expr

  -- arguments
  pub data Exprs : Type 0 where
    NoExpr : Exprs
    Argument : Expr → Exprs → Exprs

mutual
  -- a statement, with its place first
  pub data Stmt : Type 0 where
    Block : Place → Stmts → (end : Place) → Stmt
    Empty : Place → Stmt
    -- a declaration that stands alone, as a branch or the body of a loop: nothing is in its scope
    Local : Place → (slot : ℕ) → Expr → Stmt
    Assign : Place → (target : CoreVar) → (value : Expr) → Stmt
    If : Place → Expr → Stmt → Stmt
    IfElse : Place → Expr → Stmt → Stmt → Stmt
    While : Place → (loop : ℕ) → Expr → Stmt → Stmt
    Do : Place → (loop : ℕ) → Stmt → Expr → Stmt
    Switch : Place → Expr → Groups → (end : Place) → Stmt
    Break : Place → (loop : Option ℕ) → Stmt
    Continue : Place → (loop : ℕ) → Stmt
    Return : Place → Option Expr → Stmt
    Print : Place → Expr → Stmt
    Eval : Place → Expr → Stmt

  pub data Stmts : Type 0 where
    NoStmt : Stmts
    Then : Stmt → Stmts → Stmts
    -- a declaration, and the statements in its scope: those behind it in its block or group
    Declare : Place → (slot : ℕ) → Expr → (scope : Stmts) → Stmts

  -- the groups of a switch: labels, where none is `default`, statements, and the place after them
  pub data Groups : Type 0 where
    NoGroup : Groups
    Group : List (Option ℕ) → Stmts → (end : Place) → Groups → Groups

-- Names stand in a program by their numbers in its table of names.

pub record Field : Type 0 where
  pub name : ℕ
  pub ty : CoreType
  pub value : Option Expr

pub record Class : Type 0 where
  pub place : Place
  pub name : ℕ
  pub typestate : Option ℕ
  pub fields : List Field
  pub methods : List ℕ

pub record Enum : Type 0 where
  pub name : ℕ
  pub constants : List ℕ

pub record Slot : Type 0 where
  pub name : ℕ
  pub ty : CoreType

pub record Loop : Type 0 where
  pub place : Place
  pub scope : List ℕ

pub record Method : Type 0 where
  pub place : Place
  pub end : Place
  pub class : ℕ
  pub name : ℕ
  pub kind : MethodKind
  pub result : CoreType
  pub params : ℕ
  pub slots : List Slot
  pub loops : List Loop
  pub body : Stmts

pub record Program : Type 0 where
  pub classes : List Class
  pub enums : List Enum
  pub methods : List Method
  pub typestates : List Typestate
  pub names : List Name
