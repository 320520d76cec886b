-- What the grammar fixes of the trees of sources, beside their shape: where `void` and `String[]` stand.
use Rattle.std.specs.Prelude.{◌≡◌, ◌≢◌, List, [], true, codes}
use Rattle.std.specs.List.{AllByRecursion}
use Rattle.ts_tree.specs.declared.parts.TypeName.{TypeName}
use Rattle.ts_tree.specs.declared.parts.TypeName.TheVariants as written
use Rattle.jv_tree.specs.Source.{Stmt, Block, Empty, Local, Assign, If, IfElse, While, Do, Switch, Break, Continue, Return, Print, Eval}
use Rattle.jv_tree.specs.Source.{Stmts, NoStmt, Then, Groups, NoGroup, Group, Method, Class}
use Rattle.jv_meaning.specs.Program.{classes_of}
use Rattle.jv_rules.specs.Program.{Program}

-- `void` is the type of a result alone
abbrev pub IsOfValues : TypeName → Type 0
IsOfValues ty = ty ≢ written.Void

abbrev mutual
  -- no local of a statement is of type void
  pub DeclaresValues : Stmt → Type 0
  DeclaresValues (Block p body end) = AllDeclareValues body
  DeclaresValues (Local p ty name e) = IsOfValues ty
  DeclaresValues (If p c s) = DeclaresValues s
  DeclaresValues (IfElse p c s r) = DeclaresValues s × DeclaresValues r
  DeclaresValues (While p label c s) = DeclaresValues s
  DeclaresValues (Do p label s c) = DeclaresValues s
  DeclaresValues (Switch p e groups end) = GroupsDeclareValues groups
  DeclaresValues _ = Unit {0}

  pub AllDeclareValues : Stmts → Type 0
  AllDeclareValues NoStmt = Unit {0}
  AllDeclareValues (Then s more) = DeclaresValues s × AllDeclareValues more

  pub GroupsDeclareValues : Groups → Type 0
  GroupsDeclareValues NoGroup = Unit {0}
  GroupsDeclareValues (Group labels body end more) = AllDeclareValues body × GroupsDeclareValues more

-- `static void main(String[] x)`
pub record IsMain (m : Method) : Type 0 where
  pub is_static : m.is_static ≡ true
  pub result : m.result ≡ written.Void
  pub name : m.name ≡ codes "main"
  pub params : m.params ≡ []

pub record IsShapedMethod (m : Method) : Type 0 where
  -- a `String[]` stands in `main` alone
  pub main : m.takes_args ≡ true → IsMain m
  pub params : AllByRecursion (λ p. IsOfValues p.ty) m.params
  pub body : AllDeclareValues m.body

pub record IsShapedClass (c : Class) : Type 0 where
  pub fields : AllByRecursion (λ f. IsOfValues f.ty) c.fields
  pub methods : AllByRecursion IsShapedMethod c.methods

-- each class is as the grammar has it
abbrev pub IsShaped : Program → Type 0
IsShaped program = AllByRecursion IsShapedClass (classes_of program.files)
