-- What the grammar fixes of assignments: a name, or a field of `this`, is assigned.
use Rattle.std.specs.Prelude.{◌≡◌, true}
use Rattle.std.specs.List.{AllByRecursion}
use Rattle.jv_tree.specs.Source.{Stmt, Block, Assign, If, IfElse, While, Do, Switch}
use Rattle.jv_tree.specs.Source.{Stmts, NoStmt, Then, Groups, NoGroup, Group, Class}
use Rattle.jv_meaning.specs.Program.{classes_of}
use Rattle.jv_rules.specs.Program.{Program}
use Rattle.jv_rules.specs.Scope.{is_variable}

abbrev mutual
  -- each assignment in a statement is to a variable
  pub AssignsVariables : Stmt → Type 0
  AssignsVariables (Block p body end) = AllAssignVariables body
  AssignsVariables (Assign p target value) = is_variable target ≡ true
  AssignsVariables (If p c s) = AssignsVariables s
  AssignsVariables (IfElse p c s r) = AssignsVariables s × AssignsVariables r
  AssignsVariables (While p label c s) = AssignsVariables s
  AssignsVariables (Do p label s c) = AssignsVariables s
  AssignsVariables (Switch p e groups end) = GroupsAssignVariables groups
  AssignsVariables _ = Unit {0}

  pub AllAssignVariables : Stmts → Type 0
  AllAssignVariables NoStmt = Unit {0}
  AllAssignVariables (Then s more) = AssignsVariables s × AllAssignVariables more

  pub GroupsAssignVariables : Groups → Type 0
  GroupsAssignVariables NoGroup = Unit {0}
  GroupsAssignVariables (Group labels body end more) = AllAssignVariables body × GroupsAssignVariables more

-- each assignment in a class is to a variable
abbrev pub ClassAssignsVariables : Class → Type 0
ClassAssignsVariables c = AllByRecursion (λ m. AllAssignVariables m.body) c.methods

-- each assignment of a program is to a variable
abbrev pub OnlyVariablesAreAssigned : Program → Type 0
OnlyVariablesAreAssigned program = AllByRecursion ClassAssignsVariables (classes_of program.files)
