-- Worlds of programs whose methods have typings, with the flat form of the program.
use Rattle.std.specs.Prelude.{List, Option, IfSome}
use Rattle.std.specs.List.{AllByRecursion}
use Rattle.vm_model.specs.Program.{Program}
use Rattle.cls_verify.specs.Typing.{AllTypable}
use Rattle.cls_verify.specs.Sound.{Sound}
use Rattle.vm_flat.specs.declared.program.FlatProgram.{FlatProgram}
use Rattle.vm_flat.specs.Flat.{IsFlatOf}
use Rattle.vm_world_law.specs.World.{State, Runs, Over, Role}

-- a machine that runs fits its typings
abbrev pub StateSuits : Program → State → Type 0
StateSuits p (Runs m) = Sound p m
StateSuits p (Over ending) = Unit {0}

abbrev pub RoleSuits : Program → Role → Type 0
RoleSuits p role = StateSuits p role.state

-- this is the flat form of the program, and each of its methods has a typing
pub record IsTyped (p : Program) (flat : FlatProgram) : Type 0 where
  pub flat_is : IsFlatOf flat p
  pub typable : AllTypable p

-- the same, and the machine of each role fits the typings
pub record Suits (p : Program) (roles : List Role) (flat : FlatProgram) : Type 0 where
  pub typed : IsTyped p flat
  pub roles_suit : AllByRecursion (RoleSuits p) roles

-- where there is a flat form
abbrev pub SuitsWhereFlat : Program → List Role → Option FlatProgram → Type 0
SuitsWhereFlat p roles flat = IfSome flat (Suits p roles)
