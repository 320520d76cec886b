-- What is asked, and what is answered: the first refusal by the conditions of fitting, or none.
use Rattle.std.specs.Prelude.{List, [], ◌∷◌, Option, Some, None}
use Rattle.mg_text.specs.Call.{Name}
use Rattle.mg_read.specs.First.{FirstOf}
use Rattle.scr_tree.specs.Tree.{LocalTree}
use Rattle.scr_global_tree.specs.Tree.{GlobalTree}
use Rattle.scr_project.specs.Outcome as projects
use Rattle.jv_core.specs.Tree.{Program}
use Rattle.vm_world_law.specs.declared.role.RoleMain.{RoleMain}
use Rattle.mg_refusal.specs.Refusals.{Refusal}
use Rattle.mg_sources.specs.Reading.{Part}
use Rattle.mg_fits.specs.Conditions.{Condition, conditions, Of}

-- the projections of these roles, in their order
abbrev pub AreProjectionsOf : GlobalTree → List Name → List LocalTree → Type 0
AreProjectionsOf g [] [] = Unit {0}
AreProjectionsOf g (role ∷ roles) (local ∷ locals) = projects.Outcome g role (projects.Protocol local) × AreProjectionsOf g roles locals
AreProjectionsOf g _ _ = ⊥

-- of all roles of the header
abbrev pub AreProjections : GlobalTree → List LocalTree → Type 0
AreProjections g = AreProjectionsOf g g.roles

module _ (global : GlobalTree) (parts : List Part) (core : Program) (mains : List RoleMain) where
  -- of some conditions the first that is at fault refuses so, or none is
  abbrev pub IsFirstOf : List Condition → Option Refusal → Type 0
  IsFirstOf some None = FirstOf (Of global parts core mains) some None
  IsFirstOf some (Some r) = (condition : Condition) × FirstOf (Of global parts core mains) some (Some (condition, r))

  abbrev pub IsVerdict : Option Refusal → Type 0
  IsVerdict = IsFirstOf conditions
