-- Which files fit a global protocol, run by which roles; and the first refusal of those that don't.
use Rattle.std.specs.Prelude.{List, Some, None}
use Rattle.mg_read.specs.First.{FirstOf}
use Rattle.scr_tree.specs.Tree.{LocalTree}
use Rattle.scr_global_tree.specs.Tree.{GlobalTree}
use Rattle.scr_global_read.specs.Outcome as reads
use Rattle.scr_project.specs.Laws.{AreProjected}
use Rattle.jv_core.specs.Tree as Core
use Rattle.vm_world_law.specs.declared.role.RoleMain.{RoleMain}
use Rattle.mg_refusal.specs.Refusals.{Refusal}
use Rattle.mg_sources.specs.Files.{Source}
use Rattle.mg_sources.specs.Reading.{Part, EachSpells}
use Rattle.mg_accepted.specs.Accepted.{AreAccepted}
use Rattle.mg_fits.specs.Conditions.{Condition, conditions, Of}

-- The file of a global protocol has projections for all its roles, the other files are accepted, and no condition of fitting is at fault.
pub record Fits (global : Source) (files : List Source) (mains : List RoleMain) (core : Core.Program) : Type 0 where
  pub tree : GlobalTree
  pub reads : reads.Outcome global.number global.bytes (reads.Protocol tree)
  pub locals : Rattle.mg_text.specs.Call.Name → LocalTree
  pub projected : AreProjected tree locals
  pub accepted : AreAccepted files core
  pub parts : List Part
  pub spell : EachSpells files parts
  pub clean : FirstOf (Of tree parts core mains) conditions None

-- Of those that have all that but meet not all conditions, the first refusal: by the condition that is the first at fault.
pub record IsUnfit (global : GlobalTree) (files : List Source) (mains : List RoleMain) (core : Core.Program) (r : Refusal) :
    Type 0
  where
    pub parts : List Part
    pub spell : EachSpells files parts
    pub condition : Condition
    pub first : FirstOf (Of global parts core mains) conditions (Some (condition, r))
