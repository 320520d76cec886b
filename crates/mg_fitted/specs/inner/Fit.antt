-- For private clauses: files that meet all conditions of fitting.
use Rattle.std.specs.Prelude.{List, None}
use Rattle.mg_read.specs.First.{FirstOf}
use Rattle.scr_global_tree.specs.Tree.{GlobalTree}
use Rattle.jv_core.specs.Tree as Core
use Rattle.vm_world_law.specs.declared.role.RoleMain.{RoleMain}
use Rattle.mg_sources.specs.Files.{Source}
use Rattle.mg_sources.specs.Reading.{Part, EachSpells}
use Rattle.mg_fits.specs.Conditions.{conditions, Of}

pub record IsFit (global : GlobalTree) (files : List Source) (mains : List RoleMain) (core : Core.Program) : Type 0 where
  pub parts : List Part
  pub spell : EachSpells files parts
  pub clean : FirstOf (Of global parts core mains) conditions None
