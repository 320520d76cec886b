-- For private clauses: a run of the class files of a core, and what is shown of it.
use Rattle.std.specs.Prelude.{ℕ, List, [], map, Bool, if◌then◌else◌}
use Rattle.mg_text.specs.Call.{Name}
use Rattle.jv_core.specs.Tree as Core
use Rattle.mg_compile.specs.declared.files.ClassFile.{ClassFile}
use Rattle.vm_model.specs.Program.{Program}
use Rattle.vm_world_law.specs.declared.role.RoleEvent.{RoleEvent}
use Rattle.vm_world_law.specs.declared.role.RoleMain.{RoleMain}
use Rattle.vm_world_law.specs.World.{World, IsBegun}
use Rattle.vm_world_law.specs.Turns as turning
use Rattle.mg_trace.specs.Trace.{trace}
use Rattle.mg_runs.specs.declared.ran.Ran.{Ran}
use Rattle.mg_runs.specs.Runs.{IsLoaded}
use Rattle.mg_runs.specs.View.{Shows}

-- what is told of these events, where that is asked for
abbrev pub told : Core.Program → (names : List Name) → List RoleEvent → (traced : Bool) → List ℕ
told core names events traced = if traced then trace core names events else []

-- a run of these class files, and what is shown of it
pub record IsRunOf (core : Core.Program) (written : List ClassFile) (mains : List RoleMain) (order : List ℕ) (limit : ℕ)
    (named traced : Bool) (ran : Ran) :
    Type 0 where
  pub program : Program
  pub first : World
  pub last : World
  pub loaded : IsLoaded (map (λ f. f.bytes) written) program
  pub begins : IsBegun program mains first
  pub runs : turning.IsRun program first order limit last
  pub shows : Shows mains named traced (record { core = core; written = written; program = program; first = first; last = last }) ran
