-- For private clauses: the run of a program, and what is shown of it.
use Rattle.std.specs.Prelude.{ℕ, List, [], Bool, if◌then◌else◌}
use Rattle.mg_text.specs.Call.{Name}
use Rattle.vm_model.specs.Program.{Program}
use Rattle.vm_world_law.specs.declared.role.RoleEvent.{RoleEvent}
use Rattle.vm_world_law.specs.declared.role.RoleMain.{RoleMain}
use Rattle.vm_world_law.specs.World.{World, IsBegun}
use Rattle.vm_world_law.specs.Turns as turning
use Rattle.mg_trace.specs.Trace.{plain_trace}
use Rattle.mg_exec.specs.declared.ran.Ran.{Ran}
use Rattle.mg_exec.specs.View.{Shows}

-- what is told of these events, where that is asked for
abbrev pub told : (names : List Name) → List RoleEvent → (traced : Bool) → List ℕ
told names events traced = if traced then plain_trace names events else []

-- a run of a program, and what is shown of it
pub record IsRunOf (program : Program) (mains : List RoleMain) (order : List ℕ) (limit : ℕ) (named traced : Bool) (ran : Ran) : Type 0 where
  pub first : World
  pub last : World
  pub begins : IsBegun program mains first
  pub runs : turning.IsRun program first order limit last
  pub shows : Shows mains named traced (record { program = program; first = first; last = last }) ran
