-- What typings promise of commands: of runs of class files as they are, and of class files that are written of sources.
use Rattle.std.specs.Prelude.{◌≡◌, ◌≢◌, ℕ, List, map, Some, slice_get}
use Rattle.mg_text.specs.declared.event.BadKind.{BadKind}
use Rattle.mg_text.specs.declared.event.Ending.TheVariants as endings
use Rattle.vm_model.specs.Program.{Program}
use Rattle.cls_verify.specs.Typing.{AllTypable}
use Rattle.vm_world_law.specs.World.{Over, Role, World, turns}
use Rattle.mg_compile.specs.declared.files.ClassFile.{ClassFile}
use Rattle.mg_runs.specs.Runs.{IsLoaded}
use Rattle.mg_exec.specs.Runs.{Course}

-- no role has ended because its code is wrong
abbrev pub NoneIsBad : World → Type 0
NoneIsBad w = (r : ℕ) (role : Role) → slice_get w.roles r ≡ Some role → (kind : BadKind) → role.state ≢ Over (endings.Bad kind)

-- No role of a run of class files ends so: where the run stops, and from its beginning whatever turns are taken.
pub record NeverBad (run : Course) : Type 0 where
  pub at_stop : NoneIsBad run.last
  pub ever : (taken : List ℕ) → NoneIsBad (turns run.program run.first taken)

-- The bytes of these class files are read back and link to a program each of whose methods has a typing.
pub record LinkTypable (written : List ClassFile) : Type 0 where
  pub program : Program
  pub loaded : IsLoaded (map (λ f. f.bytes) written) program
  pub typable : AllTypable program
