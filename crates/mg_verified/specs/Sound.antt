-- What is known of the runs of files whose methods all have typings.
use Rattle.std.specs.Prelude.{◌≡◌, ℕ, List, Some, slice_get}
use Rattle.mg_text.specs.declared.event.BadKind.{BadKind}
use Rattle.mg_text.specs.declared.event.Ending.TheVariants as endings
use Rattle.vm_model.specs.Program.{Program}
use Rattle.vm_world_law.specs.declared.role.RoleMain.{RoleMain}
use Rattle.vm_world_law.specs.World.{Role, Over, World, IsBegun, turns}
use Rattle.mg_sources.specs.Files.{Source}
use Rattle.mg_exec.specs.Runs.{IsProgram}

-- in a world of the program that they link to no role ends badly, whatever turns are taken
abbrev pub NeverEndBadly : List Source → Type 0
NeverEndBadly files = (program : Program) → IsProgram files program → (mains : List RoleMain) (first : World) →
    IsBegun program mains first → (picks : List ℕ) (r : ℕ) (role : Role) → slice_get (turns program first picks).roles r ≡ Some role →
    (kind : BadKind) → role.state ≡ Over (endings.Bad kind) → ⊥
