-- Worlds of programs whose methods are all typable: no role ends badly, whatever turns are taken.
use Rattle.std.specs.Prelude.{◌≡◌, ℕ, List, Some, slice_get}
use Rattle.mg_text.specs.declared.event.BadKind.{BadKind}
use Rattle.mg_text.specs.declared.event.Ending.TheVariants as endings
use Rattle.vm_model.specs.Program.{Program}
use Rattle.cls_verify.specs.Typing.{AllTypable}
use Rattle.vm_world_law.specs.declared.role.RoleMain.{RoleMain}
use Rattle.vm_world_law.specs.World.{Role, Over, World, IsBegun, turns}

abbrev pub TypableWorldsNeverBad : Type 0
TypableWorldsNeverBad = (p : Program) → AllTypable p → (mains : List RoleMain) (first : World) → IsBegun p mains first →
    (picks : List ℕ) (r : ℕ) (role : Role) → slice_get (turns p first picks).roles r ≡ Some role →
    (kind : BadKind) → role.state ≡ Over (endings.Bad kind) → ⊥
