-- The law: roles that fit a global protocol never get stuck.
use Rattle.std.specs.Prelude.{◌≡◌, ◌≢◌, ℕ, List, Some, None, slice_get}
use Rattle.scr_global.specs.Tree.{said}
use Rattle.jv_core.specs.Tree as Core
use Rattle.jv_core.specs.Meaning.{main_of}
use Rattle.vm_model.specs.Program.{Program}
use Rattle.vm_world_law.specs.declared.role.RoleMain.{RoleMain}
use Rattle.vm_world_law.specs.World.{World, turns, IsBegun}
use Rattle.fit_law.specs.Fit.{AreMeant}
use Rattle.mg_sources.specs.Files.{Source}
use Rattle.mg_accepted.specs.Accepted.{AreAccepted}
use Rattle.mg_fits.specs.Fits.{Fits}
use Rattle.mg_fits.specs.Parts.{own_local}
use Rattle.mg_fits.specs.Promise.{NoRoleGetsStuck}

-- Whatever global protocol these accepted files fit, run by these roles, none of them gets stuck. The local protocols are the files' own.
abbrev pub NoRoleIsStuckWhereFit : (files : List Source) (core : Core.Program) → AreAccepted files core → List RoleMain → Program → World →
    Type 0
NoRoleIsStuckWhereFit files core accepted mains program first = (global : Source) (fits : Fits global files mains core) →
    NoRoleGetsStuck accepted.have.program.files fits.tree.roles (said fits.tree.body) (own_local fits.parts fits.locals) mains program first

-- So it is where each role begins at the `main` of its class, and after every list of turns each did what is meant.
abbrev pub RolesThatFit : Type 0
RolesThatFit = (files : List Source) (core : Core.Program) (accepted : AreAccepted files core) (mains : List RoleMain) →
    ((r : ℕ) (main : RoleMain) → slice_get mains r ≡ Some main → main_of core main.class ≢ None) →
    (program : Program) (first : World) → IsBegun program mains first →
    ((taken : List ℕ) → AreMeant accepted.have.program.files mains program (turns program first taken)) →
    NoRoleIsStuckWhereFit files core accepted mains program first
