-- Roles that fit a global protocol: in no run does one of them get stuck.
use Rattle.std.specs.Prelude.{◌≡◌, ◌≢◌, ℕ, List, map}
use Rattle.scr_global.specs.Tree.{said}
use Rattle.jv_core.specs.Tree as Core
use Rattle.vm_model.specs.Program.{Program}
use Rattle.vm_world_law.specs.declared.role.RoleMain.{RoleMain}
use Rattle.vm_world_law.specs.World.{World}
use Rattle.vm_world_law.specs.Turns.{stands_in}
use Rattle.mg_sources.specs.Files.{Source}
use Rattle.mg_accepted.specs.Accepted.{AreAccepted}
use Rattle.mg_compile.specs.declared.files.ClassFile.{ClassFile}
use Rattle.mg_compile.specs.Files.{AreClassFiles}
use Rattle.mg_fits.specs.Fits.{Fits}
use Rattle.mg_fits.specs.Parts.{own_local}
use Rattle.mg_fits.specs.Promise.{NoRoleGetsStuck}
use Rattle.mg_fitted.specs.Fitted.{AreFitted}
use Rattle.mg_runs.specs.Headline.{Course, IsCourse}
use Rattle.mg_exec.specs.Runs as executing
use Rattle.mg_delivery.specs.declared.status.Status.TheVariants as statuses
use Rattle.mg_top.specs.Statuses.{status_of}

-- The accepted files fit the global protocol, run by these roles, and none of the roles of this run of their program ever gets stuck. The
-- local protocols are the files' own.
pub record NoRoleIsStuckIn (global : Source) (files : List Source) (mains : List RoleMain) (core : Core.Program)
    (accepted : AreAccepted files core) (program : Program) (first last : World) : Type 0
  where
    pub fits : Fits global files mains core
    pub none : NoRoleGetsStuck accepted.have.program.files fits.tree.roles (said fits.tree.body) (own_local fits.parts fits.locals) mains
        program first
    -- the status that the run has isn't that of a message which wasn't the next, or of a role that isn't there
    pub no_mismatch : status_of (stands_in program last) ≢ statuses.Mismatch
    -- nor that of roles of which one waits and none can go on
    pub no_wait : status_of (stands_in program last) ≢ statuses.Waits

-- so it is in every course of these roles, in whatever order they take turns, and up to whatever limit
abbrev pub NoRunGetsStuck : Source → List Source → List RoleMain → Type 0
NoRunGetsStuck global files mains = (order : List ℕ) (limit : ℕ) (run : Course) (is : IsCourse files mains order limit run) →
    NoRoleIsStuckIn global files mains run.core is.accepted run.program run.first run.last

-- and where the class files that are written of them are run as they are
abbrev pub NoExecGetsStuck : Source → List Source → List RoleMain → Type 0
NoExecGetsStuck global files mains = (core : Core.Program) (accepted : AreAccepted files core) (written : List ClassFile) →
    AreClassFiles core written → (classes : List Source) → map (λ s. s.bytes) classes ≡ map (λ f. f.bytes) written →
    (order : List ℕ) (limit : ℕ) (run : executing.Course) → executing.IsRun classes mains order limit run →
    NoRoleIsStuckIn global files mains core accepted run.program run.first run.last

-- Where files fit a global protocol, in no run of them does a role get stuck.
abbrev pub FitNeverSticks : Type 0
FitNeverSticks = (global : Source) (files : List Source) (mains : List RoleMain) → AreFitted global files mains →
    NoRunGetsStuck global files mains × NoExecGetsStuck global files mains
