-- Whatever roles run the classes: each does what is meant, and takes what was sent to it.
use Rattle.std.proofs.Common.{◌≡◌, ◌≢◌, ◌<◌, ℕ, zero, suc, List, [], ◌∷◌, length, map, None, Some, slice_get, sym, ap, ◌∙◌, subst}
use Rattle.jv_core.specs.Tree as Core
use Rattle.jv_core.specs.Meaning.{main_of}
use Rattle.jv_meaning.specs.Meaning.{mean}
use Rattle.vm_model.specs.Program.{Program}
use Rattle.vm_model.specs.Messages.{no_messages}
use Rattle.vm_world_law.specs.declared.role.RoleMain.{RoleMain}
use Rattle.vm_world_law.specs.World.{Role, World, turns, IsBegun, IsFresh}
use Rattle.vm_world_law.specs.Laws.{BegunIsFresh, TurnsDeliver, OrderIsFreeFrom}
use Rattle.vm_world_law.specs.Turns as turning
use Rattle.vm_world_law.proofs.Lists.{got_within, get_within}
use Rattle.vm_world_law.proofs.Alone.{kept_by}
use Rattle.vm_world_law.proofs.Begun.{begun_is_fresh}
use Rattle.vm_world_law.proofs.Order.{order_is_free}
use Rattle.vm_world_law.proofs.Once.{begun_many, turns_long}
use Rattle.vm_world_law.specs.Worlds.{IsMeant, WorldsAreMeant}
use Rattle.mg_sources.specs.Files.{Source}
use Rattle.mg_accepted.specs.Program.{HaveCore}
use Rattle.mg_compile.specs.declared.files.ClassFile.{ClassFile}
use Rattle.mg_compile.specs.Files.{AreClassFiles}
use Rattle.mg_runs.specs.Runs.{IsLoaded, HaveMains, names_of}
use Rattle.mg_runs.specs.Headline.{AreMeant, DoAsMeant}
use Rattle.mg_runs.specs.Laws.{RunsAreMeant, RolesAreMeant}
use Rattle.mg_runs.proofs.Sound.{does_as_meant}

-- the class of the role of a number has a `main`
pub main_at : (core : Core.Program) (mains : List RoleMain) → HaveMains core mains → (r : ℕ) (main : RoleMain) →
    slice_get mains r ≡ Some main →
    main_of core main.class ≢ None
main_at core [] h r main at = absurd (cc at)
main_at core (x ∷ mains) h zero main at = let e : x ≡ main = cc in subst (λ (m : RoleMain). main_of core m.class ≢ None) e h.0
main_at core (x ∷ mains) h (suc r) main at = main_at core mains h.1 r main at

module _ (law : RunsAreMeant) (begun : BegunIsFresh) (deliver : TurnsDeliver) (worlds : WorldsAreMeant) (files : List Source)
    (core : Core.Program)
    (written : List ClassFile) (have : HaveCore files core) (made : AreClassFiles core written) (mains : List RoleMain)
    (found : HaveMains core mains)
    (program : Program) (loaded : IsLoaded (map (λ f. f.bytes) written) program) where
  do_as_meant : DoAsMeant have.program mains program
  do_as_meant r main at start starts = does_as_meant law files core written have made program loaded main.class
      (main_at core mains found r main at) r start starts

  module _ (first : World) (begins : IsBegun program mains first) (taken : List ℕ) where
    fresh : IsFresh first
    fresh = (begun program mains first begins).0

    many : length (turns program first taken).roles ≡ length mains
    many = turns_long program first taken ∙ begun_many program mains first.roles begins.roles

    each : (r : ℕ) (main : RoleMain) → slice_get mains r ≡ Some main →
        (role : Role) × (slice_get (turns program first taken).roles r ≡ Some role)
        × IsMeant program (mean have.program.files main.class) (turns program first taken) r role
    each r main at =
        let begin = (begun program mains first begins).1 r main at in
        let (role, there) = get_within (turns program first taken).roles r (subst (λ n. r < n) (sym many) (got_within mains r main at)) in (
          role,
          there,
          worlds program first fresh taken r begin.start role begin.role there (mean have.program.files main.class)
              (do_as_meant r main at begin.start begin.starts),
        )

    are_meant : AreMeant have.program mains program (turns program first taken)
    are_meant = record { delivers = deliver program first fresh taken; each = each }

pub roles_law : RunsAreMeant → BegunIsFresh → TurnsDeliver → WorldsAreMeant → RolesAreMeant
roles_law law begun deliver worlds files core written have made mains found program loaded = (
  do_as_meant law begun deliver worlds files core written have made mains found program loaded,
  λ first begins taken. are_meant law begun deliver worlds files core written have made mains found program loaded first begins taken,
)

-- turn orders don't matter to roles that begin
pub any_order : (p : Program) (mains : List RoleMain) (first : World) → IsBegun p mains first → OrderIsFreeFrom p first
any_order p mains first begins = order_is_free p first (begun_is_fresh p mains first begins).0

-- the roles keep their names
pub names_stay : (p : Program) (mains : List RoleMain) (first : World) (order : List ℕ) (limit : ℕ) (last : World) → IsBegun p mains first →
    turning.IsRun p first order limit last → last.messages.roles ≡ names_of mains
names_stay p mains first order limit last begins run =
    let fresh = (begun_is_fresh p mains first begins).0 in
    let kept = kept_by p first fresh (turning.first_turns order run.taken) in
    ap (λ (w : World). w.messages.roles) run.is ∙ kept.names ∙ ap (λ (q : Rattle.vm_model.specs.Messages.Messages). q.roles) begins.messages
