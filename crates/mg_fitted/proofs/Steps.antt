-- What each step of the work answers, as an answer of the whole.
use Rattle.std.proofs.Common.{◌≡◌, ℕ, zero, suc, List, [], ◌∷◌, map, Contains, Some, None, Result, Ok, Err, refl, sym, subst, arith}
use Rattle.mg_text.specs.Call.{Name}
use Rattle.mg_text.specs.Row.{Row}
use Rattle.mg_read.proofs.Judging.{no_both}
use Rattle.scr_tree.specs.Tree.{LocalTree}
use Rattle.scr_global_tree.specs.Tree.{GlobalTree}
use Rattle.scr_project.specs.Outcome as projects
use Rattle.jv_core.specs.Tree as Core
use Rattle.vm_world_law.specs.declared.role.RoleMain.{RoleMain}
use Rattle.mg_refusal.specs.Refusals.{Refusal}
use Rattle.mg_refusal.specs.Order.{Answers, at_first, at_next}
use Rattle.mg_refusal.specs.declared.stop.Stop.{Stop}
use Rattle.mg_refusal.specs.declared.stop.Stop.TheVariants as stops
use Rattle.mg_sources.specs.Files.{Source, source_of}
use Rattle.mg_sources.specs.Reading.{Part, EachSpells, Refuses}
use Rattle.mg_sources.proofs.Together.{none_refused_of}
use Rattle.mg_read.specs.First.{Judged}
use Rattle.mg_accepted.specs.Accepted.{AreAccepted}
use Rattle.mg_accepted.specs.Accepted as accepted
use Rattle.mg_compile.specs.declared.files.ClassFile.{ClassFile}
use Rattle.mg_compile.specs.Files.{AreClassFiles}
use Rattle.mg_compile.specs.Compiled.{ExcessRefusal}
use Rattle.mg_projected.specs.Told.{AreLocals}
use Rattle.mg_projected.specs.Told as projecting
use Rattle.mg_runs.specs.Runs.{HaveMains}
use Rattle.mg_runs.specs.Commanded as running
use Rattle.mg_fits.specs.Fits.{IsUnfit}
use Rattle.fit_judge.specs.Verdict.{AreProjectionsOf, AreProjections, IsVerdict}
use Rattle.mg_fitted.specs.Fitted.{CanRun, AreFitted, FirstRefusal}
use Rattle.mg_fitted.specs.inner.Fit.{IsFit}

-- a size is too large
pub run_exceeded : (files : List Source) (mains : List RoleMain) (core : Core.Program) (stop : Stop) → AreAccepted files core →
    HaveMains core mains → Answers (λ (written : Row ClassFile). AreClassFiles core written.items) (ExcessRefusal core) (Err stop) →
    Answers (λ (done : Unit {0}). CanRun files mains core) (running.FirstRefusal files mains) (Err stop)
run_exceeded files mains core (stops.Refused r) a have h = at_next core a (at_next tt have h)
run_exceeded files mains core stops.Memory a have h = tt

module _ (global : Source) (files : List Source) (mains : List RoleMain) where
  abbrev Answer : Result (Unit {0}) Stop → Type 0
  Answer = Answers (λ (done : Unit {0}). AreFitted global files mains) (FirstRefusal global files mains)

  unprojected : {A : Type 0} (Right : A → Type 0) (stop : Stop) → Answers Right (projecting.FirstRefusal (global ∷ [])) (Err stop) →
      Answer (Err stop)
  unprojected Right (stops.Refused r) h = at_first h
  unprojected Right stops.Memory h = tt

  module _ (tree : GlobalTree) (locals : List LocalTree) (are : AreLocals global tree locals) where
    pub unaccepted : {A : Type 0} (Right : A → Type 0) (stop : Stop) → Answers Right (accepted.FirstRefusal files) (Err stop) →
        Answer (Err stop)
    unaccepted Right (stops.Refused r) h = at_next tree (locals, are) (at_first (at_first h))
    unaccepted Right stops.Memory h = tt

    pub unrun : {A : Type 0} (Right : A → Type 0) (stop : Stop) → Answers Right (running.FirstRefusal files mains) (Err stop) →
        Answer (Err stop)
    unrun Right (stops.Refused r) h = at_next tree (locals, are) (at_first h)
    unrun Right stops.Memory h = tt

    pub judged : (core : Core.Program) (can : CanRun files mains core) (result : Result (Unit {0}) Stop) →
        Answers (λ (done : Unit {0}). IsFit tree files mains core) (IsUnfit tree files mains core) result →
        Answer result
    judged core can (Ok done) fit = record {
      core = core;
      fits = record {
        tree = tree;
        reads = are.reads;
        locals = are.each;
        projected = are.projected;
        accepted = can.accepted;
        parts = fit.parts;
        spell = fit.spell;
        clean = fit.clean;
      };
      can_run = can;
    }
    judged core can (Err (stops.Refused r)) unfit = at_next tree (locals, are) (at_next core can unfit)
    judged core can (Err stops.Memory) h = tt

-- of a file whose number is that of the global protocol
pub unprojected_as : {A : Type 0} (Right : Source → A → Type 0) (n number : ℕ) (name bytes : List ℕ) (files : List Source)
    (mains : List RoleMain) (stop : Stop) → n ≡ number →
    Answers (Right (source_of n name bytes)) (projecting.FirstRefusal (source_of n name bytes ∷ [])) (Err stop) →
    Answer (source_of number name bytes) files mains (Err stop)
unprojected_as Right n number name bytes files mains stop e h =
    unprojected (source_of number name bytes) files mains (Right (source_of number name bytes)) stop
    (subst (λ (m : ℕ). Answers (Right (source_of m name bytes)) (projecting.FirstRefusal (source_of m name bytes ∷ [])) (Err stop)) e h)

-- ---- the conditions

module _ (tree : GlobalTree) (files : List Source) (mains : List RoleMain) (core : Core.Program) where
  -- accepted files are read
  pub unread : {A : Type 0} (Right : A → Type 0) (stop : Stop) → AreAccepted files core →
      Answers Right (λ r. Judged Refuses files (Some r)) (Err stop) →
      Answers (λ (done : Unit {0}). IsFit tree files mains core) (IsUnfit tree files mains core) (Err stop)
  unread Right (stops.Refused r) a h = absurd (no_both (none_refused_of a.have.are.are.spell) h)
  unread Right stops.Memory a h = tt

  pub is_fit : (parts : List Part) → EachSpells files parts → IsVerdict tree parts core mains None →
      IsFit tree files mains core
  is_fit parts spell clean = record { parts = parts; spell = spell; clean = clean }

  pub is_unfit : (parts : List Part) (r : Refusal) → EachSpells files parts → IsVerdict tree parts core mains (Some r) →
      IsUnfit tree files mains core r
  is_unfit parts r spell (condition, first) = record { parts = parts; spell = spell; condition = condition; first = first }

-- ---- the projections

projections_in : (g : GlobalTree) (each : Name → LocalTree) (roles : List Name) →
    ((me : Name) → Contains roles me → projects.Outcome g me (projects.Protocol (each me))) → AreProjectionsOf g roles (map each roles)
projections_in g each [] all = tt
projections_in g each (role ∷ roles) all = (
  all role (zero, omega arith, refl),
  projections_in g each roles (λ me is. all me (suc is.0, omega (arith, is.1), is.2)),
)

pub projections_of : (s : Source) (g : GlobalTree) (locals : List LocalTree) → AreLocals s g locals → AreProjections g locals
projections_of s g locals are = subst (AreProjectionsOf g g.roles) (sym are.are) (projections_in g are.each g.roles are.projected.answered)
