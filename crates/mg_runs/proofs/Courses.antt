-- Each course is a run, and each order of turns that names every role has one.
use Rattle.std.proofs.Common.{◌≡◌, ◌<◌, ℕ, List, [], ◌∷◌, length, map, Contains, refl, subst, arith}
use Rattle.std.specs.List.{AllByRecursion}
use Rattle.vm_model.specs.Program.{Program}
use Rattle.vm_model.specs.Messages.{no_messages}
use Rattle.vm_model.specs.Start.{started}
use Rattle.vm_step.specs.Main.{HasMain}
use Rattle.vm_world_law.specs.declared.role.RoleMain.{RoleMain}
use Rattle.vm_world_law.specs.World.{Runs, Role, World, StartAt, turns, IsBegun}
use Rattle.vm_world_law.specs.Turns.{RunsStop, all_counts}
use Rattle.vm_world_law.proofs.Once.{begun_many}
use Rattle.gen_rules.specs.Linked.{linked_program}
use Rattle.mg_runs.specs.Runs.{IsLoaded}
use Rattle.mg_runs.specs.Laws.{WrittenClassesLink, RunsAreMeant, RolesAreMeant, RolesKeep, RolesPlay, RolesFit, AllProtocolsAgree}
use Rattle.mg_runs.specs.Laws.{CoursesAreRuns, EachOrderHasACourse}
use Rattle.mg_runs.proofs.Playing.{from_there}
use Rattle.mg_runs.proofs.Roles.{any_order}
use Rattle.mg_runs.proofs.Sound.{have_mains}

pub runs_law : RolesAreMeant → RolesKeep → RolesPlay → RolesFit → AllProtocolsAgree → CoursesAreRuns
runs_law law keep play fit agree files mains order limit r c =
    let meant = law files r.core r.written c.accepted.have c.class_files mains c.have_mains r.program c.loaded in
    let kept = keep files r.core c.accepted mains c.have_mains in
    record {
      meant = meant.1 r.first c.begins;
      does = meant.0;
      keep = λ taken. kept.1 r.program (turns r.program r.first taken) (meant.1 r.first c.begins taken);
      meanings = kept.0;
      parts = λ taken. play files r.core c.accepted mains c.have_mains r.program (turns r.program r.first taken)
          (from_there c.accepted.have.program mains r.program r.first (meant.1 r.first c.begins) taken);
      fitting = fit files r.core c.accepted mains c.have_mains r.program r.first c.begins (meant.1 r.first c.begins);
      orders = any_order r.program mains r.first c.begins;
      protocols = agree files;
    }

-- the roles of classes that have a `main`, each at it: none of their instructions was counted
record Ready (p : Program) (mains : List RoleMain) : Type 0 where
  roles : List Role
  start : StartAt p mains roles
  none : all_counts roles ≡ 0

ready : (p : Program) (mains : List RoleMain) → AllByRecursion (λ m. HasMain p m.class) mains → Ready p mains
ready p [] h = record { roles = []; start = tt; none = refl }
ready p (main ∷ mains) h =
    let more = ready p mains h.1 in
    let machine = started p (h.0).class (h.0).method in
    record {
      roles = record { state = Runs machine; count = 0 } ∷ more.roles;
      start = (
        (machine, record { class = (h.0).class; method = (h.0).method; main = (h.0).is; machine = refl }, refl),
        more.start,
      );
      none = let none = more.none in omega arith;
    }

pub course_law : WrittenClassesLink → RunsAreMeant → RunsStop → EachOrderHasACourse
course_law link meant stop files core written mains accepted made have distinct order named limit =
    let program : Program = linked_program core made.are.all in
    let loaded : IsLoaded (map (λ f. f.bytes) written) program = link files core written accepted.have made in
    let all = have_mains meant files core written accepted.have made program loaded mains have in
    let begun = ready program mains all in
    let first : World = record { roles = begun.roles; messages = no_messages (map (λ m. m.role) mains); events = [] } in
    let begins : IsBegun program mains first
    = record { distinct = distinct; messages = refl; unseen = refl; roles = begun.start } in
    let each : (r : ℕ) → r < length first.roles → Contains order r
    = λ r below. named r (subst (λ (n : ℕ). r < n) (begun_many program mains begun.roles begun.start) below) in
    let none = begun.none in
    let run = stop program first order each limit (omega arith) in (
      record { core = core; written = written; program = program; first = first; last = run.0 },
      record {
        accepted = accepted;
        have_mains = have;
        class_files = made;
        loaded = loaded;
        begins = begins;
        runs = run.1;
      },
    )
