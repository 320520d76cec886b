-- Files have one run of these roles, and files that are refused have none.
use Rattle.std.proofs.Common.{◌≡◌, ◌≢◌, ℕ, List, [], ◌∷◌, ◌++◌, Bool, map, Some, None, Result, if◌then◌else◌, sym, ap, ◌∙◌, subst}
use Rattle.std.specs.Prelude.{OnOk}
use Rattle.vm_model.specs.Program.{Program}
use Rattle.vm_model.specs.Links.{linked}
use Rattle.jv_core.specs.Tree as Core
use Rattle.jv_core.specs.Meaning.{main_of}
use Rattle.gen_rules.specs.Limits.{IsFirstExcess}
use Rattle.vm_world_law.specs.declared.role.RoleMain.{RoleMain}
use Rattle.vm_world_law.specs.World.{World, IsBegun}
use Rattle.vm_world_law.specs.Turns as turning
use Rattle.vm_world_law.specs.Turns.{stands_in}
use Rattle.vm_world_law.proofs.Turns.{one_run}
use Rattle.vm_world_law.proofs.Once.{begun_once}
use Rattle.mg_trace.specs.Trace.{trace, printed}
use Rattle.mg_sources.specs.Files.{Source}
use Rattle.mg_refusal.specs.Refusals.{Refusal}
use Rattle.mg_refusal.specs.Order.{Answers, AnswersOnly}
use Rattle.mg_refusal.specs.declared.stop.Stop.{Stop}
use Rattle.mg_refusal.proofs.Orders.{then_never, unless_refused, never_ok}
use Rattle.mg_accepted.proofs.OneCore.{one_core}
use Rattle.mg_accepted.proofs.Apart as accepted
use Rattle.mg_compile.specs.declared.files.ClassFile.{ClassFile}
use Rattle.mg_compile.specs.Files.{AreClassFiles}
use Rattle.mg_compile.proofs.Apart.{one_list, not_exceeded}
use Rattle.mg_runs.specs.declared.ran.Ran.{Ran}
use Rattle.mg_runs.specs.Runs.{IsLoaded, HaveMains, names_of, messages_in}
use Rattle.mg_runs.specs.Headline.{Course, IsCourse}
use Rattle.mg_runs.specs.View.{Shows, IsOfRun}
use Rattle.mg_runs.specs.Commanded.{FirstRefusal}
use Rattle.mg_runs.proofs.Sound.{one_spelled_list}

-- a class that has no `main` isn't among those that have one
pub lacks_none : (core : Core.Program) (front : List RoleMain) (main : RoleMain) (rest : List RoleMain) →
    HaveMains core (front ++ main ∷ rest) →
    main_of core main.class ≢ None
lacks_none core [] main rest h = h.0
lacks_none core (x ∷ front) main rest h = lacks_none core front main rest h.1

-- files that are refused aren't run
pub not_refused : (files : List Source) (mains : List RoleMain) (order : List ℕ) (limit : ℕ) (run : Course) (r : Refusal) →
    IsCourse files mains order limit run → FirstRefusal files mains r → ⊥
not_refused files mains order limit run r h = then_never (λ r first. accepted.not_refused files run.core r h.accepted first) (λ core a.
    let same : core ≡ run.core = one_core files core run.core a.have h.accepted.have in
    then_never
    (λ r l. lacks_none run.core l.front l.main l.rest (subst (HaveMains run.core) l.parts h.have_mains)
    (subst (λ (z : Core.Program). main_of z l.main.class ≡ None) same l.none))
    (λ done have r found. not_exceeded run.core found.0 h.class_files.fine
    (subst (λ (z : Core.Program). IsFirstExcess z (Some found.0)) same found.1))) r

-- bytes are loaded as one program
one_loaded : (bytes : List (List ℕ)) (p q : Program) → IsLoaded bytes p → IsLoaded bytes q → p ≡ q
one_loaded bytes p q (read, spelled, links) (read', spelled', links') =
    let files : read ≡ read' = one_spelled_list bytes read read' spelled spelled' in
    links.program ∙ ap linked files ∙ sym links'.program

-- two runs of the same files
pub record SameRun (a b : Course) : Type 0 where
  pub core : a.core ≡ b.core
  pub written : a.written ≡ b.written
  pub program : a.program ≡ b.program
  pub last : a.last ≡ b.last

pub one_of_run : (files : List Source) (mains : List RoleMain) (order : List ℕ) (limit : ℕ) (a b : Course) → IsCourse files mains order limit a
    →
    IsCourse files mains order limit b → SameRun a b
one_of_run files mains order limit a b h g =
    let core : a.core ≡ b.core = one_core files a.core b.core h.accepted.have g.accepted.have in
    let written : a.written ≡ b.written
    = one_list b.core a.written b.written (subst (λ (z : Core.Program). AreClassFiles z a.written) core h.class_files) g.class_files in
    let program : a.program ≡ b.program
    = one_loaded (map (λ f. f.bytes) b.written) a.program b.program
    (subst (λ (z : List ClassFile). IsLoaded (map (λ f. f.bytes) z) a.program) written h.loaded) g.loaded in
    let first : a.first ≡ b.first
    = begun_once b.program mains a.first b.first (subst (λ (z : Program). IsBegun z mains a.first) program h.begins) g.begins in
    let last : a.last ≡ b.last
    = one_run b.program b.first order limit a.last b.last
    (subst (λ (w : World). turning.IsRun b.program w order limit a.last) first
    (subst (λ (z : Program). turning.IsRun z a.first order limit a.last) program h.runs)) g.runs in
    record { core = core; written = written; program = program; last = last }

-- ---- what is answered

-- what one run shows, every run of the same files shows
shows_same : (files : List Source) (mains : List RoleMain) (order : List ℕ) (limit : ℕ) (named traced : Bool) (a b : Course) (ran : Ran) →
    IsCourse files mains order limit a → IsCourse files mains order limit b → Shows mains named traced a ran → Shows mains named traced b ran
shows_same files mains order limit named traced a b ran h g s =
    let same = one_of_run files mains order limit a b h g in
    record {
      written = s.written ∙ same.written;
      counts = s.counts ∙ ap (λ (w : World). map (λ r. r.count) w.roles) same.last;
      stands = s.stands ∙ (λ i. stands_in (same.program i) (same.last i));
      printed_is = s.printed_is ∙ ap (λ (w : World). printed named (names_of mains) w.events) same.last;
      trace_is = s.trace_is ∙ (λ i. if traced then trace (same.core i) (names_of mains) (same.last i).events else []);
      messages_are = s.messages_are ∙ ap (λ (w : World). messages_in w.events) same.last;
    }

module _ (files : List Source) (mains : List RoleMain) (order : List ℕ) (limit : ℕ) (named traced : Bool) (result : Result Ran Stop)
    (h : Answers (IsOfRun files mains order limit named traced) (FirstRefusal files mains) result) where
  pub only_run : (run : Course) → IsCourse files mains order limit run → AnswersOnly (Shows mains named traced run) result
  only_run run is =
      unless_refused (IsOfRun files mains order limit named traced) (FirstRefusal files mains) (Shows mains named traced run) result h
      (λ ran of. shows_same files mains order limit named traced of.run run ran of.is is of.shows)
      (λ r first. not_refused files mains order limit run r is first)

  pub refused_run : (r : Refusal) → FirstRefusal files mains r → OnOk result ⊥
  refused_run r first =
      never_ok (IsOfRun files mains order limit named traced) (FirstRefusal files mains) result h
      (λ ran of. not_refused files mains order limit of.run r of.is first)
