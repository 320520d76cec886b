-- Class files have one run of these roles, and files that are refused have none.
use Rattle.std.proofs.Common.{◌≡◌, ℕ, List, [], ◌∷◌, ◌++◌, Bool, Option, Some, None, Result, map, if◌then◌else◌, sym, ap, ap₂, ◌∙◌}
use Rattle.std.proofs.Common.{subst, refl}
use Rattle.std.specs.Prelude.{OnOk}
use Rattle.mg_read.proofs.Judging.{no_both}
use Rattle.cls_tree.specs.Tree.{Class as File}
use Rattle.cls_bytes.proofs.Whole.{one_spelled}
use Rattle.vm_model.specs.Program.{Program}
use Rattle.vm_model.specs.Links.{Flaw, least, flaws, linked}
use Rattle.vm_step.specs.Main.{HasMain}
use Rattle.vm_world_law.specs.declared.role.RoleMain.{RoleMain}
use Rattle.vm_world_law.specs.World.{World, IsBegun}
use Rattle.vm_world_law.specs.Turns as turning
use Rattle.vm_world_law.specs.Turns.{stands_in}
use Rattle.vm_world_law.proofs.Turns.{one_run}
use Rattle.vm_world_law.proofs.Once.{begun_once}
use Rattle.mg_trace.specs.Trace.{plain_trace, printed}
use Rattle.mg_sources.specs.Files.{Source}
use Rattle.mg_refusal.specs.Refusals.{Refusal}
use Rattle.mg_refusal.specs.Order.{Answers, AnswersOnly}
use Rattle.mg_refusal.specs.declared.stop.Stop.{Stop}
use Rattle.mg_refusal.proofs.Orders.{then_never, unless_refused, never_ok}
use Rattle.mg_runs.specs.Runs.{names_of}
use Rattle.mg_exec.specs.declared.ran.Ran.{Ran}
use Rattle.mg_exec.specs.Files.{AreFiles}
use Rattle.mg_exec.specs.Runs.{Course, IsProgram, HaveMains, IsRun, NoProgram, FirstRefusal}
use Rattle.mg_exec.specs.View.{Shows, IsOfRun}
use Rattle.mg_exec.proofs.FilesRead.{none_refused}

-- files are one list of classes
pub one_files : (files : List Source) (cs bs : List File) → AreFiles files cs → AreFiles files bs → cs ≡ bs
one_files [] [] [] h g = refl
one_files [] [] (b ∷ bs) h g = absurd g
one_files [] (c ∷ cs) bs h g = absurd h
one_files (f ∷ fs) [] bs h g = absurd h
one_files (f ∷ fs) (c ∷ cs) [] h g = absurd g
one_files (f ∷ fs) (c ∷ cs) (b ∷ bs) (first, rest) (other, others) =
    ap₂ (λ y ys. y ∷ ys)
    (one_spelled c b first.spells.file other.spells.file (sym first.spells.layout ∙ other.spells.layout)) (one_files fs cs bs rest others)

-- and one program
pub one_program : (files : List Source) (p q : Program) → IsProgram files p → IsProgram files q → p ≡ q
one_program files p q (cs, are, links) (bs, others, links') =
    let same : cs ≡ bs = one_files files cs bs are others in
    links.program ∙ ap linked same ∙ sym links'.program

-- what has no flaw isn't refused
no_flaw : (fs : List Flaw) (f : Flaw) → fs ≡ [] → least fs ≡ Some f → ⊥
no_flaw fs f none is = let h : ◌≡◌ {A = Option Flaw} None (Some f) = sym (ap least none) ∙ is in cc

-- a role whose class has no `main` isn't among those whose classes have one
lacks_none : (program : Program) (front : List RoleMain) (main : RoleMain) (rest : List RoleMain) → HaveMains program (front ++ main ∷ rest)
    →
    HasMain program main.class
lacks_none program [] main rest h = h.0
lacks_none program (x ∷ front) main rest h = lacks_none program front main rest h.1

-- files that are a program are not refused
pub program_not_refused : (files : List Source) (program : Program) → IsProgram files program → (r : Refusal) → NoProgram files r → ⊥
program_not_refused files program (classes, are, links) = then_never (λ r judged. no_both (none_refused files classes are) judged)
    (λ others those r found.
    let same : classes ≡ others = one_files files classes others are those in
    no_flaw (flaws others) found.0 (sym (ap flaws same) ∙ links.right) found.1)

-- files that are refused aren't run
pub not_refused : (files : List Source) (mains : List RoleMain) (order : List ℕ) (limit : ℕ) (run : Course) (r : Refusal) →
    IsRun files mains order limit run → FirstRefusal files mains r → ⊥
not_refused files mains order limit run r h = then_never (program_not_refused files run.program h.linked) (λ program is r l.
    let same : run.program ≡ program = one_program files run.program program h.linked is in
    l.none (subst (λ (z : Program). HasMain z l.main.class) same
    (lacks_none run.program l.front l.main l.rest (subst (HaveMains run.program) l.parts h.have_mains)))) r

-- two runs of the same files
pub record SameRun (a b : Course) : Type 0 where
  pub program : a.program ≡ b.program
  pub last : a.last ≡ b.last

pub one_course : (files : List Source) (mains : List RoleMain) (order : List ℕ) (limit : ℕ) (a b : Course) → IsRun files mains order limit a
    →
    IsRun files mains order limit b → SameRun a b
one_course files mains order limit a b h g =
    let program : a.program ≡ b.program = one_program files a.program b.program h.linked g.linked in
    let first : a.first ≡ b.first
    = begun_once b.program mains a.first b.first (subst (λ (z : Program). IsBegun z mains a.first) program h.begins) g.begins in
    let last : a.last ≡ b.last
    = one_run b.program b.first order limit a.last b.last
    (subst (λ (w : World). turning.IsRun b.program w order limit a.last) first
    (subst (λ (z : Program). turning.IsRun z a.first order limit a.last) program h.runs)) g.runs in
    record { program = program; last = last }

-- what one run shows, every run of the same files shows
shows_same : (files : List Source) (mains : List RoleMain) (order : List ℕ) (limit : ℕ) (named traced : Bool) (a b : Course) (ran : Ran) →
    IsRun files mains order limit a → IsRun files mains order limit b → Shows mains named traced a ran → Shows mains named traced b ran
shows_same files mains order limit named traced a b ran h g s =
    let same = one_course files mains order limit a b h g in
    record {
      counts = s.counts ∙ ap (λ (w : World). map (λ r. r.count) w.roles) same.last;
      stands = s.stands ∙ (λ i. stands_in (same.program i) (same.last i));
      printed_is = s.printed_is ∙ ap (λ (w : World). printed named (names_of mains) w.events) same.last;
      trace_is = s.trace_is ∙ ap (λ (w : World). if traced then plain_trace (names_of mains) w.events else []) same.last;
    }

module _ (files : List Source) (mains : List RoleMain) (order : List ℕ) (limit : ℕ) (named traced : Bool) (result : Result Ran Stop)
    (h : Answers (IsOfRun files mains order limit named traced) (FirstRefusal files mains) result) where
  pub only_run : (run : Course) → IsRun files mains order limit run → AnswersOnly (Shows mains named traced run) result
  only_run run is =
      unless_refused (IsOfRun files mains order limit named traced) (FirstRefusal files mains) (Shows mains named traced run) result h
      (λ ran of. shows_same files mains order limit named traced of.run run ran of.is is of.shows)
      (λ r first. not_refused files mains order limit run r is first)

  pub refused_run : (r : Refusal) → FirstRefusal files mains r → OnOk result ⊥
  refused_run r first =
      never_ok (IsOfRun files mains order limit named traced) (FirstRefusal files mains) result h
      (λ ran of. not_refused files mains order limit of.run r of.is first)
