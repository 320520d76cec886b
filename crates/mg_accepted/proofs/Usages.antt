-- What judging the usages of a program answers.
use Rattle.std.proofs.Common.{◌≡◌, List, Option, Some, None, Result, Err, subst}
use Rattle.std.specs.Prelude.{OnOk}
use Rattle.jv_core.specs.Tree as Core
use Rattle.jv_core.specs.declared.resolved.Core.{Core as KeptCore}
use Rattle.use_flow.specs.View.{tables_of, reached_of}
use Rattle.use_rules.specs.declared.demand.Demand.{Demand}
use Rattle.use_verdict.specs.declared.verdict.CheckFault.{CheckFault}
use Rattle.use_verdict.specs.declared.verdict.CheckFault.TheVariants as faults
use Rattle.use_verdict.specs.Verdict.{AreAnswer, FailsFirst}
use Rattle.use_verdict.specs.Faults.{IsFault}
use Rattle.mg_refusal.specs.Refusals.{Refusal}
use Rattle.mg_refusal.specs.Order.{Finds, Answers, AnswersOnly, IsStopBy, at_first, at_next}
use Rattle.mg_refusal.specs.declared.stop.Stop.{Stop}
use Rattle.mg_refusal.proofs.Orders.{refused_by, unless_refused, never_ok, stop_refused_by}
use Rattle.mg_sources.specs.Files.{Source}
use Rattle.mg_accepted.specs.Program.{HaveCore}
use Rattle.mg_accepted.specs.Program as program
use Rattle.mg_accepted.proofs.OneCore.{one_core}
use Rattle.mg_accepted.proofs.Refused.{unsaid, Stops}
use Rattle.mg_accepted.specs.declared.accepted.AcceptedProgram.{AcceptedProgram}
use Rattle.mg_accepted.specs.Demands.{demand_refusal}
use Rattle.mg_accepted.specs.Accepted.{AreAccepted, FirstRefusal}
use Rattle.mg_accepted.specs.View.{IsProgramOf}
use Rattle.mg_accepted.specs.inner.Answers.{demand_of}
use Rattle.mg_accepted.proofs.Apart.{not_refused}

-- ---- the fault of the verdict

some_same : {d e : Demand} → ◌≡◌ {A = Option Demand} (Some d) (Some e) → d ≡ e
some_same h = cc

none_some : {P : Type 0} {d : Demand} → ◌≡◌ {A = Option Demand} None (Some d) → P
none_some h = absurd cc

-- a fault tells of the first demand that fails
fails_first : (core : Core.Program) (fault : CheckFault) (d : Demand) → IsFault core fault → demand_of fault ≡ Some d → FailsFirst core d
fails_first core (faults.UseMoved e) d f h = subst (FailsFirst core) (some_same h) f.first
fails_first core (faults.MaybeNull e) d f h = subst (FailsFirst core) (some_same h) f.first
fails_first core (faults.NotOffered e) d f h = subst (FailsFirst core) (some_same h) f.first
fails_first core (faults.LeftOpen e) d f h = subst (FailsFirst core) (some_same h) f.first
fails_first core (faults.Overwritten e) d f h = subst (FailsFirst core) (some_same h) f.first
fails_first core (faults.FieldOpenAtEnd e) d f h = subst (FailsFirst core) (some_same h) f.first
fails_first core faults.Memory d f h = none_some h

pub unmet_judged : (core : Core.Program) (fault : CheckFault) (stop : Stop) → IsFault core fault →
    IsStopBy (λ d r. r ≡ demand_refusal core d) (demand_of fault) stop →
    Stops (Finds (FailsFirst core) (demand_refusal core)) stop
unmet_judged core fault stop f h =
    stop_refused_by (λ d r. r ≡ demand_refusal core d) unsaid (Finds (FailsFirst core) (demand_refusal core))
    (demand_of fault) stop h
    (λ d r told says. (d, fails_first core fault d f told, says))

-- ---- the verdict on files

-- the core of files, with its least tables
pub usages_right : (files : List Source) (a : AcceptedProgram) → HaveCore files a.core → AreAnswer a.core a.accepted.tables →
    IsProgramOf files a
usages_right files a h answer = record {
  files_are = record {
    have = h;
    solved = record {
      reached = reached_of a.accepted.tables;
      are = answer.made.reached;
      tables = tables_of a.accepted.tables;
      solves = answer.solves;
    };
  };
  tables_are = answer;
}

-- the refusal of the core of files is that of the files
pub usages_refused : (files : List Source) (core : Core.Program) (stop : Stop)
    (answer : Result AcceptedProgram Stop) → answer ≡ Err stop → HaveCore files core →
    Stops (Finds (FailsFirst core) (demand_refusal core)) stop → Answers (IsProgramOf files) (FirstRefusal files) answer
usages_refused files core stop answer is h judged =
    refused_by unsaid (Finds (FailsFirst core) (demand_refusal core)) (IsProgramOf files) (FirstRefusal files)
    (λ r found. at_next core h found) stop judged answer is

-- files that are no well typed program are refused
pub ill_typed_judged : (files : List Source) (stop : Stop) (answer : Result AcceptedProgram Stop) → answer ≡ Err stop →
    Answers (λ (core : KeptCore). HaveCore files core) (program.FirstRefusal files) (Err stop) →
    Answers (IsProgramOf files) (FirstRefusal files) answer
ill_typed_judged files stop answer is h =
    refused_by (λ (core : KeptCore). HaveCore files core) (program.FirstRefusal files) (IsProgramOf files) (FirstRefusal files)
    (λ r first. at_first first) stop h answer is

-- ---- there is one answer

module _ (files : List Source) (answer : Result AcceptedProgram Stop) (h : Answers (IsProgramOf files) (FirstRefusal files) answer) where
  -- accepted files are answered by their core
  pub accepted_answered : (core : Core.Program) → AreAccepted files core → AnswersOnly (λ a. a.core ≡ core) answer
  accepted_answered core k =
      unless_refused (IsProgramOf files) (FirstRefusal files) (λ a. a.core ≡ core) answer h
      (λ a is. one_core files a.core core is.files_are.have k.have) (λ r first. not_refused files core r k first)

  -- files that are refused aren't accepted
  pub refused_no_program : (r : Refusal) → FirstRefusal files r → OnOk answer ⊥
  refused_no_program r first =
      never_ok (IsProgramOf files) (FirstRefusal files) answer h (λ a is. not_refused files a.core r is.files_are first)
