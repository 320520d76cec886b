-- What judging and resolving the program of a command answer.
use Rattle.std.proofs.Common.{◌≡◌, ℕ, List, length, Option, Some, None, Result, Err, sym, ap, ◌∙◌, subst}
use Rattle.std.specs.Prelude.{OnOk}
use Rattle.ts_tree.specs.Typestate.{Typestate}
use Rattle.jv_tree.specs.declared.tree.File.{File as KeptFile}
use Rattle.jv_core.specs.Tree as CoreTree
use Rattle.jv_core.specs.declared.resolved.Core.{Core}
use Rattle.jv_names.specs.Resolves.{Resolves}
use Rattle.jv_rules.specs.Program.{Program}
use Rattle.jv_rules.specs.Shape.{IsShaped}
use Rattle.jv_rules.specs.Faults.{IsTableFault, IsFault, IsWellTyped}
use Rattle.jv_resolve_law.specs.Members.{resolving}
use Rattle.jv_resolve_law.specs.Targets.{OnlyVariablesAreAssigned}
use Rattle.jv_resolve_law.specs.ShapedLaws.{SpelledIsShaped}
use Rattle.jv_types.specs.View.{program_of}
use Rattle.jv_types.specs.Outcome.{fault_told, TellsFault}
use Rattle.jv_types.specs.declared.fault.TypeFault.{TypeFault}
use Rattle.mg_refusal.specs.Refusals.{Refusal}
use Rattle.mg_refusal.specs.Order.{Answers, AnswersOnly, Finds, IsStopOf, at_first, at_next}
use Rattle.mg_refusal.specs.declared.stop.Stop.{Stop}
use Rattle.mg_refusal.proofs.Orders.{refused_by, unless_refused, never_ok}
use Rattle.mg_sources.specs.Files.{Source}
use Rattle.mg_sources.specs.Sources.{Sourced, AreProgram}
use Rattle.mg_sources.specs.View.{sourced_of}
use Rattle.mg_sources.specs.declared.sources.Sources.{Sources as KeptSources}
use Rattle.mg_sources.specs.Sources as reading
use Rattle.mg_accepted.specs.Program.{HaveCore, type_refusal, TypeRefusal, FirstRefusal}
use Rattle.mg_accepted.specs.inner.Answers.{AreDeclared}
use Rattle.mg_accepted.proofs.Grammatical.{shaped, assigns, numbered}
use Rattle.mg_accepted.proofs.Refused.{unsaid, Stops, table_refused}
use Rattle.mg_accepted.proofs.OneCore.{no_refusal, one_core}

-- ---- judging

-- the parts of the sources, as they are handed on
pub record AreOf (s : KeptSources) (fs : List KeptFile) (ts : List Typestate) (os : List ℕ) : Type 0 where
  pub files : fs ≡ s.files.items
  pub typestates : ts ≡ s.typestates.items
  pub origins : os ≡ s.origins.items

module _ (s : KeptSources) {fs : List KeptFile} {ts : List Typestate} {os : List ℕ} (are : AreOf s fs ts os) where
  pub same_program : program_of fs ts ≡ (sourced_of s).program
  same_program i = program_of (are.files i) (are.typestates i)

  pub same_count : length s.origins.items ≡ length s.typestates.items → length os ≡ length ts
  same_count e = ap length are.origins ∙ e ∙ ap length (sym are.typestates)

  pub table_is : (r : Option _) → IsTableFault (program_of fs ts) os r → IsTableFault (sourced_of s).program (sourced_of s).origins r
  table_is r h = subst (λ (z : Sourced). IsTableFault z.program z.origins r)
      (λ i. record { program = same_program i; origins = are.origins i }) h

  pub table_failed : (fault : TypeFault) (stop : Stop) →
      IsStopOf (λ f r. r ≡ type_refusal f) (fault_told fault) stop → TellsFault (IsTableFault (program_of fs ts) os) fault →
      Stops (TypeRefusal (sourced_of s)) stop
  table_failed fault stop stops h =
      table_refused fault stop stops (sourced_of s)
      (subst (λ (z : Sourced). TellsFault (IsTableFault z.program z.origins) fault)
      (λ i. record { program = same_program i; origins = are.origins i }) h)

-- ---- what resolving asks for

module _ {files : List Source} {sourced : Sourced} {p : Program} (d : AreDeclared files sourced p) (law : SpelledIsShaped) where
  pub is_shaped : IsShaped p
  is_shaped = subst IsShaped d.is (shaped law d.are.spell)

  pub only_assigns : OnlyVariablesAreAssigned p
  only_assigns = subst OnlyVariablesAreAssigned d.is (assigns law d.are.spell)

  pub is_well_typed : IsFault p None → IsWellTyped p
  is_well_typed fine = subst IsWellTyped d.is
      (record {
        origins = sourced.origins;
        numbered = numbered d.are.spell;
        declarations = d.declarations;
        methods = subst (λ (z : Program). IsFault z None) (sym d.is) fine;
      })

  pub resolved : IsFault p None → (core : Core) → Resolves p core → resolving p ≡ Some core → HaveCore files core
  resolved fine core h r = record {
    program = p;
    are = record {
      sourced = sourced;
      is = d.is;
      are = d.are;
      declarations = subst (λ (z : Program). IsTableFault z sourced.origins None) d.is d.declarations;
      methods = fine;
    };
    stands = h;
    resolved = r;
  }

pub files_numbered : {files : List Source} (s : KeptSources) → AreProgram files (sourced_of s) →
    length s.origins.items ≡ length s.typestates.items
files_numbered s program = numbered program.spell

-- ---- the ways out

module _ (files : List Source) (stop : Stop) (answer : Result Core Stop) (is : answer ≡ Err stop) where
  pub read_failed : Answers (λ (k : KeptSources). AreProgram files (sourced_of k)) (reading.FirstRefusal files) (Err stop) →
      Answers (HaveCore files) (FirstRefusal files) answer
  read_failed h =
      refused_by (λ (k : KeptSources). AreProgram files (sourced_of k)) (reading.FirstRefusal files) (HaveCore files)
      (FirstRefusal files) (λ r first. at_first first) stop h answer is

  pub table_stops : (sourced : Sourced) → AreProgram files sourced → Stops (TypeRefusal sourced) stop →
      Answers (HaveCore files) (FirstRefusal files) answer
  table_stops sourced are h =
      refused_by unsaid (TypeRefusal sourced) (HaveCore files) (FirstRefusal files) (λ r found. at_next sourced are found) stop h answer is

  pub methods_stop : (sourced : Sourced) (p : Program) → AreDeclared files sourced p →
      Stops (Finds (λ f. IsFault p (Some f)) type_refusal) stop → Answers (HaveCore files) (FirstRefusal files) answer
  methods_stop sourced p d h =
      refused_by unsaid (Finds (λ f. IsFault p (Some f)) type_refusal) (HaveCore files) (FirstRefusal files)
      (λ r found. at_next sourced d.are (at_next tt d.declarations
      (subst (λ (z : Program). Finds (λ f. IsFault z (Some f)) type_refusal r) (sym d.is) found))) stop h answer is

module _ (files : List Source) (answer : Result Core Stop) (h : Answers (HaveCore files) (FirstRefusal files) answer) where
  -- the core that files have is answered
  pub core_answered : (core : CoreTree.Program) → HaveCore files core → AnswersOnly (λ c. c ≡ core) answer
  core_answered core k =
      unless_refused (HaveCore files) (FirstRefusal files) (λ c. c ≡ core) answer h
      (λ c have. one_core files c core have k) (λ r first. no_refusal files k.program r k.are first)

  -- files that are refused have no core
  pub refused_no_core : (r : Refusal) → FirstRefusal files r → OnOk answer ⊥
  refused_no_core r first =
      never_ok (HaveCore files) (FirstRefusal files) answer h (λ c have. no_refusal files have.program r have.are first)
