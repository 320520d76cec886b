-- What writing class files answers.
use Rattle.std.proofs.Common.{◌≡◌, List, Option, Some, None, Result, Ok, Err, ◌∙◌, subst}
use Rattle.mg_text.specs.Row.{Row}
use Rattle.jv_core.specs.Tree as Core
use Rattle.gen_rules.specs.Limits.{Excess, IsFirstExcess}
use Rattle.gen_rules.specs.inner.Files.{excess_of}
use Rattle.gen_rules.proofs.Files.{excess_is}
use Rattle.gen_members.specs.declared.faults.GenFault.{GenFault}
use Rattle.gen_members.specs.declared.faults.GenFault.TheVariants as faults
use Rattle.gen_members.specs.Told.{Tells}
use Rattle.gen_class.specs.First.{TellsFirst}
use Rattle.mg_refusal.specs.Order.{Answers, IsStopOf, at_first, at_next}
use Rattle.mg_refusal.specs.declared.stop.Stop.{Stop}
use Rattle.mg_refusal.specs.declared.stop.Stop.TheVariants as stops
use Rattle.mg_refusal.proofs.Orders.{refused_by, stop_refused}
use Rattle.mg_sources.specs.Files.{Source}
use Rattle.mg_accepted.specs.Accepted.{AreAccepted}
use Rattle.mg_accepted.specs.Accepted as accepted
use Rattle.mg_accepted.specs.View.{IsProgramOf}
use Rattle.mg_compile.specs.declared.files.ClassFile.{ClassFile}
use Rattle.mg_compile.specs.Files.{AreClassFiles}
use Rattle.mg_compile.specs.Compiled.{AreCompiled, excess_refusal, ExcessRefusal, FirstRefusal}
use Rattle.mg_compile.specs.inner.Answers.{excess_in}

none_some : {P : Type 0} {A : Type 0} {x : A} → ◌≡◌ {A = Option A} None (Some x) → P
none_some e = absurd cc

told_excess : (fault : GenFault) (x : Option Excess) (e : Excess) → Tells x fault → excess_in fault ≡ Some e → x ≡ Some e
told_excess (faults.CodeTooLong place name) x e t h = t ∙ h
told_excess (faults.TooManyLocals place name) x e t h = t ∙ h
told_excess (faults.PoolFull place name) x e t h = t ∙ h
told_excess (faults.TextTooLong place name) x e t h = t ∙ h
told_excess faults.Memory x e t h = none_some h

-- a core with too large a size is refused by its first excess
pub excess_given : (core : Core.Program) (fault : GenFault) (stop : Stop) → TellsFirst core fault →
    IsStopOf (λ e r. r ≡ excess_refusal e) (excess_in fault) stop →
    Answers (λ (written : Row ClassFile). AreClassFiles core written.items) (ExcessRefusal core) (Err stop)
excess_given core fault stop first h =
    stop_refused (λ e r. r ≡ excess_refusal e) (λ (written : Row ClassFile). AreClassFiles core written.items) (ExcessRefusal core)
    (excess_in fault) stop h (λ e r in_fault says.
    let is : excess_of core ≡ Some e = told_excess fault (excess_of core) e (first (excess_of core) (excess_is core)) in_fault in
    (e, subst (IsFirstExcess core) is (excess_is core), says))

-- ---- the files of a command

abbrev pub Compiles : List Source → Result (Row ClassFile) Stop → Type 0
Compiles files answer = Answers (λ (written : Row ClassFile). AreCompiled files written.items) (FirstRefusal files) answer

pub core_compiled : (files : List Source) (core : Core.Program) (answer : Result (Row ClassFile) Stop) → AreAccepted files core →
    Answers (λ (written : Row ClassFile). AreClassFiles core written.items) (ExcessRefusal core) answer → Compiles files answer
core_compiled files core (Ok written) a g = record { core = core; accepted = a; class_files = g }
core_compiled files core (Err (stops.Refused r)) a g = at_next core a g
core_compiled files core (Err stops.Memory) a g = tt

pub unaccepted_compiled : (files : List Source) (stop : Stop) (answer : Result (Row ClassFile) Stop) → answer ≡ Err stop →
    Answers (IsProgramOf files) (accepted.FirstRefusal files) (Err stop) → Compiles files answer
unaccepted_compiled files stop answer is h =
    refused_by (IsProgramOf files) (accepted.FirstRefusal files) (λ (written : Row ClassFile). AreCompiled files written.items)
    (FirstRefusal files) (λ r first. at_first first) stop h answer is
