-- Which files are a well typed program, the core of it, and the first refusal of those that are none.
use Rattle.std.specs.Prelude.{◌≡◌, List, Some, None}
use Rattle.mg_read.specs.Culprit.{Culprit, culprit}
use Rattle.jv_core.specs.Tree as Core
use Rattle.jv_names.specs.Resolves.{Resolves}
use Rattle.jv_resolve_law.specs.Members.{resolving}
use Rattle.jv_rules.specs.Program.{Program}
use Rattle.jv_rules.specs.Faults.{IsTableFault, IsFault}
use Rattle.jv_rules.specs.declared.condition.Condition.{Condition}
use Rattle.mg_refusal.specs.Refusals.{Refusal, refusal_at}
use Rattle.mg_refusal.specs.Order.{Finds, Then}
use Rattle.mg_sources.specs.Files.{Source}
use Rattle.mg_sources.specs.Sources.{Sourced, AreProgram}
use Rattle.mg_sources.specs.Sources as reading
use Rattle.mg_accepted.specs.Words.{type_word}

-- a condition that is at fault, as a refusal
abbrev pub type_refusal : Condition × Culprit → Refusal
type_refusal (condition, culprit place name) = refusal_at (type_word condition) place name

-- These files are this program, which is well typed.
pub record AreWellTyped (files : List Source) (program : Program) : Type 0 where
  pub sourced : Sourced
  pub is : sourced.program ≡ program
  pub are : AreProgram files sourced
  pub declarations : IsTableFault program sourced.origins None
  pub methods : IsFault program None

-- These files are a well typed program, and this core is the one that stands for it.
pub record HaveCore (files : List Source) (core : Core.Program) : Type 0 where
  pub program : Program
  pub are : AreWellTyped files program
  pub stands : Resolves program core
  pub resolved : resolving program ≡ Some core

-- The first refusal of a program: by the types of what is declared, or else by those in the methods.
abbrev pub TypeRefusal : Sourced → Refusal → Type 0
TypeRefusal sourced =
    Then (Finds (λ f. IsTableFault sourced.program sourced.origins (Some f)) type_refusal)
    (λ (done : Unit {0}). IsTableFault sourced.program sourced.origins None)
    (λ done. Finds (λ f. IsFault sourced.program (Some f)) type_refusal)

-- The first refusal of these files: by their readers, or because two are protocols of one role; or else by their types.
abbrev pub FirstRefusal : List Source → Refusal → Type 0
FirstRefusal files = Then (reading.FirstRefusal files) (AreProgram files) TypeRefusal
