-- Which files are accepted, and the first refusal of those that aren't.
use Rattle.std.specs.Prelude.{List}
use Rattle.jv_core.specs.Tree as Core
use Rattle.use_verdict.specs.Verdict.{IsAccepted, FailsFirst}
use Rattle.mg_refusal.specs.Refusals.{Refusal}
use Rattle.mg_refusal.specs.Order.{Finds, Then}
use Rattle.mg_sources.specs.Files.{Source}
use Rattle.mg_accepted.specs.Program.{HaveCore}
use Rattle.mg_accepted.specs.Program as program
use Rattle.mg_accepted.specs.Demands.{demand_refusal}

-- These files are a well typed program, this is its core, and some tables solve it.
pub record AreAccepted (files : List Source) (core : Core.Program) : Type 0 where
  pub have : HaveCore files core
  pub solved : IsAccepted core

-- The first refusal of these files: of those that are no well typed program, or else by the first demand that fails under the least tables.
abbrev pub FirstRefusal : List Source → Refusal → Type 0
FirstRefusal files = Then (program.FirstRefusal files) (HaveCore files) (λ core. Finds (FailsFirst core) (demand_refusal core))
