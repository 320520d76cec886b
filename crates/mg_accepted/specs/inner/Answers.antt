-- What the functions that judge a program, and its usages, may answer.
use Rattle.std.specs.Prelude.{◌≡◌, List, Option, Some, None}
use Rattle.jv_rules.specs.Faults.{IsTableFault}
use Rattle.jv_rules.specs.Program.{Program}
use Rattle.use_rules.specs.declared.demand.Demand.{Demand}
use Rattle.use_verdict.specs.declared.verdict.CheckFault.{CheckFault}
use Rattle.use_verdict.specs.declared.verdict.CheckFault.TheVariants as faults
use Rattle.mg_sources.specs.Files.{Source}
use Rattle.mg_sources.specs.Sources.{Sourced, AreProgram}

-- files that are this program, whose declarations have no fault
pub record AreDeclared (files : List Source) (sourced : Sourced) (program : Program) : Type 0 where
  pub are : AreProgram files sourced
  pub is : sourced.program ≡ program
  pub declarations : IsTableFault sourced.program sourced.origins None

-- the demand that a fault tells of
abbrev pub demand_of : CheckFault → Option Demand
demand_of (faults.UseMoved d) = Some d
demand_of (faults.MaybeNull d) = Some d
demand_of (faults.NotOffered d) = Some d
demand_of (faults.LeftOpen d) = Some d
demand_of (faults.Overwritten d) = Some d
demand_of (faults.FieldOpenAtEnd d) = Some d
demand_of faults.Memory = None
