-- Type faults are refusals of the program.
use Rattle.std.proofs.Common.{◌≡◌, Option, Some, None, Err, subst}
use Rattle.mg_read.specs.Culprit.{Culprit}
use Rattle.jv_rules.specs.Faults.{IsTableFault, IsFault}
use Rattle.jv_rules.specs.Program.{Program}
use Rattle.jv_rules.specs.declared.condition.Condition.{Condition}
use Rattle.jv_types.specs.declared.fault.TypeFault.{TypeFault}
use Rattle.jv_types.specs.Outcome.{fault_told, TellsFault}
use Rattle.mg_refusal.specs.Order.{Answers, Finds, IsStopOf, at_first}
use Rattle.mg_refusal.specs.Refusals.{Refusal}
use Rattle.mg_refusal.specs.declared.stop.Stop.{Stop}
use Rattle.mg_refusal.proofs.Orders.{stop_refused}
use Rattle.mg_sources.specs.Sources.{Sourced}
use Rattle.mg_accepted.specs.Program.{type_refusal, TypeRefusal}

-- what a fault tells of there is
of_told : (Is : Option (Condition × Culprit) → Type 0) (fault : TypeFault) (told : Condition × Culprit) → fault_told fault ≡ Some told →
    TellsFault Is fault → Is (Some told)
of_told Is fault told e h = go (fault_told fault) e h where
  go : (t : Option (Condition × Culprit)) → t ≡ Some told →
      elim t as (λ (z : Option (Condition × Culprit)). Type 0) [ None ↦ Unit {0} | Some f ↦ Is (Some f) ] → Is (Some told)
  go None e' k = absurd (let no : ⊥ = cc in no)
  go (Some f) e' k = subst Is e' k

-- nothing is told of what isn't answered
abbrev pub unsaid : Unit {0} → Type 0
unsaid done = Unit {0}

-- this is the first refusal, or memory is wanted
abbrev pub Stops : (First : Refusal → Type 0) → Stop → Type 0
Stops First stop = Answers unsaid First (Err stop)

module _ (fault : TypeFault) (stop : Stop) (stops : IsStopOf (λ f r. r ≡ type_refusal f) (fault_told fault) stop) where
  -- a fault of the declarations
  pub table_refused : (sourced : Sourced) → TellsFault (IsTableFault sourced.program sourced.origins) fault →
      Stops (TypeRefusal sourced) stop
  table_refused sourced h =
      stop_refused (λ f r. r ≡ type_refusal f) unsaid (TypeRefusal sourced) (fault_told fault) stop stops
      (λ f r e says. at_first (f, of_told (IsTableFault sourced.program sourced.origins) fault f e h, says))

  -- and of the methods
  pub method_refused : (program : Program) → TellsFault (IsFault program) fault →
      Stops (Finds (λ f. IsFault program (Some f)) type_refusal) stop
  method_refused program h =
      stop_refused (λ f r. r ≡ type_refusal f) unsaid (Finds (λ f. IsFault program (Some f)) type_refusal) (fault_told fault) stop stops
      (λ f r e says. (f, of_told (IsFault program) fault f e h, says))
