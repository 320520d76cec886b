-- Two first refusals of a program are one, but for the place of Syntax.
use Rattle.std.proofs.Common.{◌≡◌, List, Option, Some, None, refl}
use Rattle.mg_read.specs.Culprit.{Culprit}
use Rattle.jv_rules.specs.declared.condition.Condition.{Condition}
use Rattle.jv_rules.specs.Faults.{IsTableFault, IsFault}
use Rattle.jv_rules.proofs.Once.{one_table, one_in_methods}
use Rattle.mg_refusal.specs.Refusals.{Refusal, AreAlike}
use Rattle.mg_refusal.proofs.Orders.{finds_alike, then_alike}
use Rattle.mg_sources.specs.Files.{Source}
use Rattle.mg_sources.specs.Sources.{Sourced}
use Rattle.mg_sources.proofs.Together.{not_both, one_program}
use Rattle.mg_sources.proofs.Alike as reading
use Rattle.mg_accepted.specs.Program.{type_refusal, TypeRefusal, FirstRefusal}

same_some : {A : Type 0} (x y : A) → Some x ≡ Some y → x ≡ y
same_some x y e = cc

none_some : {P : Type 0} (f : Condition × Culprit) → ◌≡◌ {A = Option (Condition × Culprit)} None (Some f) → P
none_some f e = absurd cc

types_alike : (s : Sourced) (r q : Refusal) → TypeRefusal s r → TypeRefusal s q → AreAlike r q
types_alike s = then_alike
    (finds_alike (λ f. IsTableFault s.program s.origins (Some f)) type_refusal
    (λ f g h k. same_some f g (one_table s.program s.origins (Some f) (Some g) h k)))
    (λ r done found clean. none_some found.0 (one_table s.program s.origins None (Some found.0) clean found.1))
    (λ a b h k. refl)
    (λ done clean. finds_alike (λ f. IsFault s.program (Some f)) type_refusal
    (λ f g h k. same_some f g (one_in_methods s.program (Some f) (Some g) h k)))

pub same_refusal : (files : List Source) (r q : Refusal) → FirstRefusal files r → FirstRefusal files q → AreAlike r q
same_refusal files = then_alike (reading.same_refusal files) (λ r sourced first are. not_both are first) (one_program files)
    (λ sourced are. types_alike sourced)
