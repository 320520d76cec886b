-- What a fault of the verifier says.
use Rattle.std.specs.Prelude.{◌≡◌, ◌⊎◌, ◌<◌, ℕ, Option, Some, None}
use Rattle.mg_text.specs.Call.{Name}
use Rattle.vm_model.specs.Program.{Program, MethodOf, class_name, method_at}
use Rattle.cls_verify.specs.Typing.{Typing, AllTypable}
use Rattle.cls_search.specs.declared.program.Place.{Place}
use Rattle.cls_search.specs.declared.fault.VerifyFault.{VerifyFault}
use Rattle.cls_search.specs.declared.fault.VerifyFault.TheVariants as faults

-- by the order of the classes and of their methods
abbrev pub IsBefore : (c m class method : ℕ) → Type 0
IsBefore c m class method = (c < class) ⊎ ((c ≡ class) × (m < method))

-- the first method that has no typing, by its numbers
pub record FirstAt (p : Program) (class method : ℕ) : Type 0 where
  pub found : MethodOf
  pub there : method_at p class method ≡ Some found
  pub untypable : Typing p class method found → ⊥
  pub before : (c m : ℕ) (other : MethodOf) → method_at p c m ≡ Some other → IsBefore c m class method → Typing p c m other

abbrev pub FirstOrAll : Program → Option Place → Type 0
FirstOrAll p None = AllTypable p
FirstOrAll p (Some place) = FirstAt p place.class place.method

-- the same by its name and that of its class
pub record FirstUntypable (p : Program) (class_is method_is : Name) : Type 0 where
  pub class : ℕ
  pub method : ℕ
  pub first : FirstAt p class method
  pub class_named : class_is ≡ class_name p class
  pub method_named : method_is ≡ first.found.name

abbrev pub Says : Program → VerifyFault → Type 0
Says p (faults.Unverified class method) = FirstUntypable p class method
Says p faults.Memory = Unit {0}
