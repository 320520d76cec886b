-- What verifying a program may answer.
use Rattle.std.specs.Prelude.{◌≡◌, ℕ, List, Option, Some, None}
use Rattle.vm_model.specs.Program.{Program}
use Rattle.cls_verify.specs.Typing.{AllTypable}
use Rattle.cls_search.specs.declared.fault.VerifyFault.{VerifyFault}
use Rattle.cls_search.specs.declared.fault.VerifyFault.TheVariants as faults
use Rattle.mg_verified.specs.Verified.{Member, methods_of, verified_line}

-- the methods of a program all have typings, and this line tells how many they are
pub record IsTyped (p : Program) (line : List ℕ) : Type 0 where
  pub typable : AllTypable p
  pub told : line ≡ verified_line (methods_of p)

-- the method that a fault tells of
abbrev pub untypable_in : VerifyFault → Option Member
untypable_in (faults.Unverified class method) = Some (record { class = class; method = method })
untypable_in faults.Memory = None
