-- What an answer that was handed on still says.
use Rattle.std.proofs.Common.{◌≡◌, ℕ, List, Result, Ok, Err, refl, sym, subst}
use Rattle.std.specs.Prelude.{IfOk, IsErr, IsErrOf}
use Rattle.mg_io.specs.Outside.{Rose, Counts}
use Rattle.mg_io.specs.Fakes.{counted_if_failed}
use Rattle.mg_io.specs.declared.fault.IoFault.{IoFault}
use Rattle.mg_io.specs.declared.fault.IoFault.TheVariants.{Failed, Memory}

-- a count that is one more where a call failed, and then rose, counts it
pub counts_where_counted : (result : Result Unit IoFault) (old new : ℕ) → new ≡ counted_if_failed result old
    → (IsErr result → Rose old new) → Counts result old new
counts_where_counted (Ok _) old new counted risen = counted
counts_where_counted (Err Failed) old new counted risen = risen refl
counts_where_counted (Err Memory) old new counted risen = counted

-- what was read is told of some file where it was opened
of_some : {X E : Type 0} (P : X → List ℕ → Type 0) (opened : Result X E) (read : Result (List ℕ) IoFault)
    → IfOk opened (λ file. IfOk read (P file)) → (IsErr opened → IsErrOf read Failed)
    → IfOk read (λ bytes. (file : X) × P file bytes)
of_some P opened (Err e) told refused = tt
of_some P (Ok file) (Ok bytes) told refused = (file, told)
of_some P (Err e) (Ok bytes) told refused = absurd (cc (refused refl))

-- and so it is of what is answered
pub of_some_file : {X E : Type 0} (P : X → List ℕ → Type 0) (opened : Result X E) (read answered : Result (List ℕ) IoFault)
    → IfOk opened (λ file. IfOk read (P file)) → (IsErr opened → IsErrOf read Failed) → answered ≡ read
    → IfOk answered (λ bytes. (file : X) × P file bytes)
of_some_file {X} P opened read answered told refused same =
    subst (λ a. IfOk a (λ bytes. (file : X) × P file bytes)) (sym same) (of_some P opened read told refused)
