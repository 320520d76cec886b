-- What a function that reads tokens says, where its fault has a place.
use Rattle.std.specs.Prelude.{◌≡◌, Option, Some, None, Result, Ok, Err}
use Rattle.mg_read.specs.declared.fault.ParseFault.{ParseFault}
use Rattle.mg_read.specs.declared.fault.ParseFault.TheVariants as faults

-- what a function returned, seen by view, is what reading gives, unless memory ran out
abbrev pub Fails : {Y : Type 0} → ParseFault → Option Y → Type 0
Fails faults.Memory read = Unit {0}
Fails (faults.Syntax place) read = read ≡ None

abbrev pub Gives : {X Y : Type 0} → (X → Y) → Result X ParseFault → Option Y → Type 0
Gives see (Ok x) read = read ≡ Some (see x)
Gives see (Err e) read = Fails e read
