-- What a function that reads tokens from the left says of reading a list.
use Rattle.std.specs.Prelude.{◌≡◌, Option, Some, None, Result, Ok, Err}
use Rattle.jv_parse.specs.declared.halt.Halt.{Halt}
use Rattle.jv_parse.specs.declared.halt.Halt.TheVariants as halts

-- nothing was read, unless memory ran out
abbrev pub Fails : {Y : Type 0} → Halt → Option Y → Type 0
Fails halts.Memory read = Unit {0}
Fails (halts.Syntax left) read = read ≡ None

-- What a function returned, seen by view, is what reading gives, unless memory ran out.
abbrev pub Gives : {X Y : Type 0} → (X → Y) → Result X Halt → Option Y → Type 0
Gives see (Ok x) read = read ≡ Some (see x)
Gives see (Err e) read = Fails e read
