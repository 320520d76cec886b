-- What resolving answers, against what is meant. Memory may be wanting at any point.
use Rattle.std.specs.Prelude.{◌≡◌, Option, Some, None, Result, Ok, Err}
use Rattle.jv_resolve.specs.declared.given.Unresolved.{Unresolved}
use Rattle.jv_resolve.specs.declared.given.Unresolved.TheVariants as ends

-- a fault comes only where nothing is meant
abbrev pub Fails : {Y : Type 0} → Unresolved → Option Y → Type 0
Fails ends.Memory meant = Unit {0}
Fails ends.Fault meant = meant ≡ None

-- the answer is what is meant
abbrev pub Gives : {X Y : Type 0} → (X → Y) → Result X Unresolved → Option Y → Type 0
Gives see (Ok x) meant = meant ≡ Some (see x)
Gives see (Err e) meant = Fails e meant
