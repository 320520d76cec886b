-- What reading tokens may answer.
use Rattle.std.specs.Prelude.{◌≡◌, Option, Some, None, Result, Ok, Err}
use Rattle.scr_tree.specs.Written.{WrittenTree, written_of}
use Rattle.scr_tree.specs.declared.written.Written.{Written}
use Rattle.scr_parse.specs.declared.fault.ParseFault.{ParseFault}
use Rattle.scr_parse.specs.declared.fault.ParseFault.TheVariants as faults

-- what a function returned, seen by view, is what reading gives, unless memory ran out
abbrev pub Fails : {Y : Type 0} → ParseFault → Option Y → Type 0
Fails faults.Memory read = Unit {0}
Fails (faults.Syntax place) read = read ≡ None

abbrev pub Gives : {X Y : Type 0} → (X → Y) → Result X ParseFault → Option Y → Type 0
Gives see (Ok x) read = read ≡ Some (see x)
Gives see (Err e) read = Fails e read

-- this file was read, unless memory ran out
abbrev pub IsReadOrMemory : Result Written ParseFault → WrittenTree → Type 0
IsReadOrMemory (Ok written) w = written_of w.file written ≡ w
IsReadOrMemory (Err fault) w = fault ≡ faults.Memory

-- it says that nothing is spelled
abbrev pub SaysSyntax : Result Written ParseFault → Type 0
SaysSyntax (Err (faults.Syntax place)) = Unit {0}
SaysSyntax _ = ⊥
