-- What reading tokens may answer.
use Rattle.std.specs.Prelude.{◌≡◌, Result, Ok, Err}
use Rattle.mg_read.specs.declared.fault.ParseFault.{ParseFault}
use Rattle.mg_read.specs.declared.fault.ParseFault.TheVariants as faults
use Rattle.ts_parse.specs.declared.written.WrittenTypestate.{WrittenTypestate}
use Rattle.ts_parse.specs.Written.{WFile, wfile_of}

-- this file was read, unless memory ran out
abbrev pub IsReadOrMemory : Result WrittenTypestate ParseFault → WFile → Type 0
IsReadOrMemory (Ok written) w = wfile_of written ≡ w
IsReadOrMemory (Err fault) w = fault ≡ faults.Memory

-- it says that nothing is spelled
abbrev pub SaysSyntax : Result WrittenTypestate ParseFault → Type 0
SaysSyntax (Ok written) = ⊥
SaysSyntax (Err faults.Memory) = ⊥
SaysSyntax (Err (faults.Syntax place)) = Unit {0}
