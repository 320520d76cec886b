-- What reading tokens may answer.
use Rattle.std.specs.Prelude.{◌≡◌, Result, Ok, Err}
use Rattle.scr_parse.specs.declared.fault.ParseFault.{ParseFault}
use Rattle.scr_parse.specs.declared.fault.ParseFault.TheVariants as faults
use Rattle.scr_global_tree.specs.Written.{WrittenTree, written_of}
use Rattle.scr_global_tree.specs.declared.written.WrittenGlobal.{WrittenGlobal}

-- this file was read, unless memory ran out
abbrev pub IsReadOrMemory : Result WrittenGlobal ParseFault → WrittenTree → Type 0
IsReadOrMemory (Ok written) w = written_of w.file written ≡ w
IsReadOrMemory (Err fault) w = fault ≡ faults.Memory

-- it says that nothing is spelled
abbrev pub SaysSyntax : Result WrittenGlobal ParseFault → Type 0
SaysSyntax (Err (faults.Syntax place)) = Unit {0}
SaysSyntax _ = ⊥
