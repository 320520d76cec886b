-- What reading a file's tokens may answer.
use Rattle.std.specs.Prelude.{◌≡◌, Result, Ok, Err}
use Rattle.mg_read.specs.Culprit.{Culprit, culprit}
use Rattle.jv_tree.specs.declared.tree.File.{File as KeptFile}
use Rattle.jv_tree.specs.Source.{File}
use Rattle.jv_tree.specs.View.{file_of}
use Rattle.jv_parse.specs.declared.fault.ParseFault.{ParseFault}
use Rattle.jv_parse.specs.declared.fault.ParseFault.TheVariants as faults

-- this file was read, unless memory ran out
abbrev pub IsReadOrMemory : Result KeptFile ParseFault → File → Type 0
IsReadOrMemory (Ok file) f = file_of file ≡ f
IsReadOrMemory (Err fault) f = fault ≡ faults.Memory

-- it says that this token isn't supported
abbrev pub SaysUnsupported : Result KeptFile ParseFault → Culprit → Type 0
SaysUnsupported (Err (faults.Unsupported place text)) c = c ≡ culprit place text
SaysUnsupported (Err (faults.Syntax place)) c = ⊥
SaysUnsupported (Err faults.Memory) c = ⊥
SaysUnsupported (Ok file) c = ⊥

-- it says so, or memory ran out
abbrev pub IsRefusedOrMemory : Result KeptFile ParseFault → Culprit → Type 0
IsRefusedOrMemory (Err (faults.Unsupported place text)) c = c ≡ culprit place text
IsRefusedOrMemory (Err (faults.Syntax place)) c = ⊥
IsRefusedOrMemory (Err faults.Memory) c = Unit {0}
IsRefusedOrMemory (Ok file) c = ⊥

-- it says that nothing is spelled
abbrev pub SaysSyntax : Result KeptFile ParseFault → Type 0
SaysSyntax (Err (faults.Syntax place)) = Unit {0}
SaysSyntax (Err (faults.Unsupported place text)) = ⊥
SaysSyntax (Err faults.Memory) = ⊥
SaysSyntax (Ok file) = ⊥
