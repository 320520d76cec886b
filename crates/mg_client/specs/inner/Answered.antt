-- What judging a client may answer.
use Rattle.std.specs.Prelude.{Bool, true, false, List, Option, Some, None}
use Rattle.mg_text.specs.Call.{Name}
use Rattle.jv_core.specs.Tree as Core
use Rattle.mg_sources.specs.Files.{Source}
use Rattle.mg_accepted.specs.Accepted.{AreAccepted}
use Rattle.mg_client.specs.declared.files.ClientFile.{ClientFile}
use Rattle.mg_client.specs.Clients.{IsPlayed}

-- whether these files are accepted
abbrev pub IsJudged : List Source → Bool → Type 0
IsJudged files true = (core : Core.Program) × AreAccepted files core
IsJudged files false = (core : Core.Program) → AreAccepted files core → ⊥

-- the client of the file's protocol, which is accepted beside it; or that there is none
abbrev pub IsFound : Option Name → Source → Option ClientFile → Type 0
IsFound package_name source (Some file) = IsPlayed package_name source file
IsFound package_name source None = (file : ClientFile) → IsPlayed package_name source file → ⊥
