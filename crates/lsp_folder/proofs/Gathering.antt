-- The sources that count, and the program that they are.
use Rattle.std.proofs.Common.{◌≡◌, ℕ, List, map, ap}
use Rattle.std.specs.Prelude.{Result, Ok, Err, IfOk}
use Rattle.mg_text.specs.declared.memory.Memory.{Memory}
use Rattle.lsp_text.specs.declared.documents.Documents.{Documents}
use Rattle.lsp_folder.specs.declared.program.File.{File}
use Rattle.lsp_folder.specs.declared.program.Member.{Member}
use Rattle.lsp_folder.specs.declared.program.Program.{Program}
use Rattle.lsp_folder.specs.Programs.{AreMembers, IsProgramOf}

-- a program of sources that are the folder's
pub parted_is : (documents : Documents) (document : List ℕ) (files : List File) (members : List Member) →
    AreMembers documents document files members → (r : Result Program Memory) →
    IfOk r (λ p. p.names.items ≡ map (λ m. m.name) members) → IfOk r (λ p. p.contents.items ≡ map (λ m. m.contents) members) →
    IfOk r (λ p. p.versions.items ≡ map (λ m. m.version) members) → IfOk r (IsProgramOf documents document files)
parted_is documents document files members are (Ok p) names contents versions =
    record { members = members; are = are; names = names; contents = contents; versions = versions }
parted_is documents document files members are (Err e) names contents versions = tt
