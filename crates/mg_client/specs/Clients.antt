-- The clients of files of protocols, and the first refusal of files that have none.
use Rattle.std.specs.Prelude.{◌≡◌, List, [], ◌∷◌, ◌++◌, codes, Option, Some, None}
use Rattle.mg_text.specs.Call.{Name}
use Rattle.mg_text.specs.Places.{start_of}
use Rattle.mg_read.specs.First.{Judged, with_earlier}
use Rattle.scr_tree.specs.Tree.{LocalTree}
use Rattle.stm_api.specs.Api.{ApiText}
use Rattle.stm_client.specs.Client.{client_of}
use Rattle.api_package.specs.Heads.{head}
use Rattle.jv_core.specs.Tree as Core
use Rattle.mg_refusal.specs.Refusals.{Refusal, refusal_at}
use Rattle.mg_refusal.specs.Order.{Then}
use Rattle.mg_sources.specs.Files.{Source, sources}
use Rattle.mg_sources.specs.Reading.{Part, Protocol, Reads, EachSpells}
use Rattle.mg_sources.specs.Sources.{SharesRole, IsOfRole}
use Rattle.mg_sources.specs.Sources as reading
use Rattle.mg_accepted.specs.Accepted.{AreAccepted}
use Rattle.mg_client.specs.declared.files.ClientFile.{ClientFile}

-- the file of a client, in a package where one is named: before it stand the package's line and an empty one
abbrev pub packed : Option Name → ApiText → ClientFile
packed None file = record { name = file.name; text = file.text }
packed (Some package_name) file = record { name = file.name; text = head package_name [] ++ file.text }

-- the client of the protocol that the file spells
pub record IsClient (package_name : Option Name) (source : Source) (file : ClientFile) : Type 0 where
  pub local : LocalTree
  pub spelled : Reads source (Protocol local)
  pub made : ApiText
  pub is : client_of local ≡ Some made
  pub packs : file ≡ packed package_name made

-- `check` accepts it beside the file
pub record IsPlayed (package_name : Option Name) (source : Source) (file : ClientFile) : Type 0 where
  pub client : IsClient package_name source file
  pub core : Core.Program
  pub accepted : AreAccepted (sources (source.name ∷ file.name ∷ []) (source.bytes ∷ file.text ∷ [])) core

-- so it is of each of the files, in their order
abbrev pub EachPlays : Option Name → List Source → List ClientFile → Type 0
EachPlays package_name [] [] = Unit {0}
EachPlays package_name [] (file ∷ files) = ⊥
EachPlays package_name (source ∷ sources) [] = ⊥
EachPlays package_name (source ∷ sources) (file ∷ files) = IsPlayed package_name source file × EachPlays package_name sources files

-- the file's protocol has no client that is accepted beside it, and is refused so
pub record IsUnaccepted (package_name : Option Name) (source : Source) (r : Refusal) : Type 0 where
  pub role : Name
  pub of_role : IsOfRole source role
  pub never : (file : ClientFile) → IsPlayed package_name source file → ⊥
  pub said : r ≡ refusal_at (codes "NotAccepted") (start_of source.number) role

-- These are the clients of the files: each spells a protocol, and no two are of one role.
pub record AreClients (package_name : Option Name) (files : List Source) (clients : List ClientFile) : Type 0 where
  pub each : EachPlays package_name files clients
  pub apart : Judged SharesRole (with_earlier files) None

-- each of the files spells one of these, and no two are protocols of one role
pub record AreApart (files : List Source) (parts : List Part) : Type 0 where
  pub each : EachSpells files parts
  pub apart : Judged SharesRole (with_earlier files) None

-- The first refusal of these files: by what they spell and by their roles, or else of the first whose client isn't accepted.
abbrev pub FirstRefusal : Option Name → List Source → Refusal → Type 0
FirstRefusal package_name files =
    Then (reading.FirstRefusal files) (AreApart files) (λ parts r. Judged (IsUnaccepted package_name) files (Some r))
