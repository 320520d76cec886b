-- The program of a document: the sources of its folder, in the order of their names.
use Rattle.std.specs.Prelude.{◌≡◌, ℕ, String, ◌&&◌, not, Bool, List, [], ◌∷◌, ◌++◌, map, filter, Some, None, string_bytes}
use Rattle.std.specs.declared.alloc.Global.{Global}
use Rattle.std.specs.Ordering.{nat_cmp, is_lt}
use Rattle.std.specs.Cmp.Lexicographic.{slice_cmp}
use Rattle.std.specs.List.{list_any}
use Rattle.std.specs.List.Sorted.{IsPermutation, IsSortedBy}
use Rattle.std.specs.Str.{bytes_eq}
use Rattle.lsp_text.specs.declared.documents.Document.{Document}
use Rattle.lsp_text.specs.declared.documents.Documents.{Documents}
use Rattle.lsp_text.specs.Documents.{entries}
use Rattle.lsp_folder.specs.declared.program.File.{File}
use Rattle.lsp_folder.specs.declared.program.Member.{Member}
use Rattle.lsp_folder.specs.declared.program.Program.{Program}
use Rattle.lsp_folder.specs.Names.{is_part, plain}

-- Those that are open in the folder of the document, by their text in the editor.
abbrev pub is_open : (document : List ℕ) → String Global × Document → Bool
is_open document e = is_part document (string_bytes e.0)

abbrev pub open_member : String Global × Document → Member
open_member e = record { name = string_bytes e.0; version = Some e.1.version; contents = string_bytes e.1.text }

abbrev pub open_members : Documents → (document : List ℕ) → List Member
open_members documents document = map open_member (filter (is_open document) (entries documents))

-- The others, as they were read. Clients escape more or less in a name, and write its front in several ways, so a file is open where some
-- open document's name reads as its own does.
abbrev pub open_names : Documents → List (List ℕ)
open_names documents = map (λ e. plain (string_bytes e.0)) (entries documents)

abbrev pub is_read : (names : List (List ℕ)) → (document : List ℕ) → File → Bool
is_read names document f = is_part document f.name && not (list_any (λ name. bytes_eq name (plain f.name)) names)

abbrev pub read_member : File → Member
read_member f = record { name = f.name; version = None; contents = f.contents }

abbrev pub read_among : (names : List (List ℕ)) → (document : List ℕ) → List File → List Member
read_among names document files = map read_member (filter (is_read names document) files)

abbrev pub read_members : Documents → (document : List ℕ) → List File → List Member
read_members documents document files = read_among (open_names documents) document files

-- the sources that count: where none of the folder is open, none
abbrev pub counted : List Member → List Member → List Member
counted [] read = []
counted (m ∷ ms) read = (m ∷ ms) ++ read

-- by the bytes of their names
abbrev pub stands_before : Member → Member → Bool
stands_before a b = is_lt (slice_cmp nat_cmp a.name b.name)

-- These are the sources of the folder of the document, of files that were read there; what is open counts by its text in the editor.
pub record AreMembers (documents : Documents) (document : List ℕ) (files : List File) (members : List Member) : Type 0 where
  pub all : IsPermutation (counted (open_members documents document) (read_members documents document files)) members
  pub sorted : IsSortedBy stands_before members

-- the program has these, one by one
pub record IsProgramOf (documents : Documents) (document : List ℕ) (files : List File) (program : Program) : Type 0 where
  pub members : List Member
  pub are : AreMembers documents document files members
  pub names : program.names.items ≡ map (λ m. m.name) members
  pub contents : program.contents.items ≡ map (λ m. m.contents) members
  pub versions : program.versions.items ≡ map (λ m. m.version) members
