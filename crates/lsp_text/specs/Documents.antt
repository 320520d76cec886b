-- Which documents stand, and what an opening, a change and a closing make of them.
use Rattle.std.specs.Prelude.{false, String, ◌≡◌, ℕ, ℤ, List, Option, Some, string_bytes, if◌then◌else◌}
use Rattle.std.specs.declared.alloc.Global.{Global}
use Rattle.std.specs.Option.{option_map}
use Rattle.std.specs.Str.{bytes_eq}
use Rattle.std.specs.BTreeMap.{get_by_text}
use Rattle.lsp_text.specs.declared.encoding.Encoding.{Encoding}
use Rattle.lsp_text.specs.declared.changes.Change.{Change}
use Rattle.lsp_text.specs.declared.documents.Document.{Document}
use Rattle.lsp_text.specs.declared.documents.Documents.{Documents}
use Rattle.lsp_text.specs.Changes.{AreApplied}

-- a document: its version and its text
pub record Standing : Type 0 where
  pub version : ℤ
  pub text : List ℕ

abbrev pub shown : Document → Standing
shown d = record { version = d.version; text = string_bytes d.text }

-- the documents with their names, as their map has them
abbrev pub entries : Documents → List (String Global × Document)
entries documents = documents.by_name.entries

-- what stands at a name, if anything does
abbrev pub document_at : Documents → List ℕ → Option Standing
document_at documents name = option_map shown (get_by_text documents.by_name name)

-- at this name this stands, or nothing, and at every other what stood there before
abbrev pub Puts : Documents → Documents → List ℕ → Option Standing → Type 0
Puts old new name document = (q : List ℕ) → document_at new q ≡ (if bytes_eq name q then document else document_at old q)

-- at every other name what stood there stays
abbrev pub KeepsOthers : Documents → Documents → List ℕ → Type 0
KeepsOthers old new name = (q : List ℕ) → bytes_eq name q ≡ false → document_at new q ≡ document_at old q

-- the changes are made in the document of this name, which is open, and it has this version
pub record Changes (encoding : Encoding) (old new : Documents) (name : List ℕ) (version : ℤ) (changes : List Change) : Type 0 where
  pub before : Standing
  pub after : List ℕ
  pub was : document_at old name ≡ Some before
  pub applied : AreApplied encoding changes before.text after
  pub now : Puts old new name (Some (record { version = version; text = after }))
