-- What is being typed, as the code keeps it.
use Rattle.std.specs.Prelude.{◌≡◌, ◌<◌, ◌≤◌, ◌^◌, ℕ, List, length}
use Rattle.jv_core.specs.Tree.{Program}
use Rattle.mg_sources.specs.Files.{Source, HaveKinds}
use Rattle.mg_accepted.specs.Program.{HaveCore}
use Rattle.lsp_messages.specs.declared.outgoing.Item.{Item}
use Rattle.lsp_offers.specs.declared.attempts.Attempt.{Attempt}
use Rattle.lsp_offers.specs.declared.typing.Typing.{Typing}
use Rattle.lsp_offers.specs.Repaired.{repaired}
use Rattle.lsp_offers.specs.Documents.{with_document, place_of}
use Rattle.lsp_offers.specs.Offered.{files_with, AreOfferedWith, FitsNot, AreOffered, AreOfferedAt}

-- files that a program is made of
pub record AreFiles (names contents : List (List ℕ)) : Type 0 where
  pub same : length names ≡ length contents
  pub count : length contents < 2 ^ 32
  pub kinds : HaveKinds names

-- the files have this core, and no other
pub record IsOnlyCore (files : List Source) (core : Program) : Type 0 where
  pub has : HaveCore files core
  pub only : (other : Program) → HaveCore files other → core ≡ other

pub record IsTyping (t : Typing) : Type 0 where
  pub files : AreFiles t.names.now t.contents.now
  pub within : t.file < length t.contents.now
  pub dot : t.spot.dot < length t.text.now
  pub offset : t.offset ≤ length t.text.now
  pub place : t.place ≡ place_of t.file t.text.now t.spot

module _ (t : Typing) where
  abbrev pub contents_with : Attempt → List (List ℕ)
  contents_with a = with_document t.contents.now t.file (repaired t.text.now t.spot t.offset a)

  abbrev pub files_of : Attempt → List Source
  files_of = files_with t.names.now t.contents.now t.file t.text.now t.offset t.spot

  abbrev pub Offered : Attempt → List Item → Type 0
  Offered = AreOfferedWith t.names.now t.contents.now t.file t.text.now t.offset t.spot

  abbrev pub Unfit : Attempt → Type 0
  Unfit = FitsNot t.names.now t.contents.now t.file t.text.now t.offset t.spot

  abbrev pub AllOffered : List Attempt → List Item → Type 0
  AllOffered = AreOffered t.names.now t.contents.now t.file t.text.now t.offset t.spot

  abbrev pub Here : List Item → Type 0
  Here = AreOfferedAt t.names.now t.contents.now t.file t.text.now t.offset t.spot
