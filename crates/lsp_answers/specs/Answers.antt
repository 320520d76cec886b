-- What is answered to a question about a document of a program.
use Rattle.std.specs.Prelude.{◌≡◌, ℕ, List, Option, Some, None, Vec}
use Rattle.std.specs.declared.alloc.Global.{Global}
use Rattle.mg_text.specs.Call.{Name}
use Rattle.mg_sources.specs.Files.{Source, source_of, Java, IsOf}
use Rattle.lsp_text.specs.declared.encoding.Encoding.{Encoding}
use Rattle.lsp_text.specs.declared.positions.Position.{Position}
use Rattle.lsp_messages.specs.declared.incoming.Question.{Question}
use Rattle.lsp_messages.specs.declared.incoming.Question.TheVariants as questions
use Rattle.lsp_messages.specs.declared.outgoing.Answer.{Answer}
use Rattle.lsp_messages.specs.declared.outgoing.Answer.TheVariants as answers
use Rattle.lsp_messages.specs.declared.outgoing.Hint.{Hint}
use Rattle.lsp_messages.specs.declared.outgoing.Item.{Item}
use Rattle.lsp_messages.specs.declared.outgoing.Location.{Location}
use Rattle.lsp_messages.specs.declared.outgoing.Symbol.{Symbol}
use Rattle.lsp_sights.specs.Answers.{bytes_at, AreHinted, IsHovered}
use Rattle.lsp_offers.specs.Offered.{AreOffers}
use Rattle.lsp_defined.specs.Definitions.{AreDefinitions}
use Rattle.lsp_defined.specs.Hovers.{IsHoverOver}
use Rattle.lsp_symbols.specs.Symbols.{AreSymbols}
use Rattle.lsp_drawing.specs.Drawings.{IsDrawing}

-- the document of a number, as it is read for itself: its name, by which the editor knows it, and its bytes
abbrev pub document_of : (names contents : List (List ℕ)) → (file : ℕ) → Source
document_of names contents file = source_of 0 (bytes_at names file) (bytes_at contents file)

-- the symbols of what a document declares
abbrev pub AreDeclared : Encoding → Source → Answer → Type 0
AreDeclared encoding document a =
    (symbols : Vec Symbol Global) × (a ≡ answers.Symbols symbols) × AreSymbols encoding document.name document.bytes symbols.items

-- a diagram, or nothing where there is none
abbrev pub drawn : Option Name → Answer
drawn None = answers.Nothing
drawn (Some text) = answers.Diagram text

abbrev pub IsDiagram : Source → Answer → Type 0
IsDiagram document a = (drawing : Option Name) × (a ≡ drawn drawing) × IsDrawing document drawing

module _ (encoding : Encoding) (names contents : List (List ℕ)) (file : ℕ) where
  abbrev document : Source
  document = document_of names contents file

  -- Over a Java source stands what its calls find, and over a protocol or a typestate what the names in it are.
  pub data IsHover (position : Position) (a : Answer) : Type 0 where
    of_calls : IsOf Java document → IsHovered encoding names contents file position a → IsHover position a
    of_names : (IsOf Java document → ⊥) → IsHoverOver encoding names contents file position a → IsHover position a

  -- The answer to a question about the document of this number.
  abbrev pub IsAnswered : Question → Answer → Type 0
  IsAnswered (questions.Hover point) a = IsHover point.position a
  IsAnswered (questions.Completion point) a =
      (items : Vec Item Global) × (a ≡ answers.Completion items) × AreOffers encoding names contents file point.position items.items
  IsAnswered (questions.Definition point) a =
      (locations : Vec Location Global) × (a ≡ answers.Definition locations)
      × AreDefinitions encoding names contents file point.position locations.items
  IsAnswered (questions.Hints name range) a =
      (hints : Vec Hint Global) × (a ≡ answers.Hints hints) × AreHinted encoding names contents file range hints.items
  IsAnswered (questions.Symbols name) a = AreDeclared encoding document a
  IsAnswered (questions.Diagram name) a = IsDiagram document a
