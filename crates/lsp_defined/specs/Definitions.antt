-- Where the method of a call is defined.
use Rattle.std.specs.Prelude.{◌≡◌, ℕ, List, [], ◌∷◌, Option, Some, None, filter, slice_get}
use Rattle.mg_text.specs.Call.{Name}
use Rattle.mg_text.specs.declared.place.Place.{Place}
use Rattle.jv_core.specs.Tree.{Method, Program}
use Rattle.jv_core.specs.Lookup.{text_at}
use Rattle.mg_sources.specs.Files.{Source, sources}
use Rattle.mg_sources.specs.Reading.{Part, Protocol, States, Classes}
use Rattle.lsp_text.specs.declared.encoding.Encoding.{Encoding}
use Rattle.lsp_text.specs.declared.positions.Position.{Position}
use Rattle.lsp_text.specs.Positions.{Means}
use Rattle.lsp_messages.specs.declared.outgoing.Location.{Location}
use Rattle.lsp_sights.specs.declared.located.Located.{Located}
use Rattle.lsp_sights.specs.Located.{covers}
use Rattle.lsp_sights.specs.Answers.{AreCalls, IsTold, bytes_at}
use Rattle.lsp_defined.specs.Files.{IsPartOf}
use Rattle.lsp_defined.specs.Called.{places_called}
use Rattle.lsp_defined.specs.Locations.{AreLocated}

-- Where a file defines a method that comes from it, by what the file spells, by the method's place and by its name. The class of a role is
-- made of a protocol: each of its messages, or the choice, for which the call stands. Another class is written in its file: the method
-- stands in its class. From a typestate comes none.
abbrev pub defined_in : Option Part → Place → (name : Name) → List Place
defined_in None place name = []
defined_in (Some (Protocol local)) place name = places_called local name
defined_in (Some (States typestate)) place name = []
defined_in (Some (Classes file)) place name = place ∷ []

-- what a file defines, as ranges of it
pub record AreFrom (encoding : Encoding) (source : Source) (place : Place) (name : Name) (locations : List Location) : Type 0 where
  pub part : Option Part
  pub spells : IsPartOf source part
  pub are : AreLocated encoding source.name source.bytes (defined_in part place name) locations

-- no file, no range
abbrev pub AreOfFile : Encoding → Option Source → Place → (name : Name) → List Location → Type 0
AreOfFile encoding None place name ls = ls ≡ []
AreOfFile encoding (Some source) place name ls = AreFrom encoding source place name ls

module _ (encoding : Encoding) (files : List Source) (p : Program) where
  -- The place of a method tells from which file it comes: that of its class, or that of the protocol for whose role its class is made.
  abbrev pub AreOfMethod : Option Method → List Location → Type 0
  AreOfMethod None ls = ls ≡ []
  AreOfMethod (Some m) ls = AreOfFile encoding (slice_get files m.place.file) m.place (text_at p m.name) ls

  -- of the first of these calls, where there is one
  abbrev pub AreOfCalls : List Located → List Location → Type 0
  AreOfCalls [] ls = ls ≡ []
  AreOfCalls (c ∷ cs) ls = AreOfMethod (slice_get p.methods c.site.method) ls

  -- Where the method of the first call is defined whose path covers a position of this text, which is that of the file of a number.
  pub record AreAt (text : List ℕ) (file : ℕ) (position : Position) (locations : List Location) : Type 0 where
    pub calls : List Located
    pub are : AreCalls p text file calls
    pub offset : ℕ
    pub means : Means encoding text position offset
    pub defined : AreOfCalls (filter (covers offset) calls) locations

-- The answer over a position of the file of this number, one of those that a program has: nothing where there is no program.
abbrev pub AreDefinitions : (encoding : Encoding) (names contents : List (List ℕ)) (file : ℕ) → Position → List Location → Type 0
AreDefinitions encoding names contents file position locations =
    IsTold (sources names contents) (bytes_at contents file)
    (λ p. AreAt encoding (sources names contents) p (bytes_at contents file) file position locations)
    (locations ≡ [])
