-- What is offered at a position of a document: what the variable there may be is told by a program in which some method is called on it.
use Rattle.std.specs.Prelude.{◌≡◌, ℕ, true, Bool, List, [], ◌∷◌, Some, None, slice_get, Contains}
use Rattle.std.specs.Str.{IsUtf8}
use Rattle.mg_text.specs.declared.place.Place.{Place}
use Rattle.jv_core.specs.Tree.{Program}
use Rattle.use_rules.specs.Elements.{Set}
use Rattle.use_rules.specs.Keys.{Tables, AreReached, typestate_of}
use Rattle.use_rules.specs.Tables.{Least}
use Rattle.use_sights.specs.declared.site.Site.{Site}
use Rattle.use_sights.specs.Calls.{all_sites}
use Rattle.use_sights.specs.Sights.{same_place, before}
use Rattle.mg_sources.specs.Files.{Source, sources}
use Rattle.mg_sources.specs.Sources.{Sourced, AreProgram}
use Rattle.mg_accepted.specs.Program.{HaveCore}
use Rattle.lsp_text.specs.declared.encoding.Encoding.{Encoding}
use Rattle.lsp_text.specs.declared.positions.Position.{Position}
use Rattle.lsp_text.specs.Positions.{Means}
use Rattle.lsp_messages.specs.declared.outgoing.Item.{Item}
use Rattle.lsp_offers.specs.declared.spots.Spot.{Spot}
use Rattle.lsp_offers.specs.declared.attempts.Attempt.{Attempt}
use Rattle.lsp_offers.specs.Spots.{spot_at}
use Rattle.lsp_offers.specs.Repaired.{repaired}
use Rattle.lsp_offers.specs.Attempts.{attempts}
use Rattle.lsp_offers.specs.Items.{items_of}
use Rattle.lsp_offers.specs.Documents.{with_document, place_of}

-- a call of a protocol method that stands at a place of a program
pub record IsAt (p : Program) (place : Place) (site : Site) : Type 0 where
  pub listed : Contains (all_sites p) site
  pub there : same_place place site.place ≡ true

-- what the typestate of the method that a call is of offers in these states
abbrev pub items_at : Program → Site → Set → List Item
items_at p s b = elim (slice_get p.methods s.method) [ None ↦ [] | Some k ↦ items_of (typestate_of p k.class).states b ]

-- What is offered where this call stands: in the states that its variable may be in before it, under the least tables.
pub record AreItems (p : Program) (site : Site) (items : List Item) : Type 0 where
  pub reached : List (List Bool)
  pub are : AreReached p reached
  pub tables : Tables
  pub least : Least p reached tables
  pub is : items ≡ items_at p site (before p reached tables site.place)

-- the same by the place of the call
pub record AreItemsAt (p : Program) (place : Place) (items : List Item) : Type 0 where
  pub site : Site
  pub stands : IsAt p place site
  pub are : AreItems p site items

-- no call of a protocol method stands there
abbrev pub NoneAt : Program → Place → Type 0
NoneAt p place = (site : Site) → ¬ IsAt p place site

-- In a program of these files, where a method is being typed at a spot of this text, which is that of the file of this number.
module _ (names contents : List (List ℕ)) (file : ℕ) (text : List ℕ) (offset : ℕ) (spot : Spot) where
  -- the files with a call in place of what is typed
  abbrev pub files_with : Attempt → List Source
  files_with a = sources names (with_document contents file (repaired text spot offset a))

  -- These are a program in which that call is one of a protocol method, and tell what is offered;
  pub record AreOfferedWith (a : Attempt) (items : List Item) : Type 0 where
    pub core : Program
    pub has : HaveCore (files_with a) core
    pub are : AreItemsAt core (place_of file text spot) items

  -- or they are none, or that call isn't one.
  pub record FitsNot (a : Attempt) : Type 0 where
    pub none : (core : Program) → HaveCore (files_with a) core → NoneAt core (place_of file text spot)

  -- The first of these calls that fits tells what is offered, and nothing is where none fits.
  pub data AreOffered : List Attempt → List Item → Type 0 where
    none : AreOffered [] []
    fits : {a : Attempt} {more : List Attempt} {items : List Item} → AreOfferedWith a items → AreOffered (a ∷ more) items
    fits_not : {a : Attempt} {more : List Attempt} {items : List Item} → FitsNot a → AreOffered more items → AreOffered (a ∷ more) items

  -- The typestates are those of the program without the document, which need not spell anything while one types.
  pub data AreOfferedAt : List Item → Type 0 where
    no_program : ((s : Sourced) → ¬ AreProgram (sources names (with_document contents file [])) s) → AreOfferedAt []
    program : {items : List Item} (s : Sourced) → AreProgram (sources names (with_document contents file [])) s →
        AreOffered (attempts s.program.typestates) items → AreOfferedAt items

-- behind an offset of the text, where a method is being typed there
pub data AreOfferedBehind (names contents : List (List ℕ)) (file : ℕ) (text : List ℕ) (offset : ℕ) : List Item → Type 0 where
  no_spot : spot_at text offset ≡ None → AreOfferedBehind names contents file text offset []
  spot : {items : List Item} (s : Spot) → spot_at text offset ≡ Some s → AreOfferedAt names contents file text offset s items →
      AreOfferedBehind names contents file text offset items

-- What is offered at a position of the file of this number; nothing where there is no such file, or its bytes are no text.
pub data AreOffers (encoding : Encoding) (names contents : List (List ℕ)) (file : ℕ) (position : Position) : List Item → Type 0 where
  no_text : ((text : List ℕ) → slice_get contents file ≡ Some text → ¬ IsUtf8 text) → AreOffers encoding names contents file position []
  text : {items : List Item} (t : List ℕ) (offset : ℕ) → slice_get contents file ≡ Some t → IsUtf8 t → Means encoding t position offset →
      AreOfferedBehind names contents file t offset items → AreOffers encoding names contents file position items
