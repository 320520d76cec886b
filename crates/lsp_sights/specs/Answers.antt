-- What is shown of a document of a program.
use Rattle.std.specs.Prelude.{◌≡◌, ℕ, Bool, List, [], ◌∷◌, None, Some, filter, slice_get}
use Rattle.std.specs.Str.{IsUtf8}
use Rattle.mg_text.specs.Call.{Name}
use Rattle.jv_core.specs.Tree.{Program}
use Rattle.use_rules.specs.Keys.{Tables, AreReached}
use Rattle.use_rules.specs.Tables.{Least}
use Rattle.use_sights.specs.declared.site.Site.{Site}
use Rattle.mg_sources.specs.Files.{Source, sources}
use Rattle.mg_accepted.specs.Program.{HaveCore}
use Rattle.mg_shown.specs.Shown.{AreListed}
use Rattle.lsp_text.specs.declared.encoding.Encoding.{Encoding}
use Rattle.lsp_text.specs.declared.positions.Position.{Position}
use Rattle.lsp_text.specs.declared.changes.Range.{Range}
use Rattle.lsp_text.specs.Positions.{Means, IsPositionOf}
use Rattle.lsp_messages.specs.declared.outgoing.Answer.{Answer}
use Rattle.lsp_messages.specs.declared.outgoing.Answer.TheVariants as answers
use Rattle.lsp_messages.specs.declared.outgoing.Hint.{Hint}
use Rattle.lsp_sights.specs.declared.located.Located.{Located}
use Rattle.lsp_sights.specs.Located.{is_in, begins_within, covers, AreLocated}
use Rattle.lsp_sights.specs.Texts.{hint_text, hover_text}

-- what is said under the least tables of a program, whether or not demands fail
pub record Under (p : Program) (Says : List (List Bool) → Tables → Type 0) : Type 0 where
  pub reached : List (List Bool)
  pub are : AreReached p reached
  pub tables : Tables
  pub least : Least p reached tables
  pub says : Says reached tables

-- the calls of a program that stand in this file, as they are listed, and where their paths stand in its text
pub record AreCalls (p : Program) (text : List ℕ) (file : ℕ) (calls : List Located) : Type 0 where
  pub sites : List Site
  pub listed : AreListed p sites
  pub located : AreLocated text (filter (is_in file) sites) calls

module _ (encoding : Encoding) (text : List ℕ) (p : Program) where
  -- A hint stands behind the path of a call.
  pub record IsHint (reached : List (List Bool)) (t : Tables) (call : Located) (hint : Hint) : Type 0 where
    pub stands : IsPositionOf encoding text call.end hint.position
    pub says : hint.text ≡ hint_text p reached t call.site

  -- one for each call
  abbrev pub AreHints : List (List Bool) → Tables → List Located → List Hint → Type 0
  AreHints reached t [] [] = Unit {0}
  AreHints reached t [] (h ∷ hs) = ⊥
  AreHints reached t (c ∷ cs) [] = ⊥
  AreHints reached t (c ∷ cs) (h ∷ hs) = IsHint reached t c h × AreHints reached t cs hs

  -- This is said over the path of a call.
  pub record IsHover (call : Located) (reached : List (List Bool)) (t : Tables) (said : Name) (range : Range) : Type 0 where
    pub begins : IsPositionOf encoding text call.start range.start
    pub ends : IsPositionOf encoding text call.end range.end
    pub says : said ≡ hover_text p reached t call.site

  -- of the first of these calls, where there is one
  abbrev pub IsHoverOf : List Located → Answer → Type 0
  IsHoverOf [] a = a ≡ answers.Nothing
  IsHoverOf (c ∷ cs) a =
      (said : Name) × (range : Range) × (a ≡ answers.Hover said range) × Under p (λ reached t. IsHover c reached t said range)

  module _ (file : ℕ) where
    -- The hints of the calls that begin in a range.
    pub record AreHintsIn (range : Range) (hints : List Hint) : Type 0 where
      pub calls : List Located
      pub are : AreCalls p text file calls
      pub from : ℕ
      pub to : ℕ
      pub begins : Means encoding text range.start from
      pub ends : Means encoding text range.end to
      pub hints_are : Under p (λ reached t. AreHints reached t (filter (begins_within from to) calls) hints)

    -- What is said of the first call whose path covers a position.
    pub record IsHoverAt (position : Position) (a : Answer) : Type 0 where
      pub calls : List Located
      pub are : AreCalls p text file calls
      pub offset : ℕ
      pub means : Means encoding text position offset
      pub says : IsHoverOf (filter (covers offset) calls) a

-- the bytes of the file of a number
abbrev pub bytes_at : (contents : List (List ℕ)) → (file : ℕ) → List ℕ
bytes_at contents file = elim (slice_get contents file) [ None ↦ [] | Some bytes ↦ bytes ]

-- What is said of the program that the files are; and something else where they are none that the readers, the roles and the types let
-- pass, or where the bytes of the document are no text.
pub data IsTold (files : List Source) (text : List ℕ) (Says : Program → Type 0) (Else : Type 0) : Type 0 where
  told : (core : Program) → HaveCore files core → IsUtf8 text → Says core → IsTold files text Says Else
  none : ((core : Program) → HaveCore files core → ¬ IsUtf8 text) → Else → IsTold files text Says Else

module _ (encoding : Encoding) (names contents : List (List ℕ)) (file : ℕ) where
  abbrev document : List ℕ
  document = bytes_at contents file

  -- the hints in a range of the file of this number, and none where there is no program
  abbrev pub AreHinted : Range → List Hint → Type 0
  AreHinted range hints =
      IsTold (sources names contents) document (λ p. AreHintsIn encoding document p file range hints) (hints ≡ [])

  -- what is answered over a position of it, and nothing where there is no program
  abbrev pub IsHovered : Position → Answer → Type 0
  IsHovered position a =
      IsTold (sources names contents) document (λ p. IsHoverAt encoding document p file position a) (a ≡ answers.Nothing)
