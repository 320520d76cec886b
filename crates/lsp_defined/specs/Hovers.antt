-- What is shown over a word of a protocol or of a typestate.
use Rattle.std.specs.Prelude.{◌≡◌, ℕ, List, Option, Some, None, slice_get}
use Rattle.std.specs.Str.{IsUtf8}
use Rattle.ts_tree.specs.Typestate.{Typestate}
use Rattle.ts_parse.specs.Written.{WFile}
use Rattle.ts_read.specs.Outcome.{Spells}
use Rattle.stm_gen.specs.Numbered.{typestate_of}
use Rattle.mg_sources.specs.Files.{Source, sources}
use Rattle.mg_sources.specs.Reading.{Part, Protocol, States, Classes}
use Rattle.lsp_text.specs.declared.encoding.Encoding.{Encoding}
use Rattle.lsp_text.specs.declared.positions.Position.{Position}
use Rattle.lsp_messages.specs.declared.outgoing.Answer.{Answer}
use Rattle.lsp_messages.specs.declared.outgoing.Answer.TheVariants as answers
use Rattle.lsp_defined.specs.Files.{IsPartOf}
use Rattle.lsp_defined.specs.Spots.{method_spots, message_spots}
use Rattle.lsp_defined.specs.Shown.{IsSaidAt}

-- What is shown over a typestate file: of each method in a state where that leads.
pub record IsOfStates (encoding : Encoding) (file : ℕ) (text : List ℕ) (t : Typestate) (at : Position) (a : Answer) : Type 0 where
  pub written : WFile
  pub spells : Spells file text written
  pub says : IsSaidAt encoding text at t (method_spots written) a

-- By what the file spells. Of a protocol's messages it is shown where their methods lead, from each state of the protocol's typestate that
-- offers them. Over classes, and over what a reader refuses, nothing is shown here.
abbrev pub IsHoverOf : Encoding → (file : ℕ) → (text : List ℕ) → Option Part → Position → Answer → Type 0
IsHoverOf encoding file text None at a = a ≡ answers.Nothing
IsHoverOf encoding file text (Some (Protocol local)) at a =
    IsSaidAt encoding text at (typestate_of local) (message_spots local) a
IsHoverOf encoding file text (Some (States t)) at a = IsOfStates encoding file text t at a
IsHoverOf encoding file text (Some (Classes decls)) at a = a ≡ answers.Nothing

-- of the part that the file spells
pub record IsSpelledHover (encoding : Encoding) (source : Source) (at : Position) (a : Answer) : Type 0 where
  pub part : Option Part
  pub spells : IsPartOf source part
  pub says : IsHoverOf encoding source.number source.bytes part at a

-- bytes that are no text say nothing
pub data IsHoverIn (encoding : Encoding) (source : Source) (at : Position) (a : Answer) : Type 0 where
  some : IsUtf8 source.bytes → IsSpelledHover encoding source at a → IsHoverIn encoding source at a
  none : ¬ IsUtf8 source.bytes → a ≡ answers.Nothing → IsHoverIn encoding source at a

-- no file, no answer
abbrev pub IsHoverFor : Encoding → Option Source → Position → Answer → Type 0
IsHoverFor encoding None at a = a ≡ answers.Nothing
IsHoverFor encoding (Some source) at a = IsHoverIn encoding source at a

-- The answer over a position of the file of this number, which is read alone.
abbrev pub IsHoverOver : Encoding → (names contents : List (List ℕ)) → (file : ℕ) → Position → Answer → Type 0
IsHoverOver encoding names contents file at a = IsHoverFor encoding (slice_get (sources names contents) file) at a
