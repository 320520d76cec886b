-- What is drawn of a document.
use Rattle.std.specs.Prelude.{◌≡◌, ℕ, List, Option, Some, None, option_map}
use Rattle.mg_refusal.specs.Refusals.{Refusal}
use Rattle.ts_tree.specs.Typestate.{Typestate}
use Rattle.stm_gen.specs.Numbered.{typestate_of}
use Rattle.mg_sources.specs.Files.{Source}
use Rattle.mg_sources.specs.Reading.{Part, Protocol, States, Classes, Reads, Refuses}
use Rattle.lsp_drawing.specs.Diagrams.{diagram}

-- the typestate of what a file spells: the one that a protocol is translated to, or itself
abbrev pub shown_of : Part → Option Typestate
shown_of (Protocol local) = Some (typestate_of local)
shown_of (States typestate) = Some typestate
shown_of (Classes file) = None

-- the typestate that a document shows: none where its reader refuses it
pub data Shows (source : Source) : Option Typestate → Type 0 where
  read : {part : Part} → Reads source part → Shows source (shown_of part)
  refused : {r : Refusal} → Refuses source r → Shows source None

-- its diagram, where it shows one
pub record IsDrawing (source : Source) (drawing : Option (List ℕ)) : Type 0 where
  pub shown : Option Typestate
  pub shows : Shows source shown
  pub drawn : drawing ≡ option_map diagram shown
