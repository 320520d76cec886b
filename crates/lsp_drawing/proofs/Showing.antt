-- What is drawn of a document.
use Rattle.std.proofs.Common.{◌≡◌, ℕ, List, Option, None, refl}
use Rattle.std.specs.Prelude.{option_map}
use Rattle.mg_sources.specs.Files.{Source}
use Rattle.mg_sources.specs.Reading.{Part, Reads}
use Rattle.lsp_drawing.specs.Diagrams.{diagram}
use Rattle.lsp_drawing.specs.Drawings.{shown_of, Shows, read, IsDrawing}

-- of what a file spells
pub read_drawn : (source : Source) (part : Part) (drawing : Option (List ℕ)) → Reads source part →
    drawing ≡ option_map diagram (shown_of part) → IsDrawing source drawing
read_drawn source part drawing reads is = record { shown = shown_of part; shows = read reads; drawn = is }

-- of what shows no typestate
pub nothing_drawn : (source : Source) → Shows source None → IsDrawing source None
nothing_drawn source h = record { shown = None; shows = h; drawn = refl }
