-- How frames lie in a region.
use Rattle.std.specs.Prelude.{◌≡◌, List, [], ◌∷◌, length, map, take, drop}
use Rattle.mg_text.specs.Call.{Name}
use Rattle.vm_model.specs.Machine.{Frame}
use Rattle.vm_frames.specs.declared.cell.Cell.{Cell}
use Rattle.vm_frames.specs.Seen.{values_in, local_in}

-- the cells of a frame are its locals, and then its operands
pub record LiesIn (texts : List Name) (frame : Frame) (row : List Cell) : Type 0 where
  pub locals : frame.locals ≡ map (local_in texts) (take (length frame.locals) row)
  pub operands : frame.operands ≡ values_in texts (drop (length frame.locals) row)

-- frames lie one on another, the nearest first, and an empty one is the lowest
abbrev pub AllLie : List Name → List Frame → List (List Cell) → Type 0
AllLie texts [] rows = rows ≡ [] ∷ []
AllLie texts (frame ∷ frames) [] = ⊥
AllLie texts (frame ∷ frames) (row ∷ rows) = LiesIn texts frame row × AllLie texts frames rows
