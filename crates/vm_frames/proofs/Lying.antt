-- Frames lie as their heads say.
use Rattle.std.proofs.Common.{◌≡◌, ℕ, List, [], ◌∷◌, length, map, take, drop, ap, subst, arith, length-take}
use Rattle.std.proofs.lemmas.List.{length-map}
use Rattle.std.specs.Prelude.{reverse}
use Rattle.mg_text.specs.Call.{Name}
use Rattle.vm_frames.specs.declared.cell.Cell.{Cell}
use Rattle.vm_frames.specs.declared.cell.Head.{Head}
use Rattle.vm_frames.specs.declared.state.State.TheInside.{Inside}
use Rattle.vm_frames.specs.Seen.{Seen, values_in, local_in}
use Rattle.vm_frames.specs.View.{frame_in, frames_in, seen_of}
use Rattle.vm_frames.specs.Kept.{IsFrame, AreFrames, IsKept}
use Rattle.vm_frames.specs.Lying.{LiesIn, AllLie}

module _ (texts : List Name) where
  lies : (count : ℕ) (head : Head) (row : List Cell) → IsFrame count head row → LiesIn texts (frame_in texts head row) row
  lies count head row frame =
      let long : head.locals ≡ length (map (local_in texts) (take head.locals row)) =
      omega (arith, length-map (take head.locals row) (local_in texts), length-take head.locals row, frame.within) in record {
        locals = ap (λ n. map (local_in texts) (take n row)) long;
        operands = ap (λ n. values_in texts (drop n row)) long;
      }

  all-lie : (count : ℕ) (heads : List Head) (rows : List (List Cell)) → AreFrames count heads rows →
      AllLie texts (frames_in texts heads rows) rows
  all-lie count [] rows are = are
  all-lie count (head ∷ heads) [] are = absurd are
  all-lie count (head ∷ heads) (row ∷ rows) are = (lies count head row are.0, all-lie count heads rows are.1)

pub frames-lie : (s : Inside) (v : Seen) → seen_of s ≡ v → IsKept s →
    AllLie v.texts (v.machine.frame ∷ v.machine.callers) (s.cells.running ∷ s.cells.callers)
frames-lie s v view_is kept =
    subst (λ t. AllLie t.texts (t.machine.frame ∷ t.machine.callers) (s.cells.running ∷ s.cells.callers)) view_is
    (all-lie s.texts.items (length s.texts.items) (s.head ∷ reverse s.heads.items) (s.cells.running ∷ s.cells.callers)
    (kept.running, kept.callers))
