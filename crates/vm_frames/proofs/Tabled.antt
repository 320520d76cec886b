-- A text more changes nothing that cells say.
use Rattle.std.proofs.Common.{◌≡◌, ℕ, ◌<◌, ◌≤◌, List, [], ◌∷◌, ◌++◌, length, map, take, drop, get_or, Some, refl, ap, ◌∙◌, arith}
use Rattle.std.proofs.lemmas.List.{get_or_append_left}
use Rattle.std.proofs.lemmas.List.Elements.{All-head, All-tail, All-weaker}
use Rattle.std.specs.Prelude.{All}
use Rattle.mg_text.specs.Call.{Name}
use Rattle.vm_frames.specs.declared.cell.Cell.{Cell}
use Rattle.vm_frames.specs.declared.cell.Cell.TheVariants as cells
use Rattle.vm_frames.specs.declared.cell.Head.{Head}
use Rattle.vm_frames.specs.declared.cell.Object.{Object}
use Rattle.vm_model.specs.declared.value.Value.TheVariants as values
use Rattle.vm_frames.specs.Seen.{value_in, values_in, local_in, IsKnown, IsSet}
use Rattle.vm_frames.specs.View.{frame_in, frames_in, object_in, objects_in, machine_in}
use Rattle.vm_frames.specs.Kept.{IsFrame, AreFrames, IsObject}

-- Fewer texts.

more-known : (a b : ℕ) → a ≤ b → (cell : Cell) → IsKnown a cell → IsKnown b cell
more-known a b le cells.Unset h = tt
more-known a b le cells.Null h = tt
more-known a b le cells.Out h = tt
more-known a b le (cells.Int x) h = tt
more-known a b le (cells.Text n) h = omega (arith, le, h)
more-known a b le (cells.Object n) h = tt

more-set : (a b : ℕ) → a ≤ b → (cell : Cell) → IsSet a cell → IsSet b cell
more-set a b le cells.Unset h = h
more-set a b le cells.Null h = tt
more-set a b le cells.Out h = tt
more-set a b le (cells.Int x) h = tt
more-set a b le (cells.Text n) h = omega (arith, le, h)
more-set a b le (cells.Object n) h = tt

module _ (a b : ℕ) (le : a ≤ b) where
  pub more-frame : (head : Head) (row : List Cell) → IsFrame a head row → IsFrame b head row
  more-frame head row frame = record {
    within = frame.within;
    locals = All-weaker (IsKnown a) (IsKnown b) (more-known a b le) (take head.locals row) frame.locals;
    operands = All-weaker (IsSet a) (IsSet b) (more-set a b le) (drop head.locals row) frame.operands;
  }

  pub more-frames : (heads : List Head) (rows : List (List Cell)) → AreFrames a heads rows → AreFrames b heads rows
  more-frames [] rows are = are
  more-frames (head ∷ heads) [] are = are
  more-frames (head ∷ heads) (row ∷ rows) are = (more-frame head row are.0, more-frames heads rows are.1)

  pub more-objects : (heap : List Object) → All (IsObject a) heap → All (IsObject b) heap
  more-objects heap all = All-weaker (IsObject a) (IsObject b)
      (λ o each. All-weaker (IsSet a) (IsSet b) (more-set a b le) o.fields.items each) heap all

-- The same said.

module _ (texts : List Name) (text : Name) where
  same-text : (n : ℕ) → n < length texts → get_or (texts ++ text ∷ []) n [] ≡ get_or texts n []
  same-text n lt = get_or_append_left texts (text ∷ []) [] n lt

  same-value : (cell : Cell) → IsSet (length texts) cell → value_in (texts ++ text ∷ []) cell ≡ value_in texts cell
  same-value cells.Unset h = refl
  same-value cells.Null h = refl
  same-value cells.Out h = refl
  same-value (cells.Int x) h = refl
  same-value (cells.Text n) h = ap values.Text (same-text n h)
  same-value (cells.Object n) h = refl

  same-local : (cell : Cell) → IsKnown (length texts) cell → local_in (texts ++ text ∷ []) cell ≡ local_in texts cell
  same-local cells.Unset h = refl
  same-local cells.Null h = refl
  same-local cells.Out h = refl
  same-local (cells.Int x) h = refl
  same-local (cells.Text n) h = ap (λ t. Some (values.Text t)) (same-text n h)
  same-local (cells.Object n) h = refl

  same-values : (row : List Cell) → All (IsSet (length texts)) row → values_in (texts ++ text ∷ []) row ≡ values_in texts row
  same-values [] all = refl
  same-values (cell ∷ row) all =
      ap (λ v. v ∷ values_in (texts ++ text ∷ []) row) (same-value cell (All-head (IsSet (length texts)) cell row all))
      ∙ ap (λ l. value_in texts cell ∷ l) (same-values row (All-tail (IsSet (length texts)) cell row all))

  same-locals : (row : List Cell) → All (IsKnown (length texts)) row → map (local_in (texts ++ text ∷ [])) row ≡ map (local_in texts) row
  same-locals [] all = refl
  same-locals (cell ∷ row) all =
      ap (λ v. v ∷ map (local_in (texts ++ text ∷ [])) row) (same-local cell (All-head (IsKnown (length texts)) cell row all))
      ∙ ap (λ l. local_in texts cell ∷ l) (same-locals row (All-tail (IsKnown (length texts)) cell row all))

  same-frame : (head : Head) (row : List Cell) → IsFrame (length texts) head row →
      frame_in (texts ++ text ∷ []) head row ≡ frame_in texts head row
  same-frame head row frame =
      ap (λ l. record (frame_in (texts ++ text ∷ []) head row) { locals = l }) (same-locals (take head.locals row) frame.locals)
      ∙ ap (λ l. record (frame_in texts head row) { operands = l }) (same-values (drop head.locals row) frame.operands)

  same-frames : (heads : List Head) (rows : List (List Cell)) → AreFrames (length texts) heads rows →
      frames_in (texts ++ text ∷ []) heads rows ≡ frames_in texts heads rows
  same-frames [] rows are = refl
  same-frames (head ∷ heads) [] are = refl
  same-frames (head ∷ heads) (row ∷ rows) are =
      ap (λ f. f ∷ frames_in (texts ++ text ∷ []) heads rows) (same-frame head row are.0)
      ∙ ap (λ l. frame_in texts head row ∷ l) (same-frames heads rows are.1)

  same-objects : (heap : List Object) → All (IsObject (length texts)) heap → objects_in (texts ++ text ∷ []) heap ≡ objects_in texts heap
  same-objects [] all = refl
  same-objects (o ∷ heap) all =
      ap (λ l. record { class = o.class; fields = l } ∷ objects_in (texts ++ text ∷ []) heap)
      (same-values o.fields.items (All-head (IsObject (length texts)) o heap all))
      ∙ ap (λ l. object_in texts o ∷ l) (same-objects heap (All-tail (IsObject (length texts)) o heap all))

  pub same-machine : (texts' : List Name) (head : Head) (heads : List Head) (row : List Cell) (rows : List (List Cell))
      (heap : List Object) →
      texts' ≡ texts ++ text ∷ [] → IsFrame (length texts) head row → AreFrames (length texts) heads rows →
      All (IsObject (length texts)) heap →
      machine_in texts' head heads row rows heap ≡ machine_in texts head heads row rows heap
  same-machine texts' head heads row rows heap is frame are all =
      ap (λ t. machine_in t head heads row rows heap) is
      ∙ ap (λ f. record (machine_in (texts ++ text ∷ []) head heads row rows heap) { frame = f }) (same-frame head row frame)
      ∙ ap (λ l. record (machine_in texts head heads row rows heap) { callers = l; heap = objects_in (texts ++ text ∷ []) heap })
      (same-frames heads rows are)
      ∙ ap (λ l. record (machine_in texts head heads row rows heap) { heap = l }) (same-objects heap all)
