-- What the running frame is, once its cells have changed.
use Rattle.std.proofs.Common.{◌≡◌, ℕ, zero, suc, ◌+◌, ◌-◌, ◌<◌, ◌≤◌, List, [], ◌∷◌, ◌++◌, length, map, take, drop, set, slice_get, Some}
use Rattle.std.proofs.Common.{None, refl, sym, ap, ◌∙◌, subst, arith, length-append, length-take, length-drop}
use Rattle.std.proofs.lemmas.List.{take-append-le, drop-append-le, take-take, drop-take, drop-set-lt, map-set, map_push, take-map}
use Rattle.std.proofs.lemmas.List.{length-map, length-set}
use Rattle.std.proofs.lemmas.List.Elements.{All-push, All-take, All-set}
use Rattle.std.proofs.lemmas.Option.{slice_get-map, slice_get_within, slice_get_past, get_or_from_slice_get}
use Rattle.std.proofs.Math.Seq.{take-set-lt}
use Rattle.std.specs.Prelude.{All}
use Rattle.std.specs.Option.{option_map}
use Rattle.mg_text.specs.Call.{Name}
use Rattle.vm_model.specs.Tests.{below}
use Rattle.vm_model.specs.Step.{at_place, with_local}
use Rattle.vm_frames.specs.declared.cell.Cell.{Cell}
use Rattle.vm_frames.specs.declared.cell.Cell.TheVariants as cells
use Rattle.vm_frames.specs.declared.cell.Head.{Head}
use Rattle.vm_frames.specs.declared.cell.Object.{Object}
use Rattle.vm_frames.specs.Seen.{Seen, value_in, values_in, local_in, IsKnown, IsSet}
use Rattle.vm_frames.specs.View.{frame_in, machine_in, seen_in}
use Rattle.vm_frames.specs.Kept.{IsFrame}

-- Lists.

pub slice_get-take : {X : Type 0} (n i : ℕ) (xs : List X) → i < n → slice_get (take n xs) i ≡ slice_get xs i
slice_get-take zero i xs h = absurd (omega (arith, h))
slice_get-take (suc n) i [] h = refl
slice_get-take (suc n) zero (x ∷ xs) h = refl
slice_get-take (suc n) (suc i) (x ∷ xs) h = slice_get-take n i xs (omega (arith, h))

pub slice_get-drop : {X : Type 0} (n i : ℕ) (xs : List X) → slice_get (drop n xs) i ≡ slice_get xs (n + i)
slice_get-drop zero i xs = ap (slice_get xs) (omega arith)
slice_get-drop (suc n) i [] = refl
slice_get-drop (suc n) i (x ∷ xs) = slice_get-drop n i xs ∙ ap (slice_get (x ∷ xs)) {x = suc (n + i)} (omega arith)

-- a list whose last element is another one
pub set_at_end : {X : Type 0} (i : ℕ) (xs : List X) (x : X) → i < length xs → set (take (suc i) xs) i x ≡ take i xs ++ x ∷ []
set_at_end i [] x h = absurd (omega (arith, h))
set_at_end zero (y ∷ ys) x h = refl
set_at_end (suc i) (y ∷ ys) x h = ap (λ l. y ∷ l) (set_at_end i ys x (omega (arith, h)))

-- in the place of so many
pub put_at_end : {X : Type 0} (row front last : List X) (count : ℕ) (x : X) → 0 < count → count ≤ length row →
    front ≡ take (length row - (count - 1)) row → last ≡ set front (length front - 1) x → last ≡ take (length row - count) row ++ x ∷ []
put_at_end row front last count x some within less is =
    let one : length row - (count - 1) ≡ suc (length row - count) = omega (arith, some, within) in
    let long : length (take (suc (length row - count)) row) - 1 ≡ length row - count =
    omega (arith, length-take (suc (length row - count)) row, some, within) in
    is ∙ ap (λ l. set l (length l - 1) x) (less ∙ ap (λ k. take k row) one)
    ∙ ap (λ i. set (take (suc (length row - count)) row) i x) long
    ∙ set_at_end (length row - count) row x (omega (arith, some, within))

pub at_slice : {X : Type 0} (P : X → Type 0) (xs : List X) (i : ℕ) (x : X) → All P xs → slice_get xs i ≡ Some x → P x
at_slice P xs i x all e = subst P (get_or_from_slice_get xs i x x e) (all i x (slice_get_within xs i x e))

-- What a set cell says as a local.
pub set_local_in : (texts : List Name) (count : ℕ) (cell : Cell) → IsSet count cell → local_in texts cell ≡ Some (value_in texts cell)
set_local_in texts count cells.Unset h = absurd h
set_local_in texts count cells.Null h = refl
set_local_in texts count cells.Out h = refl
set_local_in texts count (cells.Int x) h = refl
set_local_in texts count (cells.Text n) h = refl
set_local_in texts count (cells.Object n) h = refl

pub known : (count : ℕ) (cell : Cell) → IsSet count cell → IsKnown count cell
known count cells.Unset h = absurd h
known count cells.Null h = tt
known count cells.Out h = tt
known count (cells.Int x) h = tt
known count (cells.Text n) h = h
known count (cells.Object n) h = tt

-- A known cell that isn't unset holds a value, and says as a local what it says.
pub set-from_known : (count : ℕ) (cell : Cell) → (cell ≡ cells.Unset → ⊥) → IsKnown count cell → IsSet count cell
set-from_known count cells.Unset differs h = differs refl
set-from_known count cells.Null differs h = tt
set-from_known count cells.Out differs h = tt
set-from_known count (cells.Int x) differs h = tt
set-from_known count (cells.Text n) differs h = h
set-from_known count (cells.Object n) differs h = tt

-- at another instruction
abbrev pub at_head : Head → ℕ → Head
at_head head place = record head { place = place }

module _ (texts : List Name) (head : Head) (heads : List Head) (row : List Cell) (rows : List (List Cell)) (heap : List Object) (s : Seen)
    (view_is : seen_in texts head heads row rows heap ≡ s) (within : head.locals ≤ length row) where
  pub depth_is : length s.machine.frame.operands ≡ length row - head.locals
  depth_is =
      ap (λ t. length t.machine.frame.operands) (sym view_is) ∙ length-map (drop head.locals row) (value_in texts)
      ∙ length-drop head.locals row

  pub locals_is : length s.machine.frame.locals ≡ head.locals
  locals_is =
      ap (λ t. length t.machine.frame.locals) (sym view_is) ∙ length-map (take head.locals row) (local_in texts)
      ∙ omega (arith, length-take head.locals row)

  -- the operand so far below the top
  pub operand_is : (above : ℕ) (cell : Cell) → above < length s.machine.frame.operands →
      slice_get row (length row - 1 - above) ≡ Some cell →
      slice_get (drop head.locals row) (length row - head.locals - (above + 1)) ≡ Some cell
  operand_is above cell lt e =
      let there : head.locals + (length row - head.locals - (above + 1)) ≡ length row - 1 - above = omega (arith, lt, depth_is) in
      slice_get-drop head.locals (length row - head.locals - (above + 1)) row ∙ ap (slice_get row) there ∙ e

  pub operand_says : (above : ℕ) (cell : Cell) → above < length s.machine.frame.operands →
      slice_get row (length row - 1 - above) ≡ Some cell →
      slice_get s.machine.frame.operands (length s.machine.frame.operands - (above + 1)) ≡ Some (value_in s.texts cell)
  operand_says above cell lt e =
      ap (λ k. slice_get s.machine.frame.operands (k - (above + 1))) depth_is
      ∙ ap (λ t. slice_get t.machine.frame.operands (length row - head.locals - (above + 1))) (sym view_is)
      ∙ slice_get-map (value_in texts) (drop head.locals row) (length row - head.locals - (above + 1))
      ∙ ap (option_map (value_in texts)) (operand_is above cell lt e)
      ∙ ap (λ t. Some (value_in t.texts cell)) view_is

  pub operand_set : (above : ℕ) (cell : Cell) → All (IsSet (length texts)) (drop head.locals row) →
      above < length s.machine.frame.operands →
      slice_get row (length row - 1 - above) ≡ Some cell → IsSet (length s.texts) cell
  operand_set above cell all lt e =
      subst (λ t. IsSet (length t.texts) cell) view_is
      (at_slice (IsSet (length texts)) (drop head.locals row) (length row - head.locals - (above + 1)) cell all
      (operand_is above cell lt e))

  -- what a local says
  pub local_says : (local : ℕ) (cell : Cell) → local < head.locals → slice_get row local ≡ Some cell →
      Some (local_in s.texts cell) ≡ slice_get s.machine.frame.locals local
  local_says local cell lt e =
      sym (ap (λ t. slice_get t.machine.frame.locals local) (sym view_is) ∙ slice_get-map (local_in texts) (take head.locals row) local
      ∙ ap (option_map (local_in texts)) (slice_get-take head.locals local row lt ∙ e) ∙ ap (λ t. Some (local_in t.texts cell)) view_is)

  pub no_local : (local : ℕ) → head.locals ≤ local → None ≡ slice_get s.machine.frame.locals local
  no_local local le = sym (slice_get_past s.machine.frame.locals local (omega (arith, locals_is, le)))

  pub local_known : (local : ℕ) (cell : Cell) → All (IsKnown (length texts)) (take head.locals row) → local < head.locals →
      slice_get row local ≡ Some cell → IsKnown (length s.texts) cell
  local_known local cell all lt e =
      subst (λ t. IsKnown (length t.texts) cell) view_is
      (at_slice (IsKnown (length texts)) (take head.locals row) local cell all (slice_get-take head.locals local row lt ∙ e))

  -- a value more
  pub pushes : (place : ℕ) (row' : List Cell) (rows' : List (List Cell)) (cell : Cell) → row' ≡ row ++ cell ∷ [] → rows' ≡ rows →
      machine_in texts (at_head head place) heads row' rows' heap
      ≡ at_place s.machine place (s.machine.frame.operands ++ value_in s.texts cell ∷ [])
  pushes place row' rows' cell is same =
      ap (λ r. machine_in texts (at_head head place) heads r rows' heap) is
      ∙ ap (λ r. machine_in texts (at_head head place) heads (row ++ cell ∷ []) r heap) same
      ∙ ap (λ l. record (machine_in texts (at_head head place) heads (row ++ cell ∷ []) rows heap) {
        frame =
            record (frame_in texts (at_head head place) (row ++ cell ∷ [])) { locals = map (local_in texts) l };
      })
      (take-append-le head.locals row (cell ∷ []) within)
      ∙ ap (λ l. record (machine_in texts (at_head head place) heads row rows heap) {
        frame =
            record (frame_in texts (at_head head place) row) { operands = l };
      })
      (ap (values_in texts) (drop-append-le head.locals row (cell ∷ []) within) ∙ map_push (value_in texts) (drop head.locals row) cell)
      ∙ ap (λ t. at_place t.machine place (t.machine.frame.operands ++ value_in t.texts cell ∷ [])) view_is

  -- so many values less
  pub drops : (place : ℕ) (row' : List Cell) (rows' : List (List Cell)) (count : ℕ) → count ≤ length row - head.locals →
      row' ≡ take (length row - count) row →
      rows' ≡ rows →
      machine_in texts (at_head head place) heads row' rows' heap ≡ at_place s.machine place (below count s.machine.frame.operands)
  drops place row' rows' count le is same =
      let kept : head.locals ≤ length row - count = omega (arith, le, within) in
      let left : length row - count ≡ head.locals + (length row - head.locals - count) = omega (arith, le, within) in
      let long : length row - head.locals ≡ length (values_in texts (drop head.locals row)) =
      sym (length-map (drop head.locals row) (value_in texts) ∙ length-drop head.locals row) in
      let operands : values_in texts (drop head.locals (take (length row - count) row))
      ≡ below count (values_in texts (drop head.locals row)) =
      ap (λ k. values_in texts (drop head.locals (take k row))) left
      ∙ ap (values_in texts) (drop-take head.locals (length row - head.locals - count) row)
      ∙ sym (take-map (value_in texts) (length row - head.locals - count) (drop head.locals row))
      ∙ ap (λ k. take (k - count) (values_in texts (drop head.locals row))) long in
      ap (λ r. machine_in texts (at_head head place) heads r rows' heap) is
      ∙ ap (λ r. machine_in texts (at_head head place) heads (take (length row - count) row) r heap) same
      ∙ ap (λ l. record (machine_in texts (at_head head place) heads (take (length row - count) row) rows heap) {
        frame =
            record (frame_in texts (at_head head place) (take (length row - count) row)) { locals = map (local_in texts) l };
      })
      (take-take head.locals (length row - count) row kept)
      ∙ ap (λ l. record (machine_in texts (at_head head place) heads row rows heap) {
        frame =
            record (frame_in texts (at_head head place) row) { operands = l };
      }) operands
      ∙ ap (λ t. at_place t.machine place (below count t.machine.frame.operands)) view_is

  -- another value of a local
  pub sets : (row' : List Cell) (rows' : List (List Cell)) (local : ℕ) (cell : Cell) → local < head.locals → IsSet (length texts) cell →
      row' ≡ set row local cell → rows' ≡ rows →
      machine_in texts head heads row' rows' heap ≡ with_local s.machine local (value_in s.texts cell)
  sets row' rows' local cell lt is_set is same =
      let locals : map (local_in texts) (take head.locals (set row local cell))
      ≡ set (map (local_in texts) (take head.locals row)) local (Some (value_in texts cell)) =
      ap (map (local_in texts)) (take-set-lt head.locals row local cell lt) ∙ map-set (local_in texts) (take head.locals row) local cell
      ∙ ap (set (map (local_in texts) (take head.locals row)) local) (set_local_in texts (length texts) cell is_set) in
      ap (λ r. machine_in texts head heads r rows' heap) is
      ∙ ap (λ r. machine_in texts head heads (set row local cell) r heap) same
      ∙ ap (λ l. record (machine_in texts head heads (set row local cell) rows heap) {
        frame =
            record (frame_in texts head (set row local cell)) { operands = values_in texts l };
      })
      (drop-set-lt head.locals row local cell lt)
      ∙ ap (λ l. record (machine_in texts head heads row rows heap) { frame = record (frame_in texts head row) { locals = l } }) locals
      ∙ ap (λ t. with_local t.machine local (value_in t.texts cell)) view_is

pub placed : (count place : ℕ) (head : Head) (row : List Cell) → IsFrame count head row → IsFrame count (at_head head place) row
placed count place head row frame = record { within = frame.within; locals = frame.locals; operands = frame.operands }

-- What is kept of a frame.
module _ (count : ℕ) (head : Head) (row : List Cell) (frame : IsFrame count head row) where
  pub frame-push : (row' : List Cell) (cell : Cell) → row' ≡ row ++ cell ∷ [] → IsSet count cell → IsFrame count head row'
  frame-push row' cell is is_set =
      subst (IsFrame count head) (sym is)
      (record {
        within = omega (arith, frame.within, length-append row (cell ∷ []));
        locals = subst (All (IsKnown count)) (sym (take-append-le head.locals row (cell ∷ []) frame.within)) frame.locals;
        operands = subst (All (IsSet count)) (sym (drop-append-le head.locals row (cell ∷ []) frame.within))
            (All-push (IsSet count) (drop head.locals row) cell frame.operands is_set);
      })

  pub frame-take : (row' : List Cell) (n : ℕ) → n ≤ length row → head.locals ≤ n → row' ≡ take n row → IsFrame count head row'
  frame-take row' n le kept is =
      let left : n ≡ head.locals + (n - head.locals) = omega (arith, kept) in
      let operands : drop head.locals (take n row) ≡ take (n - head.locals) (drop head.locals row) =
      ap (λ k. drop head.locals (take k row)) left ∙ drop-take head.locals (n - head.locals) row in
      subst (IsFrame count head) (sym is)
      (record {
        within = omega (arith, kept, le, length-take n row);
        locals = subst (All (IsKnown count)) (sym (take-take head.locals n row kept)) frame.locals;
        operands = subst (All (IsSet count)) (sym operands)
            (All-take (IsSet count) (n - head.locals) (drop head.locals row) frame.operands);
      })

  pub frame-set : (row' : List Cell) (local : ℕ) (cell : Cell) → local < head.locals → IsSet count cell → row' ≡ set row local cell →
      IsFrame count head row'
  frame-set row' local cell lt is_set is =
      subst (IsFrame count head) (sym is)
      (record {
        within = omega (arith, frame.within, length-set row local cell);
        locals = subst (All (IsKnown count)) (sym (take-set-lt head.locals row local cell lt))
            (All-set (IsKnown count) (take head.locals row) local cell (known count cell is_set) frame.locals);
        operands = subst (All (IsSet count)) (sym (drop-set-lt head.locals row local cell lt)) frame.operands;
      })
