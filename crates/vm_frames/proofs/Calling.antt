-- Frames that begin and end.
use Rattle.std.proofs.Common.{◌≡◌, ℕ, zero, suc, ◌+◌, ◌-◌, ◌≤◌, List, [], ◌∷◌, ◌++◌, length, map, take, drop, replicate, Option, Some, None}
use Rattle.std.proofs.Common.{refl, sym, ap, ◌∙◌, subst, arith, length-append, length-drop}
use Rattle.std.proofs.lemmas.List.{append-nil, take_all, drop_all, take-take, drop-take, take-map, drop-map, length-map, length-replicate}
use Rattle.std.proofs.lemmas.List.{map-append}
use Rattle.std.proofs.lemmas.List.Elements.{All-nil, All-head, All-tail, All-append, All-replicate, All-take, All-drop, All-weaker}
use Rattle.std.specs.Prelude.{All}
use Rattle.mg_text.specs.Call.{Name}
use Rattle.vm_model.specs.declared.value.Value.{Value}
use Rattle.vm_model.specs.Machine as model
use Rattle.vm_model.specs.Tests.{below, on_top}
use Rattle.vm_frames.specs.declared.cell.Cell.{Cell}
use Rattle.vm_frames.specs.declared.cell.Cell.TheVariants as cells
use Rattle.vm_frames.specs.declared.cell.Head.{Head}
use Rattle.vm_frames.specs.declared.cell.Object.{Object}
use Rattle.vm_frames.specs.Seen.{Seen, value_in, values_in, local_in, IsKnown, IsSet}
use Rattle.vm_frames.specs.View.{frame_in, frames_in, objects_in, machine_in, seen_in}
use Rattle.vm_frames.specs.Kept.{IsFrame, AreFrames}
use Rattle.vm_frames.specs.Frames.{entered, left_to, IsNearest}
use Rattle.vm_frames.proofs.Rows.{known, set_local_in, frame-take, pushes}

-- set cells as locals
set_locals : (texts : List Name) (count : ℕ) (row : List Cell) → All (IsSet count) row →
    map (local_in texts) row ≡ map Some (values_in texts row)
set_locals texts count [] all = refl
set_locals texts count (cell ∷ row) all =
    ap (λ l. l ∷ map (local_in texts) row) (set_local_in texts count cell (All-head (IsSet count) cell row all))
    ∙ ap (λ l. Some (value_in texts cell) ∷ l) (set_locals texts count row (All-tail (IsSet count) cell row all))

pub map-replicate : {A B : Type 0} (f : A → B) (n : ℕ) (x : A) → map f (replicate n x) ≡ replicate n (f x)
map-replicate f zero x = refl
map-replicate f (suc n) x = ap (λ l. f x ∷ l) (map-replicate f n x)

drop-none : (n : ℕ) → drop {A = Cell} n [] ≡ []
drop-none zero = refl
drop-none (suc n) = refl

-- the operands that lie so far above the locals
drop-taken : (n k : ℕ) (row : List Cell) → n ≤ k → k ≤ length row → drop n (take k row) ≡ take (k - n) (drop n row)
drop-taken n k row a b =
    let there : k ≡ n + (k - n) = omega (arith, a) in
    ap (λ j. drop n (take j row)) there ∙ drop-take n (k - n) row

drop-further : (n k : ℕ) (row : List Cell) → n ≤ k → drop (k - n) (drop n row) ≡ drop k row
drop-further zero k row le = ap (λ j. drop j row) (omega arith)
drop-further (suc n) zero row le = absurd (omega (arith, le))
drop-further (suc n) (suc k) [] le = drop-none (suc k - suc n)
drop-further (suc n) (suc k) (x ∷ row) le = ap (λ j. drop j (drop n row)) (omega arith) ∙ drop-further n k row (omega (arith, le))

-- a machine of these parts, at the beginning of a method
abbrev framed : (class method : ℕ) → Option ℕ → List (Option Value) → List Value → model.Frame → List model.Frame → List model.Object →
    model.Machine
framed class method told ls os caller callers heap = record {
  frame = record { class = class; method = method; place = 0; locals = ls; operands = os; told = told };
  callers = caller ∷ callers;
  heap = heap;
}

module _ (texts : List Name) (head : Head) (heads : List Head) (row : List Cell) (rows : List (List Cell)) (heap : List Object) (s : Seen)
    (view_is : seen_in texts head heads row rows heap ≡ s) (frame : IsFrame (length texts) head row) where
  -- a frame over the running one
  pub enters : (caller called : Head) (row' : List Cell) (rows' : List (List Cell)) (class method args locals : ℕ) (told : Option ℕ) →
      args ≤ length row - head.locals → args ≤ locals →
      caller ≡ record head { place = head.place + 1 } →
      called ≡ record { class = class; method = method; place = 0; told = told; locals = locals } →
      row' ≡ drop (length row - args) row ++ replicate (locals - args) cells.Unset →
      rows' ≡ take (length row - args) row ∷ rows →
      machine_in texts called (caller ∷ heads) row' rows' heap ≡ entered s.machine class method args locals told
  enters caller called row' rows' class method args locals told le fits is called_is row_is rows_is =
      let n : ℕ = head.locals in
      let k : ℕ = length row - args in
      let kept : n ≤ k = omega (arith, le, frame.within) in
      let ops : List Value = values_in texts (drop n row) in
      let long : length ops ≡ length row - n = length-map (drop n row) (value_in texts) ∙ length-drop n row in
      let some : List Cell = drop k row in
      let count : length some ≡ args = omega (arith, length-drop k row, le) in
      let whole : length (some ++ replicate (locals - args) cells.Unset) ≡ locals =
      omega (
        arith,
        length-append some (replicate (locals - args) cells.Unset),
        count,
        length-replicate (locals - args) cells.Unset,
        fits,
      ) in
      let top : drop (k - n) (drop n row) ≡ some = drop-further n k row kept in
      let all : All (IsSet (length texts)) some =
      subst (All (IsSet (length texts))) top (All-drop (IsSet (length texts)) (k - n) (drop n row) frame.operands) in
      let taken : on_top args ops ≡ values_in texts some =
      ap (λ j. drop (j - args) ops) long ∙ ap (λ j. drop j ops) {x = length row - n - args} {y = k - n} (omega (arith, le))
      ∙ drop-map (value_in texts) (k - n) (drop n row) ∙ ap (values_in texts) top in
      let left : below args ops ≡ values_in texts (drop n (take k row)) =
      ap (λ j. take (j - args) ops) long ∙ ap (λ j. take j ops) {x = length row - n - args} {y = k - n} (omega (arith, le))
      ∙ take-map (value_in texts) (k - n) (drop n row) ∙ ap (values_in texts) (sym (drop-taken n k row kept (omega arith))) in
      let new_locals : map (local_in texts) (take locals (some ++ replicate (locals - args) cells.Unset))
      ≡ map Some (on_top args ops) ++ replicate (locals - args) None =
      ap (map (local_in texts)) (take_all locals (some ++ replicate (locals - args) cells.Unset) (omega (arith, whole)))
      ∙ map-append (local_in texts) some (replicate (locals - args) cells.Unset)
      ∙ ap (λ l. l ++ map (local_in texts) (replicate (locals - args) cells.Unset))
      (set_locals texts (length texts) some all ∙ ap (map Some) (sym taken))
      ∙ ap (λ l. map Some (on_top args ops) ++ l) (map-replicate (local_in texts) (locals - args) cells.Unset) in
      let new_operands : values_in texts (drop locals (some ++ replicate (locals - args) cells.Unset)) ≡ [] =
      ap (values_in texts) (drop_all locals (some ++ replicate (locals - args) cells.Unset) (omega (arith, whole))) in
      let called' : Head = record { class = class; method = method; place = 0; told = told; locals = locals } in
      let caller' : Head = record head { place = head.place + 1 } in
      ap (λ h. machine_in texts called (h ∷ heads) row' rows' heap) is
      ∙ ap (λ h. machine_in texts h (caller' ∷ heads) row' rows' heap) called_is
      ∙ ap (λ r. machine_in texts called' (caller' ∷ heads) r rows' heap) row_is
      ∙ ap (λ r. machine_in texts called' (caller' ∷ heads) (some ++ replicate (locals - args) cells.Unset) r heap) rows_is
      ∙ ap (λ l. framed class method told l (values_in texts (drop locals (some ++ replicate (locals - args) cells.Unset)))
      (frame_in texts caller' (take k row)) (frames_in texts heads rows) (objects_in texts heap)) new_locals
      ∙ ap (λ l. framed class method told (map Some (on_top args ops) ++ replicate (locals - args) None) l
      (frame_in texts caller' (take k row)) (frames_in texts heads rows) (objects_in texts heap)) new_operands
      ∙ ap (λ l. framed class method told (map Some (on_top args ops) ++ replicate (locals - args) None) []
      (record (frame_in texts caller' (take k row)) { locals = map (local_in texts) l }) (frames_in texts heads rows)
      (objects_in texts heap))
      (take-take n k row kept)
      ∙ ap (λ l. framed class method told (map Some (on_top args ops) ++ replicate (locals - args) None) []
      (record (frame_in texts caller' row) { operands = l }) (frames_in texts heads rows) (objects_in texts heap)) (sym left)
      ∙ ap (λ t. entered t.machine class method args locals told) view_is

  -- the frame that begins and the one that waits for it are as they should be
  pub called-frame : (called : Head) (row' : List Cell) (args : ℕ) → args ≤ length row - head.locals → args ≤ called.locals →
      row' ≡ drop (length row - args) row ++ replicate (called.locals - args) cells.Unset → IsFrame (length texts) called row'
  called-frame called row' args le fits is =
      let n : ℕ = head.locals in
      let k : ℕ = length row - args in
      let some : List Cell = drop k row in
      let whole : length (some ++ replicate (called.locals - args) cells.Unset) ≡ called.locals =
      omega (
        arith,
        length-append some (replicate (called.locals - args) cells.Unset),
        length-drop k row,
        length-replicate (called.locals - args) cells.Unset,
        fits,
        le,
      ) in
      let top : drop (k - n) (drop n row) ≡ some = drop-further n k row (omega (arith, le, frame.within)) in
      let all : All (IsSet (length texts)) some =
      subst (All (IsSet (length texts))) top (All-drop (IsSet (length texts)) (k - n) (drop n row) frame.operands) in
      let each : All (IsKnown (length texts)) (some ++ replicate (called.locals - args) cells.Unset) =
      All-append (IsKnown (length texts)) some (replicate (called.locals - args) cells.Unset)
      (All-weaker (IsSet (length texts)) (IsKnown (length texts)) (known (length texts)) some all)
      (All-replicate (IsKnown (length texts)) (called.locals - args) cells.Unset tt) in
      subst (IsFrame (length texts) called) (sym is)
      (record {
        within = omega (arith, whole);
        locals = All-take (IsKnown (length texts)) called.locals (some ++ replicate (called.locals - args) cells.Unset) each;
        operands = subst (All (IsSet (length texts)))
            (sym (drop_all called.locals (some ++ replicate (called.locals - args) cells.Unset) (omega (arith, whole))))
            (All-nil (IsSet (length texts)));
      })

  pub waiting-frame : (args : ℕ) → args ≤ length row - head.locals → IsFrame (length texts) head (take (length row - args) row)
  waiting-frame args le =
      frame-take (length texts) head row frame (take (length row - args) row) (length row - args) (omega arith)
      (omega (arith, le, frame.within)) refl

-- The frames that wait.

module _ (count : ℕ) where
  -- none has a frame below it that isn't empty
  pub has_row : (head : Head) (heads : List Head) (rows : List (List Cell)) → AreFrames count (head ∷ heads) rows → rows ≡ [] → ⊥
  has_row head heads [] are is = are
  has_row head heads (row ∷ rows) are is = cc

  -- the nearest
  pub nearest : (head : Head) (heads : List Head) (rows left : List (List Cell)) (row : List Cell) → AreFrames count (head ∷ heads) rows →
      rows ≡ row ∷ left → IsFrame count head row × AreFrames count heads left
  nearest head heads rows left row are is = subst (AreFrames count (head ∷ heads)) is are

-- what a return leads to
module _ (texts : List Name) (left_head head : Head) (heads : List Head) (left_row row : List Cell) (rows : List (List Cell))
    (heap : List Object) (s : Seen)
    (view_is : seen_in texts left_head (head ∷ heads) left_row (row ∷ rows) heap ≡ s) where
  pub leaves : left_to s.machine [] s.machine.callers ≡ Some (machine_in texts head heads row rows heap)
  leaves =
      ap (λ t. left_to t.machine [] t.machine.callers) (sym view_is)
      ∙ ap (λ l. Some (record (machine_in texts head heads row rows heap) { frame = record (frame_in texts head row) { operands = l } }))
      (append-nil (values_in texts (drop head.locals row)))

  pub leaves_with : (cell : Cell) → head.locals ≤ length row →
      left_to s.machine (value_in s.texts cell ∷ []) s.machine.callers ≡ Some (machine_in texts head heads (row ++ cell ∷ []) rows heap)
  leaves_with cell within =
      ap (λ t. left_to t.machine (value_in t.texts cell ∷ []) t.machine.callers) (sym view_is)
      ∙ ap (λ m. Some m) (sym (pushes texts head heads row rows heap (seen_in texts head heads row rows heap) refl within head.place
      (row ++ cell ∷ []) rows cell refl refl))

  pub waits : IsNearest head.class head.method (length row - head.locals) s.machine.callers
  waits = subst (λ t. IsNearest head.class head.method (length row - head.locals) t.machine.callers) view_is
      (refl, refl, sym (length-map (drop head.locals row) (value_in texts) ∙ length-drop head.locals row))

-- no frame waits
pub none_waits : (texts : List Name) (head : Head) (row : List Cell) (rows : List (List Cell)) (heap : List Object) (s : Seen) →
    seen_in texts head [] row rows heap ≡ s → s.machine.callers ≡ []
none_waits texts head row rows heap s view_is = sym (ap (λ t. t.machine.callers) view_is)
