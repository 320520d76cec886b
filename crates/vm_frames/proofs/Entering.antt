-- A state that a method was entered in, and one that was left.
use Rattle.std.proofs.Common.{◌≡◌, ℕ, ◌+◌, ◌-◌, ◌≤◌, List, [], ◌∷◌, ◌++◌, length, take, drop, replicate, Option, Some, refl, sym, ap, ap₂}
use Rattle.std.proofs.Common.{◌∙◌, subst, arith, length-append, length-drop}
use Rattle.std.proofs.lemmas.List.{reverse-append, length-replicate}
use Rattle.std.specs.Prelude.{All, reverse}
use Rattle.raw_stack.specs.Frames.{Frames}
use Rattle.vm_frames.specs.declared.cell.Cell.{Cell}
use Rattle.vm_frames.specs.declared.cell.Cell.TheVariants as cells
use Rattle.vm_frames.specs.declared.cell.Head.{Head}
use Rattle.vm_frames.specs.declared.state.State.TheInside.{Inside}
use Rattle.vm_frames.specs.Seen.{Seen, value_in, IsSet}
use Rattle.vm_frames.specs.View.{machine_in, seen_in, seen_of}
use Rattle.vm_frames.specs.Kept.{IsFrame, AreFrames, IsObject, IsKept, most}
use Rattle.vm_frames.specs.Frames.{entered, left_to, IsNearest}
use Rattle.vm_frames.proofs.Rows.{frame-push, placed}
use Rattle.vm_frames.proofs.Calling as calls
use Rattle.vm_frames.proofs.States.{depth_is}

module _ (s : Inside) (v : Seen) (view_is : seen_of s ≡ v) (kept : IsKept s) where
  module _ (s' : Inside) (class method args locals blanks : ℕ) (told : Option ℕ) (mid : Frames Cell) (older : List Head)
      (texts : s'.texts.items ≡ s.texts.items)
      (heap : s'.heap.items ≡ s.heap.items) (le : args ≤ length v.machine.frame.operands) (fits : args ≤ locals)
      (same : (mid.running ≡ s.cells.running) × (mid.callers ≡ s.cells.callers))
      (head : s'.head ≡ record { class = class; method = method; place = 0; told = told; locals = locals })
      (older_are : older ≡ s.heads.items) (heads : s'.heads.items ≡ older ++ record s.head { place = s.head.place + 1 } ∷ [])
      (blanks_are : blanks ≡ locals)
      (running : s'.cells.running ≡ drop (length mid.running - args) mid.running ++ replicate (blanks - args) cells.Unset)
      (callers : s'.cells.callers ≡ take (length mid.running - args) mid.running ∷ mid.callers) where
    short : args ≤ length s.cells.running - s.head.locals
    short = omega (arith, le, depth_is s v view_is kept)

    running_is : s'.cells.running ≡ drop (length s.cells.running - args) s.cells.running ++ replicate (locals - args) cells.Unset
    running_is = running ∙ ap₂ (λ r n. drop (length r - args) r ++ replicate (n - args) cells.Unset) same.0 blanks_are

    callers_is : s'.cells.callers ≡ take (length s.cells.running - args) s.cells.running ∷ s.cells.callers
    callers_is = callers ∙ ap (λ r. take (length r - args) r ∷ mid.callers) same.0
        ∙ ap (λ r. take (length s.cells.running - args) s.cells.running ∷ r) same.1

    heads_is : reverse s'.heads.items ≡ record s.head { place = s.head.place + 1 } ∷ reverse s.heads.items
    heads_is = ap reverse (heads ∙ ap (λ l. l ++ record s.head { place = s.head.place + 1 } ∷ []) older_are)
        ∙ reverse-append s.heads.items (record s.head { place = s.head.place + 1 } ∷ [])

    pub enters : (seen_of s').machine ≡ entered v.machine class method args locals told
    enters =
        ap (λ t. machine_in t s'.head (reverse s'.heads.items) s'.cells.running s'.cells.callers s'.heap.items) texts
        ∙ ap (machine_in s.texts.items s'.head (reverse s'.heads.items) s'.cells.running s'.cells.callers) heap
        ∙ ap (λ l. machine_in s.texts.items s'.head l s'.cells.running s'.cells.callers s.heap.items) heads_is
        ∙ calls.enters s.texts.items s.head (reverse s.heads.items) s.cells.running s.cells.callers s.heap.items v view_is kept.running
        (record s.head { place = s.head.place + 1 }) s'.head s'.cells.running s'.cells.callers class method args locals told short fits refl
        head
        running_is callers_is

    pub entered-kept : s'.cells.spare + (blanks - args) ≡ mid.spare → blanks - args + most ≤ mid.spare → IsKept s'
    entered-kept spare enough =
        let locals_is : s'.head.locals ≡ locals = ap (λ h. h.locals) head in
        let long : length s'.cells.running ≡ locals =
        ap length running_is
        ∙ omega (
          arith,
          length-append (drop (length s.cells.running - args) s.cells.running) (replicate (locals - args) cells.Unset),
          length-drop (length s.cells.running - args) s.cells.running,
          length-replicate (locals - args) cells.Unset,
          fits,
          short,
        ) in
        let row_is : s'.cells.running
        ≡ drop (length s.cells.running - args) s.cells.running ++ replicate (s'.head.locals - args) cells.Unset =
        running_is ∙ ap (λ k. drop (length s.cells.running - args) s.cells.running ++ replicate (k - args) cells.Unset) (sym locals_is) in
        let fits_in : args ≤ s'.head.locals = omega (arith, fits, locals_is) in
        let waiting : IsFrame (length s.texts.items) s.head (take (length s.cells.running - args) s.cells.running) =
        calls.waiting-frame s.texts.items s.head
        (reverse s.heads.items) s.cells.running s.cells.callers s.heap.items v view_is kept.running args short in
        let each : AreFrames (length s.texts.items) (record s.head { place = s.head.place + 1 } ∷ reverse s.heads.items)
        (take (length s.cells.running - args) s.cells.running ∷ s.cells.callers) = (
          placed (length s.texts.items) (s.head.place + 1) s.head (take (length s.cells.running - args) s.cells.running) waiting,
          kept.callers,
        ) in
        let count : length s.texts.items ≡ length s'.texts.items = sym (ap length texts) in
        record {
          room = omega (arith, locals_is, long, blanks_are, spare, enough);
          running = subst (λ k. IsFrame k s'.head s'.cells.running) count
              (calls.called-frame s.texts.items s.head
              (reverse s.heads.items) s.cells.running s.cells.callers s.heap.items v view_is kept.running s'.head s'.cells.running args
              short fits_in row_is);
          callers = subst (λ k. AreFrames k (reverse s'.heads.items) s'.cells.callers) count
              (subst (λ l. AreFrames (length s.texts.items) l s'.cells.callers) (sym heads_is)
              (subst (AreFrames (length s.texts.items) (record s.head { place = s.head.place + 1 } ∷ reverse s.heads.items))
              (sym callers_is) each));
          objects = subst (λ k. All (IsObject k) s'.heap.items) count
              (subst (All (IsObject (length s.texts.items))) (sym heap) kept.objects);
        }

  -- A state whose nearest frame runs again.
  module _ (head : Head) (left : List Head) (heads : s.heads.items ≡ left ++ head ∷ []) where
    waiting_is : reverse s.heads.items ≡ head ∷ reverse left
    waiting_is = ap reverse heads ∙ reverse-append left (head ∷ [])

    all_are : AreFrames (length s.texts.items) (head ∷ reverse left) s.cells.callers
    all_are = subst (λ l. AreFrames (length s.texts.items) l s.cells.callers) waiting_is kept.callers

    pub has_below : s.cells.callers ≡ [] → ⊥
    has_below = calls.has_row (length s.texts.items) head (reverse left) s.cells.callers all_are

    module _ (below : Frames Cell) (is : s.cells.callers ≡ below.running ∷ below.callers) where
      pub frames_below : IsFrame (length s.texts.items) head below.running × AreFrames (length s.texts.items) (reverse left) below.callers
      frames_below = calls.nearest (length s.texts.items) head (reverse left) s.cells.callers below.callers below.running all_are is

      seen_is : seen_in s.texts.items s.head (head ∷ reverse left) s.cells.running (below.running ∷ below.callers) s.heap.items ≡ v
      seen_is =
          ap (λ l. seen_in s.texts.items s.head l s.cells.running (below.running ∷ below.callers) s.heap.items) (sym waiting_is)
          ∙ ap (λ r. seen_in s.texts.items s.head (reverse s.heads.items) s.cells.running r s.heap.items) (sym is) ∙ view_is

      pub leaves : left_to v.machine [] v.machine.callers
          ≡ Some (machine_in s.texts.items head (reverse left) below.running below.callers s.heap.items)
      leaves = calls.leaves s.texts.items s.head head (reverse left) s.cells.running below.running below.callers s.heap.items v seen_is

      pub leaves_with : (after : Frames Cell) (cell : Cell) → after.running ≡ below.running ++ cell ∷ [] → after.callers ≡ below.callers →
          left_to v.machine (value_in v.texts cell ∷ []) v.machine.callers
          ≡ Some (machine_in s.texts.items head (reverse left) after.running after.callers s.heap.items)
      leaves_with after cell running callers =
          calls.leaves_with s.texts.items s.head head
          (reverse left) s.cells.running below.running below.callers s.heap.items v seen_is cell frames_below.0.within
          ∙ ap (λ r. Some (machine_in s.texts.items head (reverse left) r below.callers s.heap.items)) (sym running)
          ∙ ap (λ r. Some (machine_in s.texts.items head (reverse left) after.running r s.heap.items)) (sym callers)

      -- what is kept of it
      pub left-kept : (s' : Inside) → s'.texts.items ≡ s.texts.items → s'.heap.items ≡ s.heap.items → s'.head ≡ head →
          s'.heads.items ≡ left →
          s'.cells ≡ below → below.spare ≡ s.cells.spare + length s.cells.running → IsKept s'
      left-kept s' texts heap head_is heads_is cells_is spare =
          let count : length s.texts.items ≡ length s'.texts.items = sym (ap length texts) in
          let within : head.locals ≤ length below.running = frames_below.0.within in
          let locals_is : s'.head.locals ≡ head.locals = ap (λ h. h.locals) head_is in
          let spare_is : s'.cells.spare ≡ below.spare = ap (λ f. f.spare) cells_is in
          let long : length s'.cells.running ≡ length below.running = ap (λ f. length f.running) cells_is in
          record {
            room = omega (arith, kept.room, kept.running.within, spare, within, locals_is, spare_is, long);
            running = subst (λ k. IsFrame k s'.head s'.cells.running) count
                (subst (λ h. IsFrame (length s.texts.items) h s'.cells.running) (sym head_is)
                (subst (λ f. IsFrame (length s.texts.items) head f.running) (sym cells_is) frames_below.0));
            callers = subst (λ k. AreFrames k (reverse s'.heads.items) s'.cells.callers) count
                (subst (λ l. AreFrames (length s.texts.items) (reverse l) s'.cells.callers) (sym heads_is)
                (subst (λ f. AreFrames (length s.texts.items) (reverse left) f.callers) (sym cells_is) frames_below.1));
            objects = subst (λ k. All (IsObject k) s'.heap.items) count
                (subst (All (IsObject (length s.texts.items))) (sym heap) kept.objects);
          }

      pub left-kept-with : (s' : Inside) (cell : Cell) → s'.texts.items ≡ s.texts.items → s'.heap.items ≡ s.heap.items → s'.head ≡ head →
          s'.heads.items ≡ left → s'.cells.running ≡ below.running ++ cell ∷ [] → s'.cells.callers ≡ below.callers →
          s'.cells.spare + 1 ≡ below.spare → below.spare ≡ s.cells.spare + length s.cells.running → IsSet (length s.texts.items) cell →
          IsKept s'
      left-kept-with s' cell texts heap head_is heads_is running callers less spare is_set =
          let count : length s.texts.items ≡ length s'.texts.items = sym (ap length texts) in
          let within : head.locals ≤ length below.running = frames_below.0.within in
          let locals_is : s'.head.locals ≡ head.locals = ap (λ h. h.locals) head_is in
          record {
            room = omega (
              arith,
              kept.room,
              kept.running.within,
              spare,
              less,
              within,
              locals_is,
              ap length running,
              length-append below.running (cell ∷ []),
            );
            running = subst (λ k. IsFrame k s'.head s'.cells.running) count
                (subst (λ h. IsFrame (length s.texts.items) h s'.cells.running) (sym head_is)
                (frame-push (length s.texts.items) head below.running frames_below.0 s'.cells.running cell running is_set));
            callers = subst (λ k. AreFrames k (reverse s'.heads.items) s'.cells.callers) count
                (subst (λ l. AreFrames (length s.texts.items) (reverse l) s'.cells.callers) (sym heads_is)
                (subst (AreFrames (length s.texts.items) (reverse left)) (sym callers) frames_below.1));
            objects = subst (λ k. All (IsObject k) s'.heap.items) count
                (subst (All (IsObject (length s.texts.items))) (sym heap) kept.objects);
          }

      pub is_nearest : IsNearest head.class head.method (length below.running - head.locals) v.machine.callers
      is_nearest = calls.waits s.texts.items s.head head (reverse left) s.cells.running below.running below.callers s.heap.items v seen_is

  pub none_waits : s.heads.items ≡ [] → v.machine.callers ≡ []
  none_waits is =
      calls.none_waits s.texts.items s.head s.cells.running s.cells.callers s.heap.items v
      (ap (λ l. seen_in s.texts.items s.head (reverse l) s.cells.running s.cells.callers s.heap.items) (sym is) ∙ view_is)
