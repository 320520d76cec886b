-- What a return leaves, by what the region says.
use Rattle.std.proofs.Common.{◌≡◌, ◌+◌, ◌<◌, ◌∙◌, List, [], ◌∷◌, ◌++◌, length, reverse, Bool, Option, Some, None, sym, ap, subst}
use Rattle.std.proofs.Common.{append-nil, arith}
use Rattle.std.specs.Option.{option_to_list, option_map}
use Rattle.std.specs.Bool.{OnTrue, OnFalse}
use Rattle.std.specs.Prelude.{IfSome}
use Rattle.raw_stack.specs.Frames.{Frames}
use Rattle.vm_frames.specs.declared.cell.Cell.{Cell}
use Rattle.vm_frames.specs.declared.cell.Head.{Head}
use Rattle.vm_frames.specs.declared.state.State.TheInside.{Inside}
use Rattle.vm_frames.specs.Seen.{Seen, value_in, IsSet}
use Rattle.vm_frames.specs.View.{machine_in, seen_of}
use Rattle.vm_frames.specs.Kept.{IsKept}
use Rattle.vm_frames.specs.Frames.{left_to}
use Rattle.vm_frames.proofs.Entering.{has_below, leaves, leaves_with, left-kept, left-kept-with, none_waits}
use Rattle.vm_frames.proofs.Nearest.{no_items, true_part}
use Rattle.vm_frames.proofs.States.{texts_is}

module _ (s : Inside) (v : Seen) (view_is : seen_of s ≡ v) (kept : IsKept s) (popped : List Head) (found : Option Head)
    (items : s.heads.items ≡ popped ++ option_to_list found) where
  -- no frame waits
  module _ (none : found ≡ None) where
    pub nothing_popped : popped ≡ s.heads.items
    nothing_popped = sym (items ∙ ap (λ o. popped ++ option_to_list o) none ∙ append-nil popped)

    pub alone : length s.heads.items ≡ 0 → v.machine.callers ≡ []
    alone long = none_waits s v view_is kept (no_items s.heads.items long)

  module _ (head : Head) (some : found ≡ Some head) (below : Frames Cell) (left : Bool)
      (if_true : OnTrue left ((s.cells.callers ≡ below.running ∷ below.callers) × (below.spare ≡ s.cells.spare + length s.cells.running) ×
      (below.room ≡ s.cells.room + 1)))
      (if_false : OnFalse left ((s.cells.callers ≡ []) × (below ≡ s.cells))) where
    heads : s.heads.items ≡ popped ++ head ∷ []
    heads = items ∙ ap (λ o. popped ++ option_to_list o) some

    is_left : (s.cells.callers ≡ below.running ∷ below.callers) × (below.spare ≡ s.cells.spare + length s.cells.running) ×
        (below.room ≡ s.cells.room + 1)
    is_left =
        true_part left ((s.cells.callers ≡ below.running ∷ below.callers) × (below.spare ≡ s.cells.spare + length s.cells.running) ×
        (below.room ≡ s.cells.room + 1))
        ((s.cells.callers ≡ []) × (below ≡ s.cells)) if_true if_false (λ h. has_below s v view_is kept head popped heads h.0)

    pub has_room : 0 < below.spare
    has_room = omega (arith, kept.room, is_left.1)

    -- with no value
    module _ (value : Option Cell) (is : value ≡ None) where
      pub none-kept : (s' : Inside) → s'.texts.items ≡ s.texts.items → s'.heap.items ≡ s.heap.items → s'.head ≡ head →
          s'.heads.items ≡ popped →
          s'.cells ≡ below → IsKept s'
      none-kept s' texts heap head_is heads_is cells_is =
          left-kept s v view_is kept head popped heads below is_left.0 s' texts heap head_is heads_is cells_is is_left.1

      pub none_left : (s' : Inside) → s'.texts.items ≡ s.texts.items → s'.heap.items ≡ s.heap.items → s'.head ≡ head →
          s'.heads.items ≡ popped →
          s'.cells ≡ below →
          left_to v.machine (option_to_list (option_map (value_in v.texts) value)) v.machine.callers ≡ Some (seen_of s').machine
      none_left s' texts heap head_is heads_is cells_is =
          ap (λ o. left_to v.machine (option_to_list (option_map (value_in v.texts) o)) v.machine.callers) is
          ∙ leaves s v view_is kept head popped heads below is_left.0
          ∙ sym (ap (λ t. Some (machine_in t s'.head (reverse s'.heads.items) s'.cells.running s'.cells.callers s'.heap.items)) texts
          ∙ ap (λ h. Some (machine_in s.texts.items s'.head (reverse s'.heads.items) s'.cells.running s'.cells.callers h)) heap
          ∙ ap (λ h. Some (machine_in s.texts.items h (reverse s'.heads.items) s'.cells.running s'.cells.callers s.heap.items)) head_is
          ∙ ap (λ l. Some (machine_in s.texts.items head (reverse l) s'.cells.running s'.cells.callers s.heap.items)) heads_is
          ∙ ap (λ f. Some (machine_in s.texts.items head (reverse popped) f.running f.callers s.heap.items)) cells_is)

    -- with a value
    module _ (value : Option Cell) (cell : Cell) (is : value ≡ Some cell) (after : Frames Cell)
        (running : after.running ≡ below.running ++ cell ∷ [])
        (callers : after.callers ≡ below.callers) where
      pub some-kept : (s' : Inside) → s'.texts.items ≡ s.texts.items → s'.heap.items ≡ s.heap.items → s'.head ≡ head →
          s'.heads.items ≡ popped →
          s'.cells.running ≡ after.running → s'.cells.callers ≡ after.callers → s'.cells.spare + 1 ≡ below.spare →
          IfSome value (IsSet (length v.texts)) →
          IsKept s'
      some-kept s' texts heap head_is heads_is running_is callers_is less is_set =
          left-kept-with s v view_is kept head popped heads below is_left.0 s' cell texts heap head_is heads_is (running_is ∙ running)
          (callers_is ∙ callers)
          less is_left.1 (subst (λ t. IsSet (length t) cell) (texts_is s v view_is kept)
          (subst (λ o. IfSome o (IsSet (length v.texts))) is is_set))

      pub some_left : (s' : Inside) → s'.texts.items ≡ s.texts.items → s'.heap.items ≡ s.heap.items → s'.head ≡ head →
          s'.heads.items ≡ popped →
          s'.cells.running ≡ after.running → s'.cells.callers ≡ after.callers →
          left_to v.machine (option_to_list (option_map (value_in v.texts) value)) v.machine.callers ≡ Some (seen_of s').machine
      some_left s' texts heap head_is heads_is running_is callers_is =
          ap (λ o. left_to v.machine (option_to_list (option_map (value_in v.texts) o)) v.machine.callers) is
          ∙ leaves_with s v view_is kept head popped heads below is_left.0 after cell running callers
          ∙ sym (ap (λ t. Some (machine_in t s'.head (reverse s'.heads.items) s'.cells.running s'.cells.callers s'.heap.items)) texts
          ∙ ap (λ h. Some (machine_in s.texts.items s'.head (reverse s'.heads.items) s'.cells.running s'.cells.callers h)) heap
          ∙ ap (λ h. Some (machine_in s.texts.items h (reverse s'.heads.items) s'.cells.running s'.cells.callers s.heap.items)) head_is
          ∙ ap (λ l. Some (machine_in s.texts.items head (reverse l) s'.cells.running s'.cells.callers s.heap.items)) heads_is
          ∙ ap (λ r. Some (machine_in s.texts.items head (reverse popped) r s'.cells.callers s.heap.items)) running_is
          ∙ ap (λ r. Some (machine_in s.texts.items head (reverse popped) after.running r s.heap.items)) callers_is)
