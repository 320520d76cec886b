-- A state at the beginning.
use Rattle.std.proofs.Common.{◌≡◌, ℕ, ◌+◌, ◌-◌, ◌≤◌, [], ◌∷◌, ◌++◌, length, map, take, drop, replicate, None, sym, ap, ◌∙◌, subst, arith}
use Rattle.std.proofs.lemmas.List.{take_all, drop_all, length-replicate}
use Rattle.std.proofs.lemmas.List.Elements.{All-nil, All-replicate}
use Rattle.std.specs.Prelude.{All, reverse}
use Rattle.raw_stack.specs.Frames.{Frames}
use Rattle.vm_frames.specs.declared.cell.Cell.{Cell}
use Rattle.vm_frames.specs.declared.cell.Cell.TheVariants as cells
use Rattle.vm_frames.specs.declared.state.State.TheInside.{Inside}
use Rattle.vm_frames.specs.Seen.{values_in, local_in, IsKnown, IsSet}
use Rattle.vm_frames.specs.View.{machine_in, seen_of}
use Rattle.vm_frames.specs.Kept.{AreFrames, IsObject, IsKept, most}
use Rattle.vm_frames.specs.Frames.{started}
use Rattle.vm_frames.proofs.Calling.{map-replicate}

-- a frame over none
module _ (mid after : Frames Cell) (none : mid.running ≡ []) where
  pub begins : (count locals : ℕ) → after.running ≡ drop (length mid.running - 0) mid.running ++ replicate count cells.Unset →
      count ≡ locals →
      after.running ≡ replicate locals cells.Unset
  begins count locals is same =
      is ∙ ap (λ r. drop (length r - 0) r ++ replicate count cells.Unset) none ∙ ap (λ n. replicate n cells.Unset) same

  pub none_below : mid.callers ≡ [] → after.callers ≡ take (length mid.running - 0) mid.running ∷ mid.callers → after.callers ≡ [] ∷ []
  none_below lowest is = is ∙ ap (λ r. take (length r - 0) r ∷ mid.callers) none ∙ ap (λ l. [] ∷ l) lowest

module _ (s : Inside) (class method locals : ℕ) (texts : s.texts.items ≡ []) (heap : s.heap.items ≡ []) (heads : s.heads.items ≡ [])
    (head : s.head ≡ record { class = class; method = method; place = 0; told = None; locals = locals })
    (running : s.cells.running ≡ replicate locals cells.Unset) where
  locals_is : s.head.locals ≡ locals
  locals_is = ap (λ h. h.locals) head

  long : length s.cells.running ≡ locals
  long = ap length running ∙ length-replicate locals cells.Unset

  pub started-kept : s.cells.callers ≡ [] ∷ [] → locals + most ≤ s.cells.spare + locals → IsKept s
  started-kept callers enough = record {
    room = omega (arith, locals_is, long, enough);
    running = record {
      within = omega (arith, locals_is, long);
      locals = subst (All (IsKnown (length s.texts.items)))
          (sym (take_all s.head.locals s.cells.running (omega (arith, locals_is, long)) ∙ running))
          (All-replicate (IsKnown (length s.texts.items)) locals cells.Unset tt);
      operands = subst (All (IsSet (length s.texts.items))) (sym (drop_all s.head.locals s.cells.running (omega (arith, locals_is, long))))
          (All-nil (IsSet (length s.texts.items)));
    };
    callers = subst (λ l. AreFrames (length s.texts.items) (reverse l) s.cells.callers) (sym heads) callers;
    objects = subst (All (IsObject (length s.texts.items))) (sym heap) (All-nil (IsObject (length s.texts.items)));
  }

  pub starts : (seen_of s).machine ≡ started class method locals
  starts =
      ap (λ t. machine_in t s.head (reverse s.heads.items) s.cells.running s.cells.callers s.heap.items) texts
      ∙ ap (machine_in [] s.head (reverse s.heads.items) s.cells.running s.cells.callers) heap
      ∙ ap (λ l. machine_in [] s.head (reverse l) s.cells.running s.cells.callers []) heads
      ∙ ap (λ h. machine_in [] h [] s.cells.running s.cells.callers []) head
      ∙ ap (λ r. machine_in [] (record { class = class; method = method; place = 0; told = None; locals = locals }) [] r s.cells.callers [])
      running
      ∙ ap (λ l. record (started class method locals) {
        frame =
            record (started class method locals).frame {
              locals = map (local_in []) l;
              operands =
                  values_in [] (drop locals (replicate locals cells.Unset));
            };
      })
      (take_all locals (replicate locals cells.Unset) (omega (arith, length-replicate locals cells.Unset)))
      ∙ ap (λ l. record (started class method locals) {
        frame =
            record (started class method locals).frame { locals = l; operands = values_in [] (drop locals (replicate locals cells.Unset)) };
      })
      (map-replicate (local_in []) locals cells.Unset)
      ∙ ap (λ l. record (started class method locals) { frame = record (started class method locals).frame { operands = values_in [] l } })
      (drop_all locals (replicate locals cells.Unset) (omega (arith, length-replicate locals cells.Unset)))
