-- A state whose parts have moved, and one with a text or an object more.
use Rattle.std.proofs.Common.{◌≡◌, ℕ, ◌≤◌, [], ◌∷◌, ◌++◌, length, set, sym, ap, ◌∙◌, subst, arith, length-append}
use Rattle.std.proofs.lemmas.List.Elements.{All-push, All-set}
use Rattle.std.specs.Prelude.{All, reverse, Result, Ok, Err, OnErr}
use Rattle.mg_text.specs.Call.{Name}
use Rattle.vm_frames.specs.declared.cell.Object.{Object}
use Rattle.vm_frames.specs.declared.state.State.TheInside.{Inside}
use Rattle.vm_frames.specs.Seen.{Seen}
use Rattle.vm_frames.specs.View.{machine_in, seen_of}
use Rattle.vm_frames.specs.Kept.{IsFrame, AreFrames, IsObject, IsKept}
use Rattle.vm_frames.proofs.Tabled.{more-frame, more-frames, more-objects, same-machine}

-- what holds is said of an error too
pub on_err : {A E P : Type 0} (r : Result A E) → P → OnErr r P
on_err (Ok a) h = tt
on_err (Err e) h = h

module _ (s : Inside) (v : Seen) (view_is : seen_of s ≡ v) (kept : IsKept s) (s' : Inside) (head : s'.head ≡ s.head)
    (heads : s'.heads.items ≡ s.heads.items)
    (running : s'.cells.running ≡ s.cells.running) (callers : s'.cells.callers ≡ s.cells.callers) where
  -- all that there is stays
  module _ (texts : s'.texts.items ≡ s.texts.items) (heap : s'.heap.items ≡ s.heap.items) where
    pub same-seen : (seen_of s').machine ≡ v.machine
    same-seen =
        ap (λ t. machine_in t s'.head (reverse s'.heads.items) s'.cells.running s'.cells.callers s'.heap.items) texts
        ∙ ap (λ h. machine_in s.texts.items h (reverse s'.heads.items) s'.cells.running s'.cells.callers s'.heap.items) head
        ∙ ap (λ l. machine_in s.texts.items s.head (reverse l) s'.cells.running s'.cells.callers s'.heap.items) heads
        ∙ ap (λ r. machine_in s.texts.items s.head (reverse s.heads.items) r s'.cells.callers s'.heap.items) running
        ∙ ap (λ r. machine_in s.texts.items s.head (reverse s.heads.items) s.cells.running r s'.heap.items) callers
        ∙ ap (machine_in s.texts.items s.head (reverse s.heads.items) s.cells.running s.cells.callers) heap
        ∙ ap (λ t. t.machine) view_is

  -- what is kept of it where there are as many texts, and objects as they should be
  frames-kept : (count : ℕ) → count ≡ length s'.texts.items → s.cells.spare ≤ s'.cells.spare → IsFrame count s.head s.cells.running →
      AreFrames count (reverse s.heads.items) s.cells.callers → All (IsObject count) s'.heap.items → IsKept s'
  frames-kept count is spare frame are all = record {
    room = omega (arith, kept.room, spare, ap (λ h. h.locals) head, ap length running);
    running = subst (λ k. IsFrame k s'.head s'.cells.running) is
        (subst (λ h. IsFrame count h s'.cells.running) (sym head) (subst (IsFrame count s.head) (sym running) frame));
    callers = subst (λ k. AreFrames k (reverse s'.heads.items) s'.cells.callers) is
        (subst (λ l. AreFrames count (reverse l) s'.cells.callers) (sym heads)
        (subst (AreFrames count (reverse s.heads.items)) (sym callers) are));
    objects = subst (λ k. All (IsObject k) s'.heap.items) is all;
  }

  module _ (spare : s.cells.spare ≤ s'.cells.spare) where
    pub same-kept : s'.texts.items ≡ s.texts.items → s'.heap.items ≡ s.heap.items → IsKept s'
    same-kept texts heap =
        frames-kept (length s.texts.items) (sym (ap length texts)) spare kept.running kept.callers
        (subst (All (IsObject (length s.texts.items))) (sym heap) kept.objects)

    -- a text more
    module _ (text : Name) (texts : s'.texts.items ≡ s.texts.items ++ text ∷ []) (heap : s'.heap.items ≡ s.heap.items) where
      pub texted-kept : IsKept s'
      texted-kept =
          let longer : length s.texts.items ≤ length (s.texts.items ++ text ∷ []) =
          omega (arith, length-append s.texts.items (text ∷ [])) in
          frames-kept (length (s.texts.items ++ text ∷ [])) (sym (ap length texts)) spare
          (more-frame (length s.texts.items) (length (s.texts.items ++ text ∷ [])) longer s.head s.cells.running kept.running)
          (more-frames (length s.texts.items) (length (s.texts.items ++ text ∷ [])) longer
          (reverse s.heads.items) s.cells.callers kept.callers)
          (subst (All (IsObject (length (s.texts.items ++ text ∷ [])))) (sym heap)
          (more-objects (length s.texts.items) (length (s.texts.items ++ text ∷ [])) longer s.heap.items kept.objects))

      pub texted : (seen_of s').machine ≡ v.machine
      texted =
          ap (λ h. machine_in s'.texts.items h (reverse s'.heads.items) s'.cells.running s'.cells.callers s'.heap.items) head
          ∙ ap (λ l. machine_in s'.texts.items s.head (reverse l) s'.cells.running s'.cells.callers s'.heap.items) heads
          ∙ ap (λ r. machine_in s'.texts.items s.head (reverse s.heads.items) r s'.cells.callers s'.heap.items) running
          ∙ ap (λ r. machine_in s'.texts.items s.head (reverse s.heads.items) s.cells.running r s'.heap.items) callers
          ∙ ap (machine_in s'.texts.items s.head (reverse s.heads.items) s.cells.running s.cells.callers) heap
          ∙ same-machine s.texts.items text s'.texts.items s.head (reverse s.heads.items) s.cells.running s.cells.callers s.heap.items texts
          kept.running kept.callers kept.objects
          ∙ ap (λ t. t.machine) view_is

    -- an object more, and one that is changed
    pub made-kept : (o : Object) → s'.texts.items ≡ s.texts.items → s'.heap.items ≡ s.heap.items ++ o ∷ [] →
        IsObject (length s.texts.items) o → IsKept s'
    made-kept o texts heap is =
        frames-kept (length s.texts.items) (sym (ap length texts)) spare kept.running kept.callers
        (subst (All (IsObject (length s.texts.items))) (sym heap)
        (All-push (IsObject (length s.texts.items)) s.heap.items o kept.objects is))

    pub written-kept : (n : ℕ) (o : Object) → s'.texts.items ≡ s.texts.items → s'.heap.items ≡ set s.heap.items n o →
        IsObject (length s.texts.items) o →
        IsKept s'
    written-kept n o texts heap is =
        frames-kept (length s.texts.items) (sym (ap length texts)) spare kept.running kept.callers
        (subst (All (IsObject (length s.texts.items))) (sym heap)
        (All-set (IsObject (length s.texts.items)) s.heap.items n o is kept.objects))
