-- What each change of a state's cells is, and what is kept of it.
use Rattle.std.proofs.Common.{◌≡◌, ℕ, ◌+◌, ◌-◌, ◌<◌, ◌≤◌, [], ◌∷◌, ◌++◌, length, take, set, slice_get, Some, None, refl, sym, ap, ◌∙◌}
use Rattle.std.proofs.Common.{IsSome, ◌⊎◌, inl, inr, subst, arith, length-append, length-take}
use Rattle.std.proofs.lemmas.List.{length-set}
use Rattle.std.specs.Prelude.{reverse}
use Rattle.raw_stack.specs.Frames.{Frames}
use Rattle.vm_model.specs.declared.value.Value.{Value}
use Rattle.vm_model.specs.Tests.{below}
use Rattle.vm_model.specs.Step.{at_place, with_local}
use Rattle.vm_frames.specs.declared.cell.Cell.{Cell}
use Rattle.vm_frames.specs.declared.cell.Cell.TheVariants as cells
use Rattle.vm_frames.specs.declared.state.State.TheInside.{Inside}
use Rattle.vm_frames.specs.Seen.{Seen, value_in, local_in, held_in, IsKnown, IsSet}
use Rattle.vm_frames.specs.View.{seen_of}
use Rattle.vm_frames.specs.Kept.{IsFrame, AreFrames, IsKept, most}
use Rattle.vm_frames.proofs.Rows as rows

module _ (s : Inside) (v : Seen) (view_is : seen_of s ≡ v) (kept : IsKept s) where
  pub texts_is : v.texts ≡ s.texts.items
  texts_is = ap (λ t. t.texts) (sym view_is)

  pub place_is : v.machine.frame.place ≡ s.head.place
  place_is = ap (λ t. t.machine.frame.place) (sym view_is)

  pub depth_is : length v.machine.frame.operands ≡ length s.cells.running - s.head.locals
  depth_is = rows.depth_is s.texts.items s.head
      (reverse s.heads.items) s.cells.running s.cells.callers s.heap.items v view_is kept.running.within

  pub locals_is : length v.machine.frame.locals ≡ s.head.locals
  locals_is = rows.locals_is s.texts.items s.head
      (reverse s.heads.items) s.cells.running s.cells.callers s.heap.items v view_is kept.running.within

  -- an operand lies in the running frame
  pub has_operand : (above : ℕ) → above < length v.machine.frame.operands → above < length s.cells.running
  has_operand above lt = omega (arith, lt, depth_is)

  pub operand_says : (above : ℕ) (cell : Cell) → above < length v.machine.frame.operands →
      slice_get s.cells.running (length s.cells.running - 1 - above) ≡ Some cell →
      slice_get v.machine.frame.operands (length v.machine.frame.operands - (above + 1)) ≡ Some (value_in v.texts cell)
  operand_says =
      rows.operand_says s.texts.items s.head
      (reverse s.heads.items) s.cells.running s.cells.callers s.heap.items v view_is kept.running.within

  pub operand_set : (above : ℕ) (cell : Cell) → above < length v.machine.frame.operands →
      slice_get s.cells.running (length s.cells.running - 1 - above) ≡ Some cell → IsSet (length v.texts) cell
  operand_set above cell =
      rows.operand_set s.texts.items s.head
      (reverse s.heads.items) s.cells.running s.cells.callers s.heap.items v view_is kept.running.within
      above cell kept.running.operands

  -- a local lies in it too
  pub has_local : (local : ℕ) → local < s.head.locals → local < length s.cells.running
  has_local local lt = omega (arith, lt, kept.running.within)

  local_says : (local : ℕ) (cell : Cell) → local < s.head.locals → slice_get s.cells.running local ≡ Some cell →
      Some (local_in v.texts cell) ≡ slice_get v.machine.frame.locals local
  local_says =
      rows.local_says s.texts.items s.head
      (reverse s.heads.items) s.cells.running s.cells.callers s.heap.items v view_is kept.running.within

  local_known : (local : ℕ) (cell : Cell) → local < s.head.locals → slice_get s.cells.running local ≡ Some cell →
      IsKnown (length v.texts) cell
  local_known local cell =
      rows.local_known s.texts.items s.head
      (reverse s.heads.items) s.cells.running s.cells.callers s.heap.items v view_is kept.running.within
      local cell kept.running.locals

  -- what it holds
  pub none_held : (local : ℕ) → s.head.locals ≤ local → None ≡ held_in (slice_get v.machine.frame.locals local)
  none_held local le =
      ap held_in
      (rows.no_local s.texts.items s.head
      (reverse s.heads.items) s.cells.running s.cells.callers s.heap.items v view_is kept.running.within local le)

  pub unset_held : (local : ℕ) (cell : Cell) → local < s.head.locals → slice_get s.cells.running local ≡ Some cell → cell ≡ cells.Unset →
      None ≡ held_in (slice_get v.machine.frame.locals local)
  unset_held local cell lt e is = sym (ap (local_in v.texts) is) ∙ ap held_in (local_says local cell lt e)

  pub held_set : (local : ℕ) (cell : Cell) → local < s.head.locals → slice_get s.cells.running local ≡ Some cell →
      (cell ≡ cells.Unset → ⊥) →
      IsSet (length v.texts) cell
  held_set local cell lt e differs = rows.set-from_known (length v.texts) cell differs (local_known local cell lt e)

  pub held_says : (local : ℕ) (cell : Cell) → local < s.head.locals → slice_get s.cells.running local ≡ Some cell →
      (cell ≡ cells.Unset → ⊥) →
      Some (value_in v.texts cell) ≡ held_in (slice_get v.machine.frame.locals local)
  held_says local cell lt e differs =
      sym (rows.set_local_in v.texts (length v.texts) cell (held_set local cell lt e differs)) ∙ ap held_in (local_says local cell lt e)

  nothing_there : IsSome {T = Value} None → ⊥
  nothing_there e = cc e

  -- one that holds a value is among the cells, and isn't unset
  pub held_within : (local : ℕ) → IsSome (held_in (slice_get v.machine.frame.locals local)) → local < s.head.locals
  held_within local some =
      elim (local_or local s.head.locals) [
        | inl lt ↦ lt
        | inr le ↦ absurd (nothing_there (subst IsSome (sym (none_held local le)) some))
      ]
    where
      local_or : (a b : ℕ) → (a < b) ⊎ (b ≤ a)
      local_or a b = grind arith

  pub held_differs : (local : ℕ) (cell : Cell) → local < s.head.locals → slice_get s.cells.running local ≡ Some cell →
      IsSome (held_in (slice_get v.machine.frame.locals local)) → cell ≡ cells.Unset → ⊥
  held_differs local cell lt e some is = nothing_there (subst IsSome (sym (unset_held local cell lt e is)) some)

  -- there is room for one more
  pub has_room : length v.machine.frame.operands < most → 0 < s.cells.spare
  has_room lt = omega (arith, lt, depth_is, kept.room, kept.running.within)

  module _ (after : Frames Cell) (callers : after.callers ≡ s.cells.callers) where
    same_callers : AreFrames (length s.texts.items) (reverse s.heads.items) after.callers
    same_callers = subst (AreFrames (length s.texts.items) (reverse s.heads.items)) (sym callers) kept.callers

    module _ (place : ℕ) (cell : Cell) (running : after.running ≡ s.cells.running ++ cell ∷ []) where
      pub pushes : (seen_of (record s { cells = after; head = rows.at_head s.head place })).machine
          ≡ at_place v.machine place (v.machine.frame.operands ++ value_in v.texts cell ∷ [])
      pushes =
          rows.pushes s.texts.items s.head
          (reverse s.heads.items) s.cells.running s.cells.callers s.heap.items v view_is kept.running.within
          place after.running after.callers cell running callers

      pub pushed-kept : after.spare + 1 ≡ s.cells.spare → IsSet (length s.texts.items) cell →
          IsKept (record s { cells = after; head = rows.at_head s.head place })
      pushed-kept spare is_set = record {
        room = omega (arith, kept.room, spare, ap length running, length-append s.cells.running (cell ∷ []));
        running = rows.placed (length s.texts.items) place s.head after.running
            (rows.frame-push (length s.texts.items) s.head s.cells.running kept.running after.running cell running is_set);
        callers = same_callers;
        objects = kept.objects;
      }

    module _ (place count : ℕ) (running : after.running ≡ take (length s.cells.running - count) s.cells.running) where
      pub drops : count ≤ length v.machine.frame.operands →
          (seen_of (record s { cells = after; head = rows.at_head s.head place })).machine
          ≡ at_place v.machine place (below count v.machine.frame.operands)
      drops le =
          rows.drops s.texts.items s.head (reverse s.heads.items) s.cells.running s.cells.callers s.heap.items v view_is kept.running.within
          place after.running after.callers count (omega (arith, le, depth_is)) running callers

      pub dropped-kept : count ≤ length v.machine.frame.operands → after.spare ≡ s.cells.spare + count →
          IsKept (record s { cells = after; head = rows.at_head s.head place })
      dropped-kept le spare =
          let enough : s.head.locals ≤ length s.cells.running - count = omega (arith, le, depth_is, kept.running.within) in record {
            room = omega (
              arith,
              kept.room,
              spare,
              le,
              depth_is,
              ap length running,
              length-take (length s.cells.running - count) s.cells.running,
            );
            running = rows.placed (length s.texts.items) place s.head after.running
                (rows.frame-take (length s.texts.items) s.head s.cells.running kept.running after.running (length s.cells.running - count)
                (omega arith) enough running);
            callers = same_callers;
            objects = kept.objects;
          }

    -- a value in the place of so many
    module _ (mid : Frames Cell) (place count : ℕ) (cell : Cell) (le : count ≤ length v.machine.frame.operands)
        (left : mid.running ≡ take (length s.cells.running - count) s.cells.running)
        (running : after.running ≡ mid.running ++ cell ∷ []) where
      pub puts : (seen_of (record s { cells = after; head = rows.at_head s.head place })).machine
          ≡ at_place v.machine place (below count v.machine.frame.operands ++ value_in v.texts cell ∷ [])
      puts =
          rows.pushes s.texts.items (rows.at_head s.head place) (reverse s.heads.items) mid.running s.cells.callers s.heap.items
          (record v { machine = at_place v.machine place (below count v.machine.frame.operands) })
          (ap (λ m. let t : Seen = record { machine = m; texts = s.texts.items } in t)
          (rows.drops s.texts.items s.head
          (reverse s.heads.items) s.cells.running s.cells.callers s.heap.items v view_is kept.running.within
          place mid.running s.cells.callers count (omega (arith, le, depth_is)) left refl)
          ∙ ap (λ t. record v { machine = at_place v.machine place (below count v.machine.frame.operands); texts = t }) (sym texts_is))
          (omega (arith, le, depth_is, kept.running.within, ap length left, length-take (length s.cells.running - count) s.cells.running))
          place after.running after.callers cell running callers

      pub put-kept : 0 < count → after.spare + 1 ≡ mid.spare → mid.spare ≡ s.cells.spare + count → IsSet (length s.texts.items) cell →
          IsKept (record s { cells = after; head = rows.at_head s.head place })
      put-kept some less more is_set =
          let enough : s.head.locals ≤ length s.cells.running - count = omega (arith, le, depth_is, kept.running.within) in
          let frame : IsFrame (length s.texts.items) s.head mid.running =
          rows.frame-take (length s.texts.items) s.head s.cells.running kept.running mid.running (length s.cells.running - count)
          (omega arith) enough left in
          record {
            room = omega (
              arith,
              kept.room,
              less,
              more,
              le,
              depth_is,
              ap length running,
              length-append mid.running (cell ∷ []),
              ap length left,
              length-take (length s.cells.running - count) s.cells.running,
            );
            running = rows.placed (length s.texts.items) place s.head after.running
                (rows.frame-push (length s.texts.items) s.head mid.running frame after.running cell running is_set);
            callers = same_callers;
            objects = kept.objects;
          }

    module _ (local : ℕ) (cell : Cell) (running : after.running ≡ set s.cells.running local cell)
        (is_set : IsSet (length s.texts.items) cell)
        (within : local < s.head.locals) where
      pub sets : (seen_of (record s { cells = after })).machine ≡ with_local v.machine local (value_in v.texts cell)
      sets =
          rows.sets s.texts.items s.head (reverse s.heads.items) s.cells.running s.cells.callers s.heap.items v view_is kept.running.within
          after.running after.callers local cell within is_set running callers

      pub set-kept : after.spare ≡ s.cells.spare → IsKept (record s { cells = after })
      set-kept spare = record {
        room = omega (arith, kept.room, spare, ap length running, length-set s.cells.running local cell);
        running = rows.frame-set (length s.texts.items) s.head s.cells.running kept.running after.running local cell within is_set running;
        callers = same_callers;
        objects = kept.objects;
      }
