-- How often places can still be raised or taken, where one place changes, and where lists of operands are added.
use Rattle.std.proofs.Common.{◌≡◌, ℕ, zero, suc, ◌+◌, ◌*◌, ◌<◌, Bool, true, false, List, [], ◌∷◌, length, Option, Some, None, refl, ap, ap₂}
use Rattle.std.proofs.Common.{arith}
use Rattle.std.specs.Prelude.{slice_get, slice_set, if◌then◌else◌}
use Rattle.cls_kinds.specs.declared.kind.Kind.{Kind}
use Rattle.cls_kinds.specs.Numbers.{room_in}
use Rattle.cls_kinds.specs.Stacks.{Grows}
use Rattle.cls_kinds.proofs.Stacking.{grows_keeps}
use Rattle.cls_rows.specs.declared.frame.Frame.{Frame}
use Rattle.cls_search.specs.Kept.{frame_room, place_room, rooms}

module _ (most : ℕ) where
  -- one place changes
  pub rooms_set : (stacks : List (List Kind)) (os : List (Option Frame)) (ws : List Bool) (i : ℕ) (o p : Option Frame) (w v : Bool) →
      slice_get os i ≡ Some o → slice_get ws i ≡ Some w →
      rooms most stacks (slice_set os i p) (slice_set ws i v) + place_room most stacks o w ≡ rooms most stacks os ws + place_room most
      stacks p v
  rooms_set stacks [] ws i o p w v e f = absurd (cc e)
  rooms_set stacks (x ∷ os) [] i o p w v e f = absurd (cc f)
  rooms_set stacks (x ∷ os) (y ∷ ws) zero o p w v e f =
      let a : x ≡ o = cc e in let b : y ≡ w = cc f in
      let c : place_room most stacks x y ≡ place_room most stacks o w = ap₂ (place_room most stacks) a b in
      omega (arith, c)
  rooms_set stacks (x ∷ os) (y ∷ ws) (suc i) o p w v e f =
      let h = rooms_set stacks os ws i o p w v e f in omega (arith, h)

  frame_grown : (old new : List (List Kind)) → Grows old new → (o : Option Frame) → ((g : Frame) → o ≡ Some g → g.operands < length old) →
      frame_room most new o ≡ frame_room most old o
  frame_grown old new grows None h = refl
  frame_grown old new grows (Some g) h = ap (λ ks. room_in g.locals.value.items + room_in ks)
      (grows_keeps old new g.operands grows (h g refl))

  -- lists are added
  pub rooms_grown : (old new : List (List Kind)) → Grows old new → (os : List (Option Frame)) (ws : List Bool) →
      ((i : ℕ) (g : Frame) → slice_get os i ≡ Some (Some g) → g.operands < length old) → rooms most new os ws ≡ rooms most old os ws
  rooms_grown old new grows [] ws h = refl
  rooms_grown old new grows (o ∷ os) [] h = refl
  rooms_grown old new grows (o ∷ os) (w ∷ ws) h =
      ap₂ (λ a b. (2 * a + (if w then 1 else 0)) + b) (frame_grown old new grows o (λ g e. h 0 g (ap Some e)))
      (rooms_grown old new grows os ws (λ i g e. h (suc i) g e))

  -- a place is taken from those that wait
  pub rooms_taken : (stacks : List (List Kind)) (os : List (Option Frame)) (ws : List Bool) (i : ℕ) → i < length os →
      slice_get ws i ≡ Some true →
      rooms most stacks os (slice_set ws i false) + 1 ≡ rooms most stacks os ws
  rooms_taken stacks [] ws i h e = absurd (omega (arith, h))
  rooms_taken stacks (o ∷ os) [] i h e = absurd (cc e)
  rooms_taken stacks (o ∷ os) (w ∷ ws) zero h e =
      let is : w ≡ true = cc e in
      let c : place_room most stacks o w ≡ place_room most stacks o true = ap (place_room most stacks o) is in
      omega (arith, c)
  rooms_taken stacks (o ∷ os) (w ∷ ws) (suc i) h e = let r = rooms_taken stacks os ws i (omega (arith, h)) e in omega (arith, r)
