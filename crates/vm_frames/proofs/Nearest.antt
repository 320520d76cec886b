-- The frame that waits, by what stands last.
use Rattle.std.proofs.Common.{◌≡◌, ℕ, zero, suc, ◌-◌, ◌<◌, ◌≤◌, List, [], ◌∷◌, ◌++◌, length, take, get_or, Bool, true, false, Some, None}
use Rattle.std.proofs.Common.{refl, sym, ap, ◌∙◌, subst, arith}
use Rattle.std.proofs.lemmas.Option.{none-some, same_Some, slice_get-get_or, slice_get_within}
use Rattle.std.specs.Prelude.{slice_get}
use Rattle.std.specs.Bool.{OnTrue, OnFalse}
use Rattle.std.specs.Option.{option_map}
use Rattle.vm_frames.specs.declared.cell.Cell.{Cell}
use Rattle.vm_frames.specs.declared.cell.Head.{Head}
use Rattle.vm_frames.specs.declared.state.State.TheInside.{Inside}
use Rattle.vm_frames.specs.Seen.{Seen}
use Rattle.vm_frames.specs.View.{seen_of}
use Rattle.vm_frames.specs.Kept.{IsKept}
use Rattle.vm_frames.specs.Frames.{IsNearest}
use Rattle.vm_frames.proofs.Entering.{has_below, frames_below, is_nearest}

-- Lists.

pub no_items : {X : Type 0} (xs : List X) → length xs ≡ 0 → xs ≡ []
no_items [] e = refl
no_items (x ∷ xs) e = absurd (omega (arith, e))

pub none_last : {X : Type 0} (xs : List X) → slice_get xs (length xs - 1) ≡ None → xs ≡ []
none_last [] e = refl
none_last (x ∷ xs) e =
    absurd (none-some (get_or (x ∷ xs) (length (x ∷ xs) - 1) x) (sym e ∙ slice_get-get_or (x ∷ xs) (length (x ∷ xs) - 1) x (omega arith)))

ends_in : {X : Type 0} (xs : List X) (n : ℕ) (x : X) → length xs ≡ suc n → slice_get xs n ≡ Some x → xs ≡ take n xs ++ x ∷ []
ends_in [] n x long e = absurd (omega (arith, long))
ends_in (y ∷ []) zero x long e = ap (λ v. v ∷ []) (same_Some y x e)
ends_in (y ∷ z ∷ xs) zero x long e = absurd (omega (arith, long))
ends_in (y ∷ xs) (suc n) x long e = ap (λ l. y ∷ l) (ends_in xs n x (omega (arith, long)) e)

pub some_last : {X : Type 0} (xs : List X) (x : X) → slice_get xs (length xs - 1) ≡ Some x → xs ≡ take (length xs - 1) xs ++ x ∷ []
some_last xs x e =
    let within : length xs - 1 < length xs = slice_get_within xs (length xs - 1) x e in
    ends_in xs (length xs - 1) x (omega (arith, within)) e

no_first : (rows : List (List Cell)) → None ≡ option_map length (slice_get rows 0) → rows ≡ []
no_first [] e = refl
no_first (row ∷ rows) e = absurd (none-some (length row) e)

first_in : (rows : List (List Cell)) (depth : ℕ) → Some depth ≡ option_map length (slice_get rows 0) →
    (row : List Cell) × (left : List (List Cell)) × (rows ≡ row ∷ left) × (length row ≡ depth)
first_in [] depth e = absurd (none-some depth (sym e))
first_in (row ∷ rows) depth e = (row, rows, refl, sym (same_Some depth (length row) e))

-- the part of a test that holds
pub true_part : (b : Bool) (P Q : Type 0) → OnTrue b P → OnFalse b Q → (Q → ⊥) → P
true_part true P Q if_true if_false never = if_true
true_part false P Q if_true if_false never = absurd (never if_false)

module _ (s : Inside) (v : Seen) (view_is : seen_of s ≡ v) (kept : IsKept s) (head : Head)
    (last : slice_get s.heads.items (length s.heads.items - 1) ≡ Some head) where
  heads : s.heads.items ≡ take (length s.heads.items - 1) s.heads.items ++ head ∷ []
  heads = some_last s.heads.items head last

  pub must_lie : None ≡ option_map length (slice_get s.cells.callers 0) → ⊥
  must_lie e = has_below s v view_is kept head (take (length s.heads.items - 1) s.heads.items) heads (no_first s.cells.callers e)

  module _ (depth : ℕ) (first : Some depth ≡ option_map length (slice_get s.cells.callers 0)) where
    pub enough : head.locals ≤ depth
    enough =
        let lies = first_in s.cells.callers depth first in
        let frame = frames_below s v view_is kept head (take (length s.heads.items - 1) s.heads.items) heads
        (record { running = lies.0; callers = lies.1; spare = 0; room = 0 }) lies.2 in
        omega (arith, frame.0.within, lies.3)

    pub nearest : IsNearest head.class head.method (depth - head.locals) v.machine.callers
    nearest =
        let lies = first_in s.cells.callers depth first in
        subst (λ n. IsNearest head.class head.method (n - head.locals) v.machine.callers) lies.3
        (is_nearest s v view_is kept head (take (length s.heads.items - 1) s.heads.items) heads
        (record { running = lies.0; callers = lies.1; spare = 0; room = 0 }) lies.2)
