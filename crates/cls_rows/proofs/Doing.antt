-- What doubling, swapping, loading and storing come to, by how a frame goes on.
use Rattle.std.proofs.Common.{◌≡◌, ℕ, ◌<◌, ◌≤◌, true, false, List, [], ◌∷◌, ◌++◌, length, Option, Some, None, refl, sym, ap, subst, ◌∙◌}
use Rattle.std.proofs.Common.{arith}
use Rattle.std.specs.Prelude.{Result, Ok, Err, IfOk, OnOk, MatchOption, slice_get, slice_set, option_to_list, nat_eq}
use Rattle.std.specs.List.{HoldsAt}
use Rattle.std.proofs.lemmas.Bool.{true≢false, eqb-true}
use Rattle.std.proofs.lemmas.List.{append-nil, append_assoc, length-append, length_push, same_from_push, set-get_or}
use Rattle.mg_text.specs.declared.memory.Memory.{Memory}
use Rattle.vm_actions.specs.declared.action.Sort.{Sort}
use Rattle.cls_kinds.specs.declared.kind.Kind.{Kind}
use Rattle.cls_kinds.specs.Stacks.{stack_at, Grows}
use Rattle.cls_kinds.proofs.Stacking.{grows_on}
use Rattle.cls_rows.specs.declared.frame.Frame.{Frame}
use Rattle.cls_rows.specs.declared.want.Want.{Want}
use Rattle.cls_rows.specs.Wants.{sorted, IsTaken, CanTake}
use Rattle.cls_rows.specs.Settling.{Settles, CanSettle, GoesOn}
use Rattle.cls_rows.specs.Changes.{locals_of, CanDouble, Doubles, CanSwap, Swaps, CanRead, CanLoad, Loads, CanStore, Stores}
use Rattle.cls_rows.proofs.Coming.{went_settles}

pub no_list : (ks : List Kind) (k : Kind) (xs : List Kind) → xs ≡ [] → xs ≡ ks ++ k ∷ [] → ⊥
no_list ks k xs e f = let n = ap length (sym e ∙ f) in let l = length_push ks k in omega (arith, n, l)

-- what is left of operands has room where these have
pub taken_fits : (ws : List Want) (ks below : List Kind) (limit : ℕ) → IsTaken ws ks below → length ks ≤ limit → length below ≤ limit
taken_fits ws ks below limit t h = let s = ap length t.split in let l = length-append below t.taken in omega (arith, s, l, h)

pub went_settle : (old new : List (List Kind)) (limit : ℕ) (ws : List Want) (given : List Kind) (f : Frame) (below : ℕ)
    (r : Result (Option Frame) Memory) →
    IsTaken ws (stack_at old f.operands) (stack_at old below) →
    IfOk r (λ o. MatchOption o (length (stack_at old below ++ given) ≤ limit → ⊥) (λ g. GoesOn old new limit below given f g)) →
    IfOk r (λ o. MatchOption o (CanSettle old limit ws given f → ⊥) (λ g. Settles old new limit ws given f g))
went_settle old new limit ws given f below (Ok o) t h = went_settles old new limit ws given f below o t h
went_settle old new limit ws given f below (Err e) t h = tt

pub not_settled : (old : List (List Kind)) (limit : ℕ) (ws : List Want) (given : List Kind) (f : Frame) →
    (CanTake ws (stack_at old f.operands) → ⊥) →
    CanSettle old limit ws given f → ⊥
not_settled old limit ws given f never can = never (can.0, can.1.0)

-- Doubling.

pub goes_doubles : (old new : List (List Kind)) (limit : ℕ) (f : Frame) (below : List Kind) (k : Kind) (r : Result (Option Frame) Memory) →
    stack_at old f.operands ≡ below ++ k ∷ [] →
    IfOk r (λ o. MatchOption o (length (stack_at old f.operands ++ k ∷ []) ≤ limit → ⊥) (λ g. GoesOn old new limit f.operands (k ∷ []) f g))
    →
    IfOk r (λ o. MatchOption o (CanDouble old limit f → ⊥) (λ g. Doubles old new limit f g))
goes_doubles old new limit f below k (Err e) split h = tt
goes_doubles old new limit f below k (Ok None) split h = λ can.
    let a = ap length can.split in
    let b = length_push can.below can.kind in
    let c = length-append can.below (can.kind ∷ can.kind ∷ []) in
    let d = length_push (stack_at old f.operands) k in
    let r = can.room in
    h (omega (arith, a, b, c, d, r))
goes_doubles old new limit f below k (Ok (Some g)) split h =
    let two : stack_at old f.operands ++ k ∷ [] ≡ below ++ k ∷ k ∷ [] = ap (λ ks. ks ++ k ∷ []) split ∙ append_assoc below (k ∷ [])
    (k ∷ []) in
    record {
      can = record {
        below = below;
        kind = k;
        split = split;
        room = subst (λ ks. length ks ≤ limit) two h.room;
      };
      left = h.left ∙ two;
      locals = h.locals;
      there = h.there;
    }

pub no_double : (old : List (List Kind)) (limit : ℕ) (f : Frame) → stack_at old f.operands ≡ [] → CanDouble old limit f → ⊥
no_double old limit f e can = no_list can.below can.kind (stack_at old f.operands) e can.split

-- Swapping.

-- lists that are there stay there, by one step and another
pub grows_then : {A : Type 0} (r : Result A Memory) (old mid new : List (List Kind)) → Grows old mid → OnOk r (Grows mid new) →
    OnOk r (Grows old new)
grows_then (Ok a) old mid new g h = grows_on old mid new g h
grows_then (Err e) old mid new g h = tt

pub goes_swaps : (old mid new : List (List Kind)) (limit : ℕ) (f : Frame) (below upper_below : List Kind) (upper lower : Kind) (low : ℕ)
    (r : Result (Option Frame) Memory) →
    stack_at old f.operands ≡ upper_below ++ upper ∷ [] → upper_below ≡ below ++ lower ∷ [] → stack_at mid low ≡ below ++ upper ∷ [] →
    length (stack_at old f.operands) ≤ limit →
    IfOk r (λ o. MatchOption o (length (stack_at mid low ++ lower ∷ []) ≤ limit → ⊥) (λ g. GoesOn mid new limit low (lower ∷ []) f g)) →
    IfOk r (λ o. MatchOption o (CanSwap old f → ⊥) (λ g. Swaps old new f g))
goes_swaps old mid new limit f below upper_below upper lower low (Err e) first second made fits h = tt
goes_swaps old mid new limit f below upper_below upper lower low (Ok None) first second made fits h = λ can.
    let a = ap length first in
    let b = length_push upper_below upper in
    let c = ap length second in
    let d = length_push below lower in
    let e = ap length made in
    let g = length_push below upper in
    let i = length_push (stack_at mid low) lower in
    h (omega (arith, a, b, c, d, e, g, i, fits))
goes_swaps old mid new limit f below upper_below upper lower low (Ok (Some g)) first second made fits h = record {
  can = record {
    below = below;
    lower = lower;
    upper = upper;
    split = first ∙ ap (λ ks. ks ++ upper ∷ []) second ∙ append_assoc below (lower ∷ []) (upper ∷ []);
  };
  left = h.left ∙ ap (λ ks. ks ++ lower ∷ []) made ∙ append_assoc below (upper ∷ []) (lower ∷ []);
  locals = h.locals;
  there = h.there;
}

pub no_swap : (old : List (List Kind)) (f : Frame) → stack_at old f.operands ≡ [] → CanSwap old f → ⊥
no_swap old f e can = let n = ap length (sym e ∙ can.split) in let l = length-append can.below (can.lower ∷ can.upper ∷ []) in omega
    (arith, n, l)

pub one_swap : (old : List (List Kind)) (f : Frame) (rest : List Kind) (k : Kind) → stack_at old f.operands ≡ rest ++ k ∷ [] → rest ≡ [] →
    CanSwap old f → ⊥
one_swap old f rest k e none can =
    let a = ap length (sym e ∙ can.split) in
    let b = length_push rest k in
    let c = length-append can.below (can.lower ∷ can.upper ∷ []) in
    let d = ap length none in
    omega (arith, a, b, c, d)

-- a list with another kind on top has room where the list has
pub lower_fits : (ks upper_below below made : List Kind) (upper lower : Kind) (limit : ℕ) → ks ≡ upper_below ++ upper ∷ [] →
    upper_below ≡ below ++ lower ∷ [] →
    made ≡ below ++ upper ∷ [] → length ks ≤ limit → length made ≤ limit
lower_fits ks upper_below below made upper lower limit first second is fits =
    let a = ap length first in
    let b = length_push upper_below upper in
    let c = ap length second in
    let d = length_push below lower in
    let e = ap length is in
    let g = length_push below upper in
    omega (arith, a, b, c, d, e, g, fits)

-- Loading.

pub goes_loads : (old new : List (List Kind)) (limit : ℕ) (sort : Sort) (local : ℕ) (f : Frame) (k : Kind)
    (r : Result (Option Frame) Memory) →
    slice_get (locals_of f) local ≡ Some k → sorted sort k ≡ true →
    IfOk r (λ o. MatchOption o (length (stack_at old f.operands ++ k ∷ []) ≤ limit → ⊥) (λ g. GoesOn old new limit f.operands (k ∷ []) f g))
    →
    IfOk r (λ o. MatchOption o (CanLoad old limit sort local f → ⊥) (λ g. Loads old new limit sort local f g))
goes_loads old new limit sort local f k (Err e) held is h = tt
goes_loads old new limit sort local f k (Ok None) held is h = λ can.
    let a = length_push (stack_at old f.operands) k in
    let b = length_push (stack_at old f.operands) can.read.kind in
    let r = can.room in
    h (omega (arith, a, b, r))
goes_loads old new limit sort local f k (Ok (Some g)) held is h = record {
  can = record { read = record { kind = k; held = held; is = is }; room = h.room };
  left = h.left;
  locals = h.locals;
  there = h.there;
}

pub no_load : (old : List (List Kind)) (limit : ℕ) (sort : Sort) (local : ℕ) (f : Frame) (row : List Kind) → row ≡ locals_of f →
    ((k : Kind) → slice_get row local ≡ Some k → sorted sort k ≡ true → ⊥) → CanLoad old limit sort local f → ⊥
no_load old limit sort local f row e never can = never can.read.kind (ap (λ ks. slice_get ks local) e ∙ can.read.held) can.read.is

pub is_read : (sort : Sort) (local : ℕ) (f : Frame) (row : List Kind) (k : Kind) → row ≡ locals_of f → slice_get row local ≡ Some k →
    sorted sort k ≡ true →
    CanRead sort local f
is_read sort local f row k e held is = record { kind = k; held = sym (ap (λ ks. slice_get ks local) e) ∙ held; is = is }

-- Storing.

pub no_store : (old : List (List Kind)) (sort : Sort) (local : ℕ) (f : Frame) → stack_at old f.operands ≡ [] → CanStore old sort local f → ⊥
no_store old sort local f e can = no_list can.below can.kind (stack_at old f.operands) e can.split

pub wrong_store : (old : List (List Kind)) (sort : Sort) (local : ℕ) (f : Frame) (below : List Kind) (k : Kind) → stack_at old f.operands
    ≡ below ++ k ∷ [] →
    sorted sort k ≡ false → CanStore old sort local f → ⊥
wrong_store old sort local f below k e never can =
    let same : k ≡ can.kind = (same_from_push below can.below k can.kind (sym e ∙ can.split)).1 in
    true≢false (sym can.is ∙ ap (sorted sort) (sym same) ∙ never)

pub past_store : (old : List (List Kind)) (sort : Sort) (local : ℕ) (f : Frame) → length (locals_of f) ≤ local → CanStore old sort local f →
    ⊥
past_store old sort local f h can = let w = can.within in omega (arith, h, w)

pub stores : (old : List (List Kind)) (sort : Sort) (local : ℕ) (f g : Frame) (k : Kind) → stack_at old f.operands ≡ stack_at old g.operands
    ++ k ∷ [] →
    sorted sort k ≡ true → local < length (locals_of f) → locals_of g ≡ slice_set (locals_of f) local k → g.operands < length old →
    Stores old sort local f g
stores old sort local f g k e is within locals there = record {
  can = record { below = stack_at old g.operands; kind = k; split = e; is = is; within = within };
  left = refl;
  locals = locals;
  there = there;
}

-- Going on with what is given.

pub on_none : (stacks : List (List Kind)) (limit below : ℕ) (gives : Option Kind) (f g : Frame) → gives ≡ None → locals_of g ≡ locals_of f →
    g.operands ≡ below →
    below < length stacks → length (stack_at stacks below) ≤ limit → GoesOn stacks stacks limit below (option_to_list gives) f g
on_none stacks limit below gives f g e locals operands there fits = record {
  left = ap (stack_at stacks) operands ∙ sym same;
  locals = locals;
  room = subst (λ ks. length ks ≤ limit) (sym same) fits;
  there = (let o = operands in omega (arith, o, there));
}
  where
    same : stack_at stacks below ++ option_to_list gives ≡ stack_at stacks below
    same = ap (λ o. stack_at stacks below ++ option_to_list o) e ∙ append-nil (stack_at stacks below)

pub on_full : (old : List (List Kind)) (limit below : ℕ) (gives : Option Kind) (k : Kind) → gives ≡ Some k →
    limit ≤ length (stack_at old below) →
    length (stack_at old below ++ option_to_list gives) ≤ limit → ⊥
on_full old limit below gives k e full room =
    let l = length_push (stack_at old below) k in
    let s = ap (λ o. length (stack_at old below ++ option_to_list o)) e in
    omega (arith, l, s, full, room)

pub on_some : (old new : List (List Kind)) (limit below s : ℕ) (gives : Option Kind) (k : Kind) (f g : Frame) → gives ≡ Some k →
    locals_of g ≡ locals_of f → g.operands ≡ s →
    s < length new → length (stack_at old below) < limit → stack_at new s ≡ stack_at old below ++ k ∷ [] →
    GoesOn old new limit below (option_to_list gives) f g
on_some old new limit below s gives k f g e locals operands there few made = record {
  left = ap (stack_at new) operands ∙ made ∙ sym same;
  locals = locals;
  room = subst (λ ks. length ks ≤ limit) (sym same) (let l = length_push (stack_at old below) k in omega (arith, l, few));
  there = (let o = operands in omega (arith, o, there));
}
  where
    same : stack_at old below ++ option_to_list gives ≡ stack_at old below ++ k ∷ []
    same = ap (λ o. stack_at old below ++ option_to_list o) e

-- A local that is held already.

pub same_held : (xs : List Kind) (i : ℕ) (x k : Kind) → (i < length xs) × HoldsAt (λ y. x ≡ y) xs i → nat_eq x.0 k.0 ≡ true →
    slice_set xs i k ≡ xs
same_held xs i x k h t =
    let e : k ≡ x = sym (ap (λ n. record { 0 = n }) (eqb-true x.0 k.0 t)) in
    ap (slice_set xs i) (e ∙ h.1 k) ∙ set-get_or xs i k
