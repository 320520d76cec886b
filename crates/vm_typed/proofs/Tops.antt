-- The operands on top, by how far they stand from it.
use Rattle.std.proofs.Common.{◌≡◌, ℕ, ◌+◌, ◌-◌, ◌<◌, ◌≤◌, List, [], ◌∷◌, ◌++◌, length, take, drop, get_or, Some, sym, ap, ◌∙◌, arith}
use Rattle.std.proofs.Common.{append_assoc}
use Rattle.std.proofs.lemmas.List.{take_all, take_more, drop_all, drop_more}
use Rattle.std.proofs.lemmas.Option.{slice_get-get_or, slice_get_within, get_or_from_slice_get}
use Rattle.vm_model.specs.declared.value.Value.{Value}
use Rattle.vm_model.specs.Tests.{below, on_top}
use Rattle.vm_session.specs.inner.Tops.{at_top}

-- an operand that is there
pub record There (vs : List Value) (k : ℕ) : Type 0 where
  pub value : Value
  pub is : at_top vs k ≡ Some value

pub there : (vs : List Value) (k : ℕ) → k < length vs → There vs k
there [] k h = absurd (omega arith)
there (d ∷ ys) k h =
    record {
      value = get_or (d ∷ ys) (length (d ∷ ys) - (k + 1)) d;
      is = slice_get-get_or (d ∷ ys) (length (d ∷ ys) - (k + 1)) d (omega arith);
    }

pub on_top_next : (vs : List Value) (k : ℕ) (v : Value) → at_top vs k ≡ Some v → k < length vs → on_top (k + 1) vs ≡ v ∷ on_top k vs
on_top_next vs k v e h =
    let place : length vs - (k + 1) < length vs = omega arith in
    let up : length vs - (k + 1) + 1 ≡ length vs - k = omega arith in
    drop_more vs (length vs - (k + 1)) v place
    ∙ ap (λ x. x ∷ drop (length vs - (k + 1) + 1) vs) (get_or_from_slice_get vs (length vs - (k + 1)) v v e)
    ∙ ap (λ i. v ∷ drop i vs) up

pub below_none : (vs : List Value) → below 0 vs ≡ vs
below_none vs = take_all (length vs - 0) vs (omega arith)

pub top_none : (vs : List Value) → on_top 0 vs ≡ []
top_none vs = drop_all (length vs - 0) vs (omega arith)

pub top_one : (vs : List Value) (v : Value) → 1 ≤ length vs → at_top vs 0 ≡ Some v → on_top 1 vs ≡ v ∷ []
top_one vs v some e = on_top_next vs 0 v e some ∙ ap (λ l. v ∷ l) (top_none vs)

pub top_two : (vs : List Value) (v w : Value) → 2 ≤ length vs → at_top vs 1 ≡ Some v → at_top vs 0 ≡ Some w → on_top 2 vs ≡ v ∷ w ∷ []
top_two vs v w some e f = on_top_next vs 1 v e (omega arith) ∙ ap (λ l. v ∷ l) (top_one vs w (omega arith) f)

-- the operand on top, and those below it
pub last_is : (vs : List Value) (v : Value) → at_top vs 0 ≡ Some v → below 1 vs ++ v ∷ [] ≡ vs
last_is vs v e =
    let within : length vs - 1 < length vs = slice_get_within vs (length vs - 1) v e in
    let count : length vs - 1 + 1 ≡ length vs = omega arith in
    ap (λ x. below 1 vs ++ x ∷ []) (sym (get_or_from_slice_get vs (length vs - 1) v v e))
    ∙ sym (take_more vs (length vs - 1) v within)
    ∙ ap (λ k. take k vs) count
    ∙ take_all (length vs) vs (omega arith)

pub doubled_is : (vs : List Value) (v : Value) → at_top vs 0 ≡ Some v → below 1 vs ++ v ∷ v ∷ [] ≡ vs ++ v ∷ []
doubled_is vs v e = sym (append_assoc (below 1 vs) (v ∷ []) (v ∷ [])) ∙ ap (λ l. l ++ v ∷ []) (last_is vs v e)
