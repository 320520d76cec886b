-- Operands by how far they stand from the top.
use Rattle.std.proofs.Common.{◌≡◌, ◌+◌, ◌-◌, ◌<◌, List, [], ◌∷◌, ◌++◌, length, take, Some, None, sym, ap, ◌∙◌, arith, append_assoc}
use Rattle.std.proofs.lemmas.List.{take_all, take_more}
use Rattle.std.proofs.lemmas.Option.{slice_get_within, get_or_from_slice_get}
use Rattle.vm_model.specs.declared.value.Value.{Value}
use Rattle.vm_model.specs.Messages.{Messages}
use Rattle.vm_model.specs.Machine.{Machine, Went}
use Rattle.vm_model.specs.Step.{at_place, next, goes}
use Rattle.vm_model.specs.Tests.{below}
use Rattle.vm_session.specs.inner.Tops.{at_top}
use Rattle.vm_step.specs.inner.Acts.{doubled_by, swapped_by}

-- the operand on top, and those below it
pub last_is : (vs : List Value) (v : Value) → at_top vs 0 ≡ Some v → below 1 vs ++ v ∷ [] ≡ vs
last_is vs v e =
    let within : length vs - 1 < length vs = slice_get_within vs (length vs - 1) v e in
    let count : length vs - 1 + 1 ≡ length vs = omega arith in
    ap (λ x. below 1 vs ++ x ∷ []) (sym (get_or_from_slice_get vs (length vs - 1) v v e))
    ∙ sym (take_more vs (length vs - 1) v within)
    ∙ ap (λ k. take k vs) count
    ∙ take_all (length vs) vs (omega arith)

pub doubles : (q : Messages) (m new : Machine) (vs : List Value) (v w : Value) → at_top vs 0 ≡ Some v → w ≡ v →
    new ≡ at_place m (m.frame.place + 1) (vs ++ w ∷ []) → doubled_by q m (below 1 vs) (at_top vs 0) ≡ Went new q None
doubles q m new vs v w e same h =
    ap (doubled_by q m (below 1 vs)) e
    ∙ ap (λ l. goes q (next m l)) (sym (append_assoc (below 1 vs) (v ∷ []) (v ∷ [])) ∙ ap (λ l. l ++ v ∷ []) (last_is vs v e))
    ∙ ap (λ x. goes q (next m (vs ++ x ∷ []))) (sym same)
    ∙ ap (λ n. Went n q None) (sym h)

-- the two operands on top, exchanged
pub swaps : (q : Messages) (m new : Machine) (vs : List Value) (v w : Value) → at_top vs 1 ≡ Some v → at_top vs 0 ≡ Some w →
    new ≡ at_place m (m.frame.place + 1) ((below 2 vs ++ w ∷ []) ++ v ∷ []) →
    swapped_by q m (below 2 vs) (at_top vs 1) (at_top vs 0) ≡ Went new q None
swaps q m new vs v w lower upper h =
    ap (λ o. swapped_by q m (below 2 vs) o (at_top vs 0)) lower
    ∙ ap (swapped_by q m (below 2 vs) (Some v)) upper
    ∙ ap (λ l. goes q (next m l)) (sym (append_assoc (below 2 vs) (w ∷ []) (v ∷ [])))
    ∙ ap (λ n. Went n q None) (sym h)
