-- The operands that are taken, from one on.
use Rattle.std.proofs.Common.{◌≡◌, ℕ, zero, suc, ◌+◌, ◌-◌, ◌<◌, ◌≤◌, Bool, true, false, ◌||◌, List, [], ◌∷◌, length, drop, get_or}
use Rattle.std.proofs.Common.{slice_get, Option, Some, refl, sym, ap, ◌∙◌, arith}
use Rattle.std.proofs.lemmas.List.{drop_more, drop_all}
use Rattle.std.proofs.lemmas.Option.{slice_get_within, get_or_from_slice_get}
use Rattle.vm_session.specs.inner.Tops.{at_top}
use Rattle.mg_text.specs.declared.event.BadKind.{BadKind}
use Rattle.vm_model.specs.Program.{Program}
use Rattle.vm_model.specs.Machine.{Object, Machine}
use Rattle.std.proofs.lemmas.Bool.Decides.{nat_tests}
use Rattle.std.proofs.Common.{nat_lt}
use Rattle.vm_step.specs.inner.Judged.{judged}
use Rattle.vm_model.specs.Tests as model
use Rattle.vm_model.specs.declared.value.Value.{Value}
use Rattle.vm_step.specs.declared.needs.Want.{Want}
use Rattle.vm_step.specs.Needing.{want_of, wants_of}

or_assoc : (a b c : Bool) → ((a || b) || c) ≡ (a || (b || c))
or_assoc true b c = refl
or_assoc false b c = refl

or_none : (a : Bool) → (a || false) ≡ a
or_none true = refl
or_none false = refl

module _ (p : Program) (heap : List Object) (test : Option BadKind → Bool) where
  some_more : (ws : List Want) (cs : List Value) (at : ℕ) (d : Want) (c : Value) → at < length ws → slice_get cs at ≡ Some c →
      model.some_of test (model.misfits p heap (wants_of (drop at ws)) (drop at cs))
      ≡ (test (model.misfit p heap (want_of (get_or ws at d)) c) || model.some_of test
      (model.misfits p heap (wants_of (drop (at + 1) ws)) (drop (at + 1) cs)))
  some_more ws cs at d c h f =
      ap (λ l. model.some_of test (model.misfits p heap (wants_of l) (drop at cs))) (drop_more ws at d h)
      ∙ ap (λ l. model.some_of test (model.misfits p heap (wants_of (get_or ws at d ∷ drop (at + 1) ws)) l))
      (drop_more cs at c (slice_get_within cs at c f) ∙ ap (λ x. x ∷ drop (at + 1) cs) (get_or_from_slice_get cs at c c f))

  -- one more operand is looked at
  pub found_more : (ws : List Want) (cs : List Value) (at : ℕ) (d : Want) (c : Value) (before after whole : Bool) → at < length ws →
      slice_get cs at ≡ Some c → after ≡ (before || test (model.misfit p heap (want_of (get_or ws at d)) c)) →
      (before || model.some_of test (model.misfits p heap (wants_of (drop at ws)) (drop at cs))) ≡ whole →
      (after || model.some_of test (model.misfits p heap (wants_of (drop (at + 1) ws)) (drop (at + 1) cs))) ≡ whole
  found_more ws cs at d c before after whole h f a i =
      ap (λ b. b || model.some_of test (model.misfits p heap (wants_of (drop (at + 1) ws)) (drop (at + 1) cs))) a
      ∙ or_assoc before (test (model.misfit p heap (want_of (get_or ws at d)) c))
      (model.some_of test (model.misfits p heap (wants_of (drop (at + 1) ws)) (drop (at + 1) cs)))
      ∙ ap (λ b. before || b) (sym (some_more ws cs at d c h f)) ∙ i

  -- all are
  pub found_all : (ws : List Want) (cs : List Value) (at : ℕ) (before whole : Bool) → length ws ≤ at →
      (before || model.some_of test (model.misfits p heap (wants_of (drop at ws)) (drop at cs))) ≡ whole → before ≡ whole
  found_all ws cs at before whole h i =
      sym (ap (λ l. before || model.some_of test (model.misfits p heap (wants_of l) (drop at cs))) (drop_all at ws h) ∙
      or_none before) ∙ i

-- the operand so far from the top stands so far from the first that is taken
pub taken_at : (vs : List Value) (n at : ℕ) → at < n → n ≤ length vs → slice_get (model.on_top n vs) at ≡ at_top vs (n - 1 - at)
taken_at vs n at lt le =
    let there : length vs - n + at ≡ length vs - (n - 1 - at + 1) = omega (arith, lt, le) in
    slice_get-drop (length vs - n) at vs ∙ ap (slice_get vs) there
  where
    slice_get-drop : (k i : ℕ) (vs : List Value) → slice_get (drop k vs) i ≡ slice_get vs (k + i)
    slice_get-drop zero i vs = ap (slice_get vs) (omega arith)
    slice_get-drop (suc k) i [] = refl
    slice_get-drop (suc k) i (v ∷ vs) = slice_get-drop k i vs ∙ ap (slice_get (v ∷ vs)) {x = suc (k + i)} (omega arith)

enough : (a b : ℕ) → b ≤ a → nat_lt a b ≡ false
enough a b h = grind (arith, nat_tests)

-- what is wrong where there are operands enough
pub wrong_is : (p : Program) (n : model.Needs) (m : Machine) (kind member : Bool) → length n.takes ≤ length m.frame.operands →
    kind ≡ model.some_of model.is_kind (model.misfit_read n.reads m.frame.locals ∷ model.misfits p m.heap n.takes
    (model.on_top (length n.takes) m.frame.operands)) →
    member ≡ model.some_of model.is_member (model.misfit_read n.reads m.frame.locals ∷ model.misfits p m.heap n.takes
    (model.on_top (length n.takes) m.frame.operands)) →
    judged n kind member ≡ model.wrong p n m
wrong_is p n m kind member h k e =
    ap (λ b. judged n b member) k ∙ ap (judged n (model.some_of model.is_kind
    (model.misfit_read n.reads m.frame.locals ∷ model.misfits p m.heap n.takes (model.on_top (length n.takes) m.frame.operands)))) e
    ∙ sym (rw (enough (length m.frame.operands) (length n.takes) h) refl)
