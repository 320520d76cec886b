-- What the frequent actions do where nothing is wrong with them.
use Rattle.std.proofs.Common.{◌≡◌, ℕ, ℤ, ◌+◌, ◌-◌, ◌<◌, ◌≤◌, Bool, true, false, List, [], ◌∷◌, ◌++◌, length, slice_get, Option, Some, None}
use Rattle.std.proofs.Common.{nat_lt, refl, sym, ap, ◌∙◌, arith, pos, ◌+ℤ◌}
use Rattle.std.specs.Prelude.{neg_ℤ, if◌then◌else◌}
use Rattle.std.proofs.lemmas.Option.{slice_get_within}
use Rattle.std.proofs.lemmas.Bool.Decides.{nat_tests}
use Rattle.mg_text.specs.declared.event.BadKind.{BadKind}
use Rattle.vm_model.specs.declared.value.Value.{Value}
use Rattle.vm_model.specs.declared.value.Value.TheVariants as values
use Rattle.vm_model.specs.Program.{Program}
use Rattle.vm_model.specs.Machine.{Machine, Went}
use Rattle.vm_model.specs.Arithmetic.{wrap, computed, compares, switched}
use Rattle.std.specs.Bool.{OnTrue, OnFalse}
use Rattle.vm_frames.specs.Seen.{held_in}
use Rattle.vm_model.specs.Actions.{Action, Sort, Number, Reference, Operation, Comparison, Push, Load, Store, Pop, Double, Compute, Negate}
use Rattle.vm_model.specs.Actions.{Increase, IfZero, IfBoth, IfNull, Go, Switch}
use Rattle.vm_model.specs.Tests as model
use Rattle.vm_model.specs.Tests.{Needs, needs, wrong_by, below, on_top, misfits, misfit_local, misfit_sort, some_of}
use Rattle.vm_model.specs.Tests.{is_kind, is_member, is_null}
use Rattle.vm_model.specs.Step.{next, at_place, with_local, pushed, computed_to, same_truth}
use Rattle.vm_step.specs.Alone.{SameMethod, Alone}
use Rattle.vm_session.specs.inner.Tops.{at_top, int_in, int_of_local}
use Rattle.vm_step.specs.inner.Acts.{stored_by, computes_by, negates_by, increased_by, on_zero_by, on_both_by, on_null_by}
use Rattle.vm_step.specs.inner.Acts.{switches_by}
use Rattle.vm_step.proofs.Acts.{by_one, by_two, There, there}
use Rattle.vm_step.proofs.Tops.{doubles}
use Rattle.vm_step.proofs.Whole.{push_is, load_is, store_is, pop_is, double_is, compute_is, negate_is, increase_is, if_zero_is, if_both_is}
use Rattle.vm_step.proofs.Whole.{if_null_is, go_is, switch_is}

not_below : (a b : ℕ) → b ≤ a → nat_lt a b ≡ false
not_below a b h = grind (arith, nat_tests)

pub nothing_wrong : (n : Needs) (m : Machine) (found : List (Option BadKind)) → length n.takes ≤ length m.frame.operands →
    some_of is_kind found ≡ false → n.locals ≤ n.of_locals → some_of is_member found ≡ false → n.returns ≡ true → n.operands ≤ n.max_stack →
    None ≡ wrong_by n m found
nothing_wrong n m found enough kinds locals members returns room =
    sym (rw (
      not_below (length m.frame.operands) (length n.takes) enough,
      kinds,
      not_below n.of_locals n.locals locals,
      members,
      returns,
      not_below n.max_stack n.operands room,
    ) refl)

int_is : (o : Option Value) (x : ℤ) → Some x ≡ int_in o → o ≡ Some (values.Int x)
int_is (Some (values.Int y)) x e = cc
int_is (Some (values.Text t)) x e = absurd (cc e)
int_is (Some values.Null) x e = absurd (cc e)
int_is (Some values.Out) x e = absurd (cc e)
int_is (Some (values.Object n)) x e = absurd (cc e)
int_is None x e = absurd (cc e)

pub local_int_is : (o : Option (Option Value)) (x : ℤ) → Some x ≡ int_of_local o → o ≡ Some (Some (values.Int x))
local_int_is (Some (Some (values.Int y))) x e = cc
local_int_is (Some (Some (values.Text t))) x e = absurd (cc e)
local_int_is (Some (Some values.Null)) x e = absurd (cc e)
local_int_is (Some (Some values.Out)) x e = absurd (cc e)
local_int_is (Some (Some (values.Object n))) x e = absurd (cc e)
local_int_is (Some None) x e = absurd (cc e)
local_int_is None x e = absurd (cc e)

one : Option Value → List Value
one (Some v) = v ∷ []
one None = []

two : Option Value → Option Value → List Value
two (Some v) (Some w) = v ∷ w ∷ []
two _ _ = []

pub top_one : (vs : List Value) (v : Value) → 1 ≤ length vs → at_top vs 0 ≡ Some v → on_top 1 vs ≡ v ∷ []
unfolding one
top_one vs v h e = by_one (λ l. l) one (λ w. refl) vs h ∙ ap one e

pub top_two : (vs : List Value) (v w : Value) → 2 ≤ length vs → at_top vs 1 ≡ Some v → at_top vs 0 ≡ Some w → on_top 2 vs ≡ v ∷ w ∷ []
unfolding two
top_two vs v w h e f = by_two (λ l. l) two (λ u t. refl) vs h ∙ ap (λ o. two o (at_top vs 0)) e ∙ ap (two (Some v)) f

module _ (max : ℕ) (m m' : Machine) where
  pub stays : {place : ℕ} {locals : List (Option Value)} {operands : List Value} →
      m' ≡ record m { frame = record m.frame { place = place; locals = locals; operands = operands } } → SameMethod m m'
  stays is = (ap (λ (n : Machine). n.frame.class) is, ap (λ (n : Machine). n.frame.method) is)

  pub push_alone : (v : Value) → length m.frame.operands + 1 ≤ max → m' ≡ next m (m.frame.operands ++ v ∷ []) → Alone max (Push v) m m' true
  push_alone v room is = (
    stays is,
    λ p most me q.
        push_is p q m me v (nothing_wrong (needs p m (Push v)) m (None ∷ []) (omega arith) refl (omega arith) refl refl (omega arith))
        ∙ ap (λ n. Went n q None) (sym is),
  )

  pub load_alone : (sort : Sort) (local : ℕ) (v : Value) → slice_get m.frame.locals local ≡ Some (Some v) → misfit_sort sort v ≡ None →
      length m.frame.operands + 1 ≤ max → m' ≡ next m (m.frame.operands ++ v ∷ []) → Alone max (Load sort local) m m' true
  load_alone sort local v holds fits room is = (
    stays is,
    λ p most me q.
        load_is p q m me sort local
        (nothing_wrong (needs p m (Load sort local)) m (misfit_local sort (slice_get m.frame.locals local) ∷ []) (omega arith)
        (ap (λ o. some_of is_kind (misfit_local sort o ∷ [])) holds ∙ ap (λ o. some_of is_kind (o ∷ [])) fits)
        (let w : local < length m.frame.locals = slice_get_within m.frame.locals local (Some v) holds in omega arith)
        (ap (λ o. some_of is_member (misfit_local sort o ∷ [])) holds ∙ ap (λ o. some_of is_member (o ∷ [])) fits) refl (omega arith))
        ∙ ap (pushed q m m.frame.operands) holds ∙ ap (λ n. Went n q None) (sym is),
  )

  pub increase_alone : (local : ℕ) (by : ℤ) (x : ℤ) → Some x ≡ int_of_local (slice_get m.frame.locals local) →
      length m.frame.operands ≤ max →
      m' ≡ next (with_local m local (values.Int (wrap (x +ℤ by)))) m.frame.operands → Alone max (Increase local by) m m' true
  increase_alone local by x int room is = (
    stays is,
    λ p most me q.
        let holds : slice_get m.frame.locals local ≡ Some (Some (values.Int x)) = local_int_is (slice_get m.frame.locals local) x int in
        increase_is p q m me local by
        (nothing_wrong (needs p m (Increase local by)) m (misfit_local Number (slice_get m.frame.locals local) ∷ []) (omega arith)
        (ap (λ o. some_of is_kind (misfit_local Number o ∷ [])) holds)
        (let w : local < length m.frame.locals = slice_get_within m.frame.locals local (Some (values.Int x)) holds in omega arith)
        (ap (λ o. some_of is_member (misfit_local Number o ∷ [])) holds) refl (omega arith))
        ∙ ap (increased_by q m m.frame.operands local by) (sym int) ∙ ap (λ n. Went n q None) (sym is),
  )

  pub go_alone : (target : ℕ) → length m.frame.operands ≤ max → m' ≡ at_place m target m.frame.operands → Alone max (Go target) m m' true
  go_alone target room is = (
    stays is,
    λ p most me q.
        go_is p q m me target (nothing_wrong (needs p m (Go target)) m (None ∷ []) (omega arith) refl (omega arith) refl refl (omega arith))
        ∙ ap (λ n. Went n q None) (sym is),
  )

  module _ (some : 1 ≤ length m.frame.operands) where
    pub store_alone : (sort : Sort) (local : ℕ) (v : Value) → at_top m.frame.operands 0 ≡ Some v → misfit_sort sort v ≡ None →
        local < length m.frame.locals → length m.frame.operands - 1 ≤ max → m' ≡ next (with_local m local v) (below 1 m.frame.operands) →
        Alone max (Store sort local) m m' true
    store_alone sort local v top fits within room is = (
      stays is,
      λ p most me q.
          store_is p q m me sort local
          (nothing_wrong (needs p m (Store sort local)) m
          (None ∷ misfits p m.heap (model.Sorted sort ∷ []) (on_top 1 m.frame.operands)) some
          (ap (λ l. some_of is_kind (None ∷ misfits p m.heap (model.Sorted sort ∷ []) l)) (top_one m.frame.operands v some top)
          ∙ ap (λ o. some_of is_kind (None ∷ o ∷ [])) fits)
          (omega arith)
          (ap (λ l. some_of is_member (None ∷ misfits p m.heap (model.Sorted sort ∷ []) l)) (top_one m.frame.operands v some top)
          ∙ ap (λ o. some_of is_member (None ∷ o ∷ [])) fits) refl (omega arith))
          ∙ ap (stored_by q m local (below 1 m.frame.operands)) top ∙ ap (λ n. Went n q None) (sym is),
    )

    pub pop_alone : length m.frame.operands - 1 ≤ max → m' ≡ next m (below 1 m.frame.operands) → Alone max Pop m m' true
    pop_alone room is = (
      stays is,
      λ p most me q.
          let t : There m.frame.operands 0 = there m.frame.operands 0 some in
          pop_is p q m me
          (nothing_wrong (needs p m Pop) m (None ∷ misfits p m.heap (model.Any ∷ []) (on_top 1 m.frame.operands)) some
          (ap (λ l. some_of is_kind (None ∷ misfits p m.heap (model.Any ∷ []) l)) (top_one m.frame.operands t.value some t.is))
          (omega arith)
          (ap (λ l. some_of is_member (None ∷ misfits p m.heap (model.Any ∷ []) l)) (top_one m.frame.operands t.value some t.is)) refl
          (omega arith))
          ∙ ap (λ n. Went n q None) (sym is),
    )

    pub double_alone : (v w : Value) → at_top m.frame.operands 0 ≡ Some v → w ≡ v → length m.frame.operands + 1 ≤ max →
        m' ≡ next m (m.frame.operands ++ w ∷ []) → Alone max Double m m' true
    double_alone v w top same room is = (
      stays is,
      λ p most me q.
          double_is p q m me
          (nothing_wrong (needs p m Double) m (None ∷ misfits p m.heap (model.Any ∷ []) (on_top 1 m.frame.operands)) some
          (ap (λ l. some_of is_kind (None ∷ misfits p m.heap (model.Any ∷ []) l)) (top_one m.frame.operands v some top))
          (omega arith)
          (ap (λ l. some_of is_member (None ∷ misfits p m.heap (model.Any ∷ []) l)) (top_one m.frame.operands v some top)) refl
          (omega arith))
          ∙ doubles q m m' m.frame.operands v w top same is,
    )

    module _ (x : ℤ) (int : Some x ≡ int_in (at_top m.frame.operands 0)) where
      found : (p : Program) (test : Option BadKind → Bool) → test None ≡ false →
          some_of test (None ∷ misfits p m.heap (model.number ∷ []) (on_top 1 m.frame.operands)) ≡ false
      found p test none =
          ap (λ l. some_of test (None ∷ misfits p m.heap (model.number ∷ []) l))
          (top_one m.frame.operands (values.Int x) some (int_is (at_top m.frame.operands 0) x int))
          ∙ (rw none refl)

      pub negate_alone : length m.frame.operands ≤ max → m' ≡ next m (below 1 m.frame.operands ++ values.Int (wrap (neg_ℤ x)) ∷ []) →
          Alone max Negate m m' true
      negate_alone room is = (
        stays is,
        λ p most me q.
            negate_is p q m me
            (nothing_wrong (needs p m Negate) m (None ∷ misfits p m.heap (model.number ∷ []) (on_top 1 m.frame.operands)) some
            (found p is_kind refl) (omega arith) (found p is_member refl) refl (omega arith))
            ∙ ap (negates_by q m (below 1 m.frame.operands)) (sym int) ∙ ap (λ n. Went n q None) (sym is),
      )

      pub if_zero_alone : (comparison : Comparison) (target place : ℕ) → length m.frame.operands - 1 ≤ max →
          place ≡ (if compares comparison x (pos 0) then target else m.frame.place + 1) → m' ≡ at_place m place (below 1 m.frame.operands) →
          Alone max (IfZero comparison target) m m' true
      if_zero_alone comparison target place room to is = (
        stays is,
        λ p most me q.
            if_zero_is p q m me comparison target
            (nothing_wrong (needs p m (IfZero comparison target)) m
            (None ∷ misfits p m.heap (model.number ∷ []) (on_top 1 m.frame.operands)) some
            (found p is_kind refl) (omega arith) (found p is_member refl) refl (omega arith))
            ∙ ap (on_zero_by q m comparison target (below 1 m.frame.operands)) (sym int)
            ∙ ap (λ k. Went (at_place m k (below 1 m.frame.operands)) q None) (sym to) ∙ ap (λ n. Went n q None) (sym is),
      )

      pub switch_alone : (default : ℕ) (low : ℤ) (targets : List ℕ) (place : ℕ) → length m.frame.operands - 1 ≤ max →
          place ≡ switched default low targets x → m' ≡ at_place m place (below 1 m.frame.operands) →
          Alone max (Switch default low targets) m m' true
      switch_alone default low targets place room to is = (
        stays is,
        λ p most me q.
            switch_is p q m me default low targets
            (nothing_wrong (needs p m (Switch default low targets)) m
            (None ∷ misfits p m.heap (model.number ∷ []) (on_top 1 m.frame.operands)) some
            (found p is_kind refl) (omega arith) (found p is_member refl) refl (omega arith))
            ∙ ap (switches_by q m default low targets (below 1 m.frame.operands)) (sym int)
            ∙ ap (λ k. Went (at_place m k (below 1 m.frame.operands)) q None) (sym to) ∙ ap (λ n. Went n q None) (sym is),
      )

    pub if_null_alone : (wanted : Bool) (target place : ℕ) (v : Value) → at_top m.frame.operands 0 ≡ Some v →
        misfit_sort Reference v ≡ None →
        length m.frame.operands - 1 ≤ max → place ≡ (if same_truth wanted (is_null v) then target else m.frame.place + 1) →
        m' ≡ at_place m place (below 1 m.frame.operands) → Alone max (IfNull wanted target) m m' true
    if_null_alone wanted target place v top fits room to is = (
      stays is,
      λ p most me q.
          if_null_is p q m me wanted target
          (nothing_wrong (needs p m (IfNull wanted target)) m
          (None ∷ misfits p m.heap (model.Sorted Reference ∷ []) (on_top 1 m.frame.operands)) some
          (ap (λ l. some_of is_kind (None ∷ misfits p m.heap (model.Sorted Reference ∷ []) l)) (top_one m.frame.operands v some top)
          ∙ ap (λ o. some_of is_kind (None ∷ o ∷ [])) fits)
          (omega arith)
          (ap (λ l. some_of is_member (None ∷ misfits p m.heap (model.Sorted Reference ∷ []) l)) (top_one m.frame.operands v some top)
          ∙ ap (λ o. some_of is_member (None ∷ o ∷ [])) fits) refl (omega arith))
          ∙ ap (on_null_by q m wanted target (below 1 m.frame.operands)) top
          ∙ ap (λ k. Went (at_place m k (below 1 m.frame.operands)) q None) (sym to) ∙ ap (λ n. Went n q None) (sym is),
    )

  module _ (some : 2 ≤ length m.frame.operands) (x y : ℤ) (first : Some x ≡ int_in (at_top m.frame.operands 1))
      (second : Some y ≡ int_in (at_top m.frame.operands 0)) where
    found_two : (p : Program) (test : Option BadKind → Bool) → test None ≡ false →
        some_of test (None ∷ misfits p m.heap (model.number ∷ model.number ∷ []) (on_top 2 m.frame.operands)) ≡ false
    found_two p test none =
        ap (λ l. some_of test (None ∷ misfits p m.heap (model.number ∷ model.number ∷ []) l))
        (top_two m.frame.operands (values.Int x) (values.Int y) some (int_is (at_top m.frame.operands 1) x first)
        (int_is (at_top m.frame.operands 0) y second))
        ∙ (rw none refl)

    pub compute_alone : (operation : Operation) (z : ℤ) → Some z ≡ computed operation x y → length m.frame.operands - 1 ≤ max →
        m' ≡ next m (below 2 m.frame.operands ++ values.Int z ∷ []) → Alone max (Compute operation) m m' true
    compute_alone operation z made room is = (
      stays is,
      λ p most me q.
          compute_is p q m me operation
          (nothing_wrong (needs p m (Compute operation)) m
          (None ∷ misfits p m.heap (model.number ∷ model.number ∷ []) (on_top 2 m.frame.operands)) some
          (found_two p is_kind refl) (omega arith) (found_two p is_member refl) refl (omega arith))
          ∙ ap (λ o. computes_by q m operation (below 2 m.frame.operands) o (int_in (at_top m.frame.operands 0))) (sym first)
          ∙ ap (computes_by q m operation (below 2 m.frame.operands) (Some x)) (sym second)
          ∙ ap (computed_to q m (below 2 m.frame.operands)) (sym made) ∙ ap (λ n. Went n q None) (sym is),
    )

    pub if_both_alone : (comparison : Comparison) (target place : ℕ) → length m.frame.operands - 2 ≤ max →
        place ≡ (if compares comparison x y then target else m.frame.place + 1) → m' ≡ at_place m place (below 2 m.frame.operands) →
        Alone max (IfBoth comparison target) m m' true
    if_both_alone comparison target place room to is = (
      stays is,
      λ p most me q.
          if_both_is p q m me comparison target
          (nothing_wrong (needs p m (IfBoth comparison target)) m
          (None ∷ misfits p m.heap (model.number ∷ model.number ∷ []) (on_top 2 m.frame.operands)) some
          (found_two p is_kind refl) (omega arith) (found_two p is_member refl) refl (omega arith))
          ∙ ap (λ o. on_both_by q m comparison target (below 2 m.frame.operands) o (int_in (at_top m.frame.operands 0))) (sym first)
          ∙ ap (on_both_by q m comparison target (below 2 m.frame.operands) (Some x)) (sym second)
          ∙ ap (λ k. Went (at_place m k (below 2 m.frame.operands)) q None) (sym to) ∙ ap (λ n. Went n q None) (sym is),
    )

pub when_true : {P : Type 0} (b : Bool) → b ≡ true → OnTrue b P → P
when_true true e h = h
when_true false e h = absurd (cc e)

pub when_false : {P : Type 0} (b : Bool) → b ≡ false → OnFalse b P → P
when_false false e h = h
when_false true e h = absurd (cc e)

-- an action that ends with a push
pub alone_if : (max : ℕ) (a : Action) (m m' : Machine) {R S : Type 0} (b : Bool) → OnTrue b R → OnTrue b S → OnFalse b (m' ≡ m) →
    (R → S → Alone max a m m' true) → Alone max a m m' b
alone_if max a m m' true room is same f = f room is
alone_if max a m m' false room is same f = same

-- a local that holds a value
pub held_is : (o : Option (Option Value)) (v : Value) → Some v ≡ held_in o → o ≡ Some (Some v)
held_is None v e = absurd (cc e)
held_is (Some o) v e = ap Some (sym e)

pub some_is : {A : Type 0} (x y : A) → Some x ≡ Some y → x ≡ y
some_is x y e = cc
