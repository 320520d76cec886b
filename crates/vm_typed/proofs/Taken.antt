-- What is known where each action that stays in its method is next, and that it is taken.
use Rattle.std.proofs.Common.{◌≡◌, ℕ, ℤ, pos, ◌+◌, ◌-◌, ◌<◌, ◌≤◌, ◌+ℤ◌, Bool, true, List, [], ◌∷◌, ◌++◌, length, Option, Some, None, IsSome}
use Rattle.std.proofs.Common.{refl, sym, ap, ◌∙◌, subst, arith, append_assoc, length-append}
use Rattle.std.proofs.lemmas.List.{length-take}
use Rattle.std.specs.Prelude.{neg_ℤ, if◌then◌else◌, slice_get}
use Rattle.vm_model.specs.declared.value.Value.{Value}
use Rattle.vm_model.specs.declared.value.Value.TheVariants as values
use Rattle.vm_model.specs.Program.{Program}
use Rattle.vm_model.specs.Messages.{Messages}
use Rattle.vm_model.specs.Machine.{Machine, Went}
use Rattle.vm_model.specs.Arithmetic.{wrap, computed, compares}
use Rattle.vm_model.specs.Actions.{Sort, Operation, Comparison, Push, Load, Store, Pop, Double, Swap, Compute, Negate, Increase, IfZero}
use Rattle.vm_model.specs.declared.linked.Built.TheVariants as builts
use Rattle.vm_model.specs.Actions.{IfBoth, IfNull, Go, Use}
use Rattle.vm_model.specs.Tests.{below, is_null, max_stack_in, method_of_frame}
use Rattle.vm_model.specs.Step.{goes, next, at_place, with_local, pushed, increased, stored, popped, doubled, swapped, computed_to}
use Rattle.vm_model.specs.Step.{computes, negates, on_zero, on_both, on_null, same_truth}
use Rattle.mg_text.specs.Call.{Name}
use Rattle.vm_frames.specs.declared.cell.Cell.{Cell}
use Rattle.vm_frames.specs.declared.cell.Cell.TheVariants as cells
use Rattle.vm_frames.specs.Seen.{held_in, value_in}
use Rattle.vm_session.specs.inner.Tops.{at_top, int_in, int_of_local}
use Rattle.cls_verify.specs.Sound.{IsWell}
use Rattle.vm_typed.specs.Alone.{SameMethod, StepsWithin}
use Rattle.vm_typed.specs.Next.{IsNext}
use Rattle.vm_typed.proofs.Tops.{There, there, below_none, top_one, top_two, doubled_is}
use Rattle.vm_typed.proofs.Next.{nobody, is_right, is_well, steps_to}

-- an operand that is an int
pub int_is : (o : Option Value) (x : ℤ) → Some x ≡ int_in o → o ≡ Some (values.Int x)
int_is (Some (values.Int y)) x e = cc
int_is (Some (values.Text t)) x e = absurd (cc e)
int_is (Some values.Null) x e = absurd (cc e)
int_is (Some values.Out) x e = absurd (cc e)
int_is (Some (values.Object n)) x e = absurd (cc e)
int_is None x e = absurd (cc e)

pub local_int_is : (o : Option (Option Value)) (x : ℤ) → Some x ≡ int_of_local o → o ≡ Some (Some (values.Int x))
local_int_is (Some (Some (values.Int y))) x e = cc
local_int_is (Some (Some (values.Text t))) x e = absurd (cc e)
local_int_is (Some (Some values.Null)) x e = absurd (cc e)
local_int_is (Some (Some values.Out)) x e = absurd (cc e)
local_int_is (Some (Some (values.Object n))) x e = absurd (cc e)
local_int_is (Some None) x e = absurd (cc e)
local_int_is None x e = absurd (cc e)

-- a local that holds a value
pub held_is : (o : Option (Option Value)) (v : Value) → Some v ≡ held_in o → o ≡ Some (Some v)
held_is None v e = absurd (cc e)
held_is (Some o) v e = ap Some (sym e)

pub held_int : (o : Option (Option Value)) (x : ℤ) → Some (values.Int x) ≡ held_in o → Some x ≡ int_of_local o
held_int o x e = ap int_of_local (sym (held_is o (values.Int x) e))

pub some_is : {A : Type 0} (x y : A) → Some x ≡ Some y → x ≡ y
some_is x y e = cc

-- something is there
pub is_there : {A : Type 0} {o : Option A} {x : A} → o ≡ Some x → IsSome o
is_there e = subst IsSome (sym e) refl

-- a cell that says an int is one
pub int_cell : (texts : List Name) (cell : Cell) (x : ℤ) → value_in texts cell ≡ values.Int x → cell ≡ cells.Int x
int_cell texts cells.Unset x e = absurd (cc e)
int_cell texts (cells.Int y) x e = cc
int_cell texts (cells.Text n) x e = absurd (cc e)
int_cell texts cells.Null x e = absurd (cc e)
int_cell texts cells.Out x e = absurd (cc e)
int_cell texts (cells.Object n) x e = absurd (cc e)

-- there is something, and there is nothing
pub never_none : {A : Type 0} {o : Option A} {x : A} → o ≡ None → o ≡ Some x → ⊥
never_none none some = cc (sym none ∙ some)

-- there is room for a value in the place of two, and for one more
pub put_room : (vs : List Value) (v : Value) (most : ℕ) → 2 ≤ length vs → length vs ≤ most → length (below 2 vs ++ v ∷ []) < most
put_room vs v most some room =
    omega (arith, length-append (below 2 vs) (v ∷ []), length-take (length vs - 2) vs, some, room)

-- Values that an action takes without being bad.
module _ (p : Program) (q : Messages) (m : Machine) (rest : List Value) where
  held_of : (o : Option (Option Value)) → IsWell p (pushed q m rest o) → (v : Value) × (held_in o ≡ Some v)
  held_of (Some (Some v)) h = (v, refl)
  held_of (Some None) h = absurd h
  held_of None h = absurd h

  computed_of : (operation : Operation) (v w : Value) → IsWell p (computes q m operation rest (v ∷ w ∷ [])) →
      ((x : ℤ) × (int_in (Some v) ≡ Some x)) × ((y : ℤ) × (int_in (Some w) ≡ Some y))
  computed_of operation (values.Int x) (values.Int y) h = ((x, refl), (y, refl))
  computed_of operation (values.Int x) (values.Text t) h = absurd h
  computed_of operation (values.Int x) values.Null h = absurd h
  computed_of operation (values.Int x) values.Out h = absurd h
  computed_of operation (values.Int x) (values.Object n) h = absurd h
  computed_of operation (values.Text t) w h = absurd h
  computed_of operation values.Null w h = absurd h
  computed_of operation values.Out w h = absurd h
  computed_of operation (values.Object n) w h = absurd h

  compared_of : (comparison : Comparison) (target : ℕ) (v w : Value) → IsWell p (on_both q m comparison target rest (v ∷ w ∷ [])) →
      ((x : ℤ) × (int_in (Some v) ≡ Some x)) × ((y : ℤ) × (int_in (Some w) ≡ Some y))
  compared_of comparison target (values.Int x) (values.Int y) h = ((x, refl), (y, refl))
  compared_of comparison target (values.Int x) (values.Text t) h = absurd h
  compared_of comparison target (values.Int x) values.Null h = absurd h
  compared_of comparison target (values.Int x) values.Out h = absurd h
  compared_of comparison target (values.Int x) (values.Object n) h = absurd h
  compared_of comparison target (values.Text t) w h = absurd h
  compared_of comparison target values.Null w h = absurd h
  compared_of comparison target values.Out w h = absurd h
  compared_of comparison target (values.Object n) w h = absurd h

  negated_of : (v : Value) → IsWell p (negates q m rest (v ∷ [])) → (x : ℤ) × (int_in (Some v) ≡ Some x)
  negated_of (values.Int x) h = (x, refl)
  negated_of (values.Text t) h = absurd h
  negated_of values.Null h = absurd h
  negated_of values.Out h = absurd h
  negated_of (values.Object n) h = absurd h

  tested_of : (comparison : Comparison) (target : ℕ) (v : Value) → IsWell p (on_zero q m comparison target rest (v ∷ [])) →
      (x : ℤ) × (int_in (Some v) ≡ Some x)
  tested_of comparison target (values.Int x) h = (x, refl)
  tested_of comparison target (values.Text t) h = absurd h
  tested_of comparison target values.Null h = absurd h
  tested_of comparison target values.Out h = absurd h
  tested_of comparison target (values.Object n) h = absurd h

  increased_of : (local : ℕ) (by : ℤ) (o : Option (Option Value)) → IsWell p (increased q m rest local by o) →
      (x : ℤ) × (int_of_local o ≡ Some x)
  increased_of local by (Some (Some (values.Int x))) h = (x, refl)
  increased_of local by (Some (Some (values.Text t))) h = absurd h
  increased_of local by (Some (Some values.Null)) h = absurd h
  increased_of local by (Some (Some values.Out)) h = absurd h
  increased_of local by (Some (Some (values.Object n))) h = absurd h
  increased_of local by (Some None) h = absurd h
  increased_of local by None h = absurd h

-- What each action needs is there.
module _ (p : Program) (m : Machine) where
  pub out_room : IsNext p m (Use builts.Out) → length m.frame.operands + 1 ≤ max_stack_in (method_of_frame p m.frame)
  out_room n = omega (arith, (is_right p m (Use builts.Out) n).room)

  pub push_room : (v : Value) → IsNext p m (Push v) → length m.frame.operands + 1 ≤ max_stack_in (method_of_frame p m.frame)
  push_room v n = omega (arith, (is_right p m (Push v) n).room)

  pub load_room : (sort : Sort) (local : ℕ) → IsNext p m (Load sort local) →
      length m.frame.operands + 1 ≤ max_stack_in (method_of_frame p m.frame)
  load_room sort local n = omega (arith, (is_right p m (Load sort local) n).room)

  pub load_held : (sort : Sort) (local : ℕ) → IsNext p m (Load sort local) →
      (v : Value) × (held_in (slice_get m.frame.locals local) ≡ Some v)
  load_held sort local n = held_of p nobody m (below 0 m.frame.operands) (slice_get m.frame.locals local)
      (is_well p m (Load sort local) n 0 nobody)

  pub store_some : (sort : Sort) (local : ℕ) → IsNext p m (Store sort local) → 1 ≤ length m.frame.operands
  store_some sort local n = (is_right p m (Store sort local) n).enough

  pub store_within : (sort : Sort) (local : ℕ) → IsNext p m (Store sort local) → local < length m.frame.locals
  store_within sort local n = omega (arith, (is_right p m (Store sort local) n).locals)

  pub pop_some : IsNext p m Pop → 1 ≤ length m.frame.operands
  pop_some n = (is_right p m Pop n).enough

  pub double_some : IsNext p m Double → 1 ≤ length m.frame.operands
  double_some n = (is_right p m Double n).enough

  pub double_room : IsNext p m Double → length m.frame.operands + 1 ≤ max_stack_in (method_of_frame p m.frame)
  double_room n = omega (arith, (is_right p m Double n).room, double_some n)

  pub swap_some : IsNext p m Swap → 2 ≤ length m.frame.operands
  swap_some n = (is_right p m Swap n).enough

  pub swap_room : IsNext p m Swap → length m.frame.operands ≤ max_stack_in (method_of_frame p m.frame)
  swap_room n = omega (arith, (is_right p m Swap n).room, swap_some n)

  pub compute_some : (operation : Operation) → IsNext p m (Compute operation) → 2 ≤ length m.frame.operands
  compute_some operation n = (is_right p m (Compute operation) n).enough

  pub compute_ints : (operation : Operation) → IsNext p m (Compute operation) →
      ((x : ℤ) × (int_in (at_top m.frame.operands 1) ≡ Some x)) × ((y : ℤ) × (int_in (at_top m.frame.operands 0) ≡ Some y))
  compute_ints operation n =
      let some = compute_some operation n in
      let t : There m.frame.operands 1 = there m.frame.operands 1 (omega (arith, some)) in
      let u : There m.frame.operands 0 = there m.frame.operands 0 (omega (arith, some)) in
      let two = computed_of p nobody m (below 2 m.frame.operands) operation t.value u.value
      (subst (λ l. IsWell p (computes nobody m operation (below 2 m.frame.operands) l))
      (top_two m.frame.operands t.value u.value some t.is u.is) (is_well p m (Compute operation) n 0 nobody)) in
      ((two.0.0, ap int_in t.is ∙ two.0.1), (two.1.0, ap int_in u.is ∙ two.1.1))

  pub negate_some : IsNext p m Negate → 1 ≤ length m.frame.operands
  negate_some n = (is_right p m Negate n).enough

  pub negate_int : IsNext p m Negate → (x : ℤ) × (int_in (at_top m.frame.operands 0) ≡ Some x)
  negate_int n =
      let u : There m.frame.operands 0 = there m.frame.operands 0 (negate_some n) in
      let one = negated_of p nobody m (below 1 m.frame.operands) u.value
      (subst (λ l. IsWell p (negates nobody m (below 1 m.frame.operands) l)) (top_one m.frame.operands u.value (negate_some n) u.is)
      (is_well p m Negate n 0 nobody)) in
      (one.0, ap int_in u.is ∙ one.1)

  pub increase_within : (local : ℕ) (by : ℤ) → IsNext p m (Increase local by) → local < length m.frame.locals
  increase_within local by n = omega (arith, (is_right p m (Increase local by) n).locals)

  pub increase_int : (local : ℕ) (by : ℤ) → IsNext p m (Increase local by) →
      (x : ℤ) × (int_of_local (slice_get m.frame.locals local) ≡ Some x)
  increase_int local by n = increased_of p nobody m (below 0 m.frame.operands) local by (slice_get m.frame.locals local)
      (is_well p m (Increase local by) n 0 nobody)

  pub on_zero_some : (comparison : Comparison) (target : ℕ) → IsNext p m (IfZero comparison target) → 1 ≤ length m.frame.operands
  on_zero_some comparison target n = (is_right p m (IfZero comparison target) n).enough

  pub on_zero_int : (comparison : Comparison) (target : ℕ) → IsNext p m (IfZero comparison target) →
      (x : ℤ) × (int_in (at_top m.frame.operands 0) ≡ Some x)
  on_zero_int comparison target n =
      let some = on_zero_some comparison target n in
      let u : There m.frame.operands 0 = there m.frame.operands 0 some in
      let one = tested_of p nobody m (below 1 m.frame.operands) comparison target u.value
      (subst (λ l. IsWell p (on_zero nobody m comparison target (below 1 m.frame.operands) l)) (top_one m.frame.operands u.value some u.is)
      (is_well p m (IfZero comparison target) n 0 nobody)) in
      (one.0, ap int_in u.is ∙ one.1)

  pub on_both_some : (comparison : Comparison) (target : ℕ) → IsNext p m (IfBoth comparison target) → 2 ≤ length m.frame.operands
  on_both_some comparison target n = (is_right p m (IfBoth comparison target) n).enough

  pub on_both_ints : (comparison : Comparison) (target : ℕ) → IsNext p m (IfBoth comparison target) →
      ((x : ℤ) × (int_in (at_top m.frame.operands 1) ≡ Some x)) × ((y : ℤ) × (int_in (at_top m.frame.operands 0) ≡ Some y))
  on_both_ints comparison target n =
      let some = on_both_some comparison target n in
      let t : There m.frame.operands 1 = there m.frame.operands 1 (omega (arith, some)) in
      let u : There m.frame.operands 0 = there m.frame.operands 0 (omega (arith, some)) in
      let two = compared_of p nobody m (below 2 m.frame.operands) comparison target t.value u.value
      (subst (λ l. IsWell p (on_both nobody m comparison target (below 2 m.frame.operands) l))
      (top_two m.frame.operands t.value u.value some t.is u.is) (is_well p m (IfBoth comparison target) n 0 nobody)) in
      ((two.0.0, ap int_in t.is ∙ two.0.1), (two.1.0, ap int_in u.is ∙ two.1.1))

  pub on_null_some : (wanted : Bool) (target : ℕ) → IsNext p m (IfNull wanted target) → 1 ≤ length m.frame.operands
  on_null_some wanted target n = (is_right p m (IfNull wanted target) n).enough

-- what a local of an increase holds
pub increase_held : (p : Program) (m : Machine) (local : ℕ) (by : ℤ) → IsNext p m (Increase local by) →
    (x : ℤ) × (held_in (slice_get m.frame.locals local) ≡ Some (values.Int x))
increase_held p m local by n =
    let int = increase_int p m local by n in
    (int.0, ap held_in (local_int_is (slice_get m.frame.locals local) int.0 (sym int.1)))

-- Each action is taken.
module _ (p : Program) (m m' : Machine) where
  stays : {place : ℕ} {locals : List (Option Value)} {operands : List Value} →
      m' ≡ record m { frame = record m.frame { place = place; locals = locals; operands = operands } } → SameMethod m m'
  stays is = (ap (λ (n : Machine). n.frame.class) is, ap (λ (n : Machine). n.frame.method) is)

  pub pushes_out : IsNext p m (Use builts.Out) → m' ≡ next m (m.frame.operands ++ values.Out ∷ []) → StepsWithin p m m' true
  pushes_out n is = steps_to p m (Use builts.Out) n m' (stays is)
      (λ me q. ap (λ vs. goes q (next m (vs ++ values.Out ∷ []))) (below_none m.frame.operands) ∙ ap (goes q) (sym is))

  pub pushes : (v : Value) → IsNext p m (Push v) → m' ≡ next m (m.frame.operands ++ v ∷ []) → StepsWithin p m m' true
  pushes v n is = steps_to p m (Push v) n m' (stays is)
      (λ me q. ap (λ l. goes q (next m (l ++ v ∷ []))) (below_none m.frame.operands) ∙ ap (λ k. Went k q None) (sym is))

  pub loads : (sort : Sort) (local : ℕ) (v : Value) → IsNext p m (Load sort local) → Some v ≡ held_in (slice_get m.frame.locals local) →
      m' ≡ next m (m.frame.operands ++ v ∷ []) → StepsWithin p m m' true
  loads sort local v n holds is = steps_to p m (Load sort local) n m' (stays is)
      (λ me q. ap (pushed q m (below 0 m.frame.operands)) (held_is (slice_get m.frame.locals local) v holds)
      ∙ ap (λ l. goes q (next m (l ++ v ∷ []))) (below_none m.frame.operands) ∙ ap (λ k. Went k q None) (sym is))

  pub stores : (sort : Sort) (local : ℕ) (v : Value) → IsNext p m (Store sort local) → at_top m.frame.operands 0 ≡ Some v →
      m' ≡ next (with_local m local v) (below 1 m.frame.operands) → StepsWithin p m m' true
  stores sort local v n top is = steps_to p m (Store sort local) n m' (stays is)
      (λ me q. ap (stored q m local (below 1 m.frame.operands)) (top_one m.frame.operands v (store_some p m sort local n) top)
      ∙ ap (λ k. Went k q None) (sym is))

  pub pops : IsNext p m Pop → m' ≡ next m (below 1 m.frame.operands) → StepsWithin p m m' true
  pops n is = steps_to p m Pop n m' (stays is)
      (λ me q.
      let t : There m.frame.operands 0 = there m.frame.operands 0 (pop_some p m n) in
      ap (popped q m (below 1 m.frame.operands)) (top_one m.frame.operands t.value (pop_some p m n) t.is)
      ∙ ap (λ k. Went k q None) (sym is))

  pub doubles : (v : Value) → IsNext p m Double → at_top m.frame.operands 0 ≡ Some v → m' ≡ next m (m.frame.operands ++ v ∷ []) →
      StepsWithin p m m' true
  doubles v n top is = steps_to p m Double n m' (stays is)
      (λ me q. ap (doubled q m (below 1 m.frame.operands)) (top_one m.frame.operands v (double_some p m n) top)
      ∙ ap (λ l. goes q (next m l)) (doubled_is m.frame.operands v top) ∙ ap (λ k. Went k q None) (sym is))

  pub swaps : (v w : Value) → IsNext p m Swap → at_top m.frame.operands 1 ≡ Some v → at_top m.frame.operands 0 ≡ Some w →
      m' ≡ next m ((below 2 m.frame.operands ++ w ∷ []) ++ v ∷ []) → StepsWithin p m m' true
  swaps v w n first second is = steps_to p m Swap n m' (stays is)
      (λ me q. ap (swapped q m (below 2 m.frame.operands)) (top_two m.frame.operands v w (swap_some p m n) first second)
      ∙ ap (λ l. goes q (next m l)) (sym (append_assoc (below 2 m.frame.operands) (w ∷ []) (v ∷ []))) ∙ ap (λ k. Went k q None) (sym is))

  pub computes_to : (operation : Operation) (x y z : ℤ) → IsNext p m (Compute operation) → Some x ≡ int_in (at_top m.frame.operands 1) →
      Some y ≡ int_in (at_top m.frame.operands 0) → Some z ≡ computed operation x y →
      m' ≡ next m (below 2 m.frame.operands ++ values.Int z ∷ []) → StepsWithin p m m' true
  computes_to operation x y z n first second made is = steps_to p m (Compute operation) n m' (stays is)
      (λ me q. ap (computes q m operation (below 2 m.frame.operands))
      (top_two m.frame.operands (values.Int x) (values.Int y) (compute_some p m operation n) (int_is (at_top m.frame.operands 1) x first)
      (int_is (at_top m.frame.operands 0) y second))
      ∙ ap (computed_to q m (below 2 m.frame.operands)) (sym made) ∙ ap (λ k. Went k q None) (sym is))

  pub negates_to : (x : ℤ) → IsNext p m Negate → Some x ≡ int_in (at_top m.frame.operands 0) →
      m' ≡ next m (below 1 m.frame.operands ++ values.Int (wrap (neg_ℤ x)) ∷ []) → StepsWithin p m m' true
  negates_to x n int is = steps_to p m Negate n m' (stays is)
      (λ me q. ap (negates q m (below 1 m.frame.operands))
      (top_one m.frame.operands (values.Int x) (negate_some p m n) (int_is (at_top m.frame.operands 0) x int))
      ∙ ap (λ k. Went k q None) (sym is))

  pub increases_to : (local : ℕ) (by x : ℤ) → IsNext p m (Increase local by) →
      Some x ≡ int_of_local (slice_get m.frame.locals local) →
      m' ≡ next (with_local m local (values.Int (wrap (x +ℤ by)))) m.frame.operands → StepsWithin p m m' true
  increases_to local by x n int is = steps_to p m (Increase local by) n m' (stays is)
      (λ me q. ap (increased q m (below 0 m.frame.operands) local by) (local_int_is (slice_get m.frame.locals local) x int)
      ∙ ap (λ l. goes q (next (with_local m local (values.Int (wrap (x +ℤ by)))) l)) (below_none m.frame.operands)
      ∙ ap (λ k. Went k q None) (sym is))

  pub branches_on_zero : (comparison : Comparison) (target place : ℕ) (x : ℤ) → IsNext p m (IfZero comparison target) →
      Some x ≡ int_in (at_top m.frame.operands 0) →
      place ≡ (if compares comparison x (pos 0) then target else m.frame.place + 1) → m' ≡ at_place m place (below 1 m.frame.operands) →
      StepsWithin p m m' true
  branches_on_zero comparison target place x n int to is = steps_to p m (IfZero comparison target) n m' (stays is)
      (λ me q. ap (on_zero q m comparison target (below 1 m.frame.operands))
      (top_one m.frame.operands (values.Int x) (on_zero_some p m comparison target n) (int_is (at_top m.frame.operands 0) x int))
      ∙ ap (λ k. Went (at_place m k (below 1 m.frame.operands)) q None) (sym to) ∙ ap (λ k. Went k q None) (sym is))

  pub branches_on_both : (comparison : Comparison) (target place : ℕ) (x y : ℤ) → IsNext p m (IfBoth comparison target) →
      Some x ≡ int_in (at_top m.frame.operands 1) → Some y ≡ int_in (at_top m.frame.operands 0) →
      place ≡ (if compares comparison x y then target else m.frame.place + 1) → m' ≡ at_place m place (below 2 m.frame.operands) →
      StepsWithin p m m' true
  branches_on_both comparison target place x y n first second to is = steps_to p m (IfBoth comparison target) n m' (stays is)
      (λ me q. ap (on_both q m comparison target (below 2 m.frame.operands))
      (top_two m.frame.operands (values.Int x) (values.Int y) (on_both_some p m comparison target n)
      (int_is (at_top m.frame.operands 1) x first) (int_is (at_top m.frame.operands 0) y second))
      ∙ ap (λ k. Went (at_place m k (below 2 m.frame.operands)) q None) (sym to) ∙ ap (λ k. Went k q None) (sym is))

  pub branches_on_null : (wanted : Bool) (target place : ℕ) (v : Value) → IsNext p m (IfNull wanted target) →
      at_top m.frame.operands 0 ≡ Some v →
      place ≡ (if same_truth wanted (is_null v) then target else m.frame.place + 1) → m' ≡ at_place m place (below 1 m.frame.operands) →
      StepsWithin p m m' true
  branches_on_null wanted target place v n top to is = steps_to p m (IfNull wanted target) n m' (stays is)
      (λ me q. ap (on_null q m wanted target (below 1 m.frame.operands))
      (top_one m.frame.operands v (on_null_some p m wanted target n) top)
      ∙ ap (λ k. Went (at_place m k (below 1 m.frame.operands)) q None) (sym to) ∙ ap (λ k. Went k q None) (sym is))

  pub jumps : (target : ℕ) → IsNext p m (Go target) → m' ≡ at_place m target m.frame.operands → StepsWithin p m m' true
  jumps target n is = steps_to p m (Go target) n m' (stays is)
      (λ me q. ap (λ l. goes q (at_place m target l)) (below_none m.frame.operands) ∙ ap (λ k. Went k q None) (sym is))
