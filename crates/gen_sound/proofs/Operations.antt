-- Operators on the values of two expressions, and tests of a value against `null`.
use Rattle.std.proofs.Common.{◌≡◌, ℕ, ◌+◌, ◌≤◌, Bool, true, false, not, List, [], ◌∷◌, ◌++◌, length, Option, Some, None, refl, sym, ap, ◌∙◌}
use Rattle.std.proofs.Common.{subst, arith, ℤ, pos, append_assoc, suc}
use Rattle.std.specs.Prelude.{if◌then◌else◌, slice_get, int_div, int_rem, int_lt, int_le}
use Rattle.jv_tree.specs.declared.tree.Op.{Op}
use Rattle.jv_tree.specs.declared.tree.Op.TheVariants as ops
use Rattle.jv_values.specs.Values.{Value, Shared, Inputs}
use Rattle.jv_values.specs.Values as values
use Rattle.jv_values.specs.Doing.{Run, Outcome, and_then, ◌>>=◌, give, stop, valuing, truth, Gives, Ends, found}
use Rattle.jv_values.specs.Operators.{applied, Minus, Times, Divide, Remain, Plus, Equal, Unequal, equal_texts, joined_texts, int_same}
use Rattle.jv_values.specs.Operators.{wrap, operator_of}
use Rattle.jv_core.specs.declared.program.CoreType.{CoreType}
use Rattle.jv_core.specs.declared.program.CoreType.TheVariants as types
use Rattle.jv_core.specs.Tree.{Method, Program}
use Rattle.jv_core.specs.Conditions.{IsCore}
use Rattle.jv_core.specs.Types.{IsOrder, IsCompared}
use Rattle.vm_model.specs.declared.value.Value.{Value as Held}
use Rattle.vm_model.specs.declared.value.Value.TheVariants as held
use Rattle.vm_model.specs.declared.linked.Built.TheVariants as built
use Rattle.vm_model.specs.Program as linked
use Rattle.vm_model.specs.Links.{Outline}
use Rattle.vm_model.specs.Messages.{Messages}
use Rattle.vm_model.specs.Actions.{Operation, Comparison, Compute, IfBoth, Use, Reference, IfNull}
use Rattle.vm_model.specs.Actions as actions
use Rattle.vm_model.specs.Arithmetic as arithmetic
use Rattle.vm_model.specs.Arithmetic.{compares}
use Rattle.vm_model.specs.Tests.{number, text, Sorted}
use Rattle.vm_model.specs.Step.{step, computed_to, branch}
use Rattle.gen_rules.specs.Symbolic.{Instr, iadd, isub, imul, idiv, irem, if_icmp, opposite, invokevirtual, ifnull, ifnonnull}
use Rattle.gen_rules.specs.Members.{concat_reference, equals_reference}
use Rattle.gen_rules.specs.Frames.{max_stack, Depths, depths_by_jumps}
use Rattle.jv_sound.proofs.Worlds.{World, Fits, Runs, GivesA}
use Rattle.jv_sound.proofs.Worlds as worlds
use Rattle.gen_sound.specs.Following.{Moment, Leads, Follows}
use Rattle.gen_sound.specs.Related.{Running, flat, RunsCode, action_of}
use Rattle.vm_world_law.specs.Meant.{Holds}
use Rattle.gen_sound.specs.Arriving.{Arrives, Jumps}
use Rattle.gen_sound.proofs.Steps.{stays, comes_on, comes_lead}
use Rattle.gen_sound.proofs.Ints.{lt_not_le, le_not_lt, not_not}
use Rattle.gen_sound.proofs.Comparisons.{SameInts, same_ints}
use Rattle.gen_sound.proofs.Taking.{step_takes}
use Rattle.gen_sound.proofs.Forms.{At, Value_at, Unless_at, When_at, goes, tested, Does, does_jumps, next_place}
use Rattle.gen_rules.specs.Spans.{◌then◌, Forms, one, by_jumps}
use Rattle.gen_rules.specs.Templates.{with_null}
use Rattle.jv_sound.proofs.Objects.{Heap}
use Rattle.gen_sound.proofs.Pairs.{of_both, test_is}

-- what a division gives, where its divisor is zero or not
abbrev divided : Bool → ℤ → (ℤ → ℤ) → Shared → Outcome Shared (Option Value)
divided b y f s = and_then (and_then (and_then ((if b then stop values.Zero else give y) s) (λ d. give (f d))) (λ z. give (values.Int z)))
    (λ v. give (Some v))

-- what a test of a value against `null` gives: `yes` for null
abbrev null_test : (yes : Bool) → Value → Run Shared Bool
null_test t values.Null = give t
null_test t (values.Object k) = give (not t)
null_test t _ = stop values.Wrong

equal_null : (v : Value) (s : Shared) → (applied Equal v values.Null >>= truth) s ≡ null_test true v s
equal_null (values.Int z) s = refl
equal_null (values.Truth true) s = refl
equal_null (values.Truth false) s = refl
equal_null (values.Text t) s = refl
equal_null values.Null s = refl
equal_null (values.Object k) s = refl
equal_null (values.Constant e k) s = refl

unequal_null : (v : Value) (s : Shared) → (applied Unequal v values.Null >>= truth) s ≡ null_test false v s
unequal_null (values.Int z) s = refl
unequal_null (values.Truth true) s = refl
unequal_null (values.Truth false) s = refl
unequal_null (values.Text t) s = refl
unequal_null values.Null s = refl
unequal_null (values.Object k) s = refl
unequal_null (values.Constant e k) s = refl

null_equal : (v : Value) (s : Shared) → (applied Equal values.Null v >>= truth) s ≡ null_test true v s
null_equal (values.Int z) s = refl
null_equal (values.Truth b) s = refl
null_equal (values.Text t) s = refl
null_equal values.Null s = refl
null_equal (values.Object k) s = refl
null_equal (values.Constant e k) s = refl

null_unequal : (v : Value) (s : Shared) → (applied Unequal values.Null v >>= truth) s ≡ null_test false v s
null_unequal (values.Int z) s = refl
null_unequal (values.Truth b) s = refl
null_unequal (values.Text t) s = refl
null_unequal values.Null s = refl
null_unequal (values.Object k) s = refl
null_unequal (values.Constant e k) s = refl

module _ (p : Program) (ok : IsCore p) (os : List Outline) (program : linked.Program) (inputs : Inputs) (me : ℕ) (r : Running) (m : Method)
    (code : List Instr) (runs : RunsCode p os program me r m code) (n : ℕ) (ls : List (Option Held)) where
  abbrev A : (place : ℕ) → List Held → Shared → Messages → Moment
  A place st s q = At p ok os program inputs me r m code runs n place st ls s q

  abbrev V : (to : ℕ) (st : List Held) → Moment → Option Value → Shared → Type 0
  V = Value_at p ok os program inputs me r m code runs n ls

  abbrev U : (target to : ℕ) (st : List Held) → Moment → Bool → Shared → Type 0
  U = Unless_at p ok os program inputs me r m code runs n ls

  abbrev W : (target to : ℕ) (st : List Held) → Moment → Bool → Shared → Type 0
  W = When_at p ok os program inputs me r m code runs n ls

  abbrev F : {B : Type 0} → (Moment → B → Shared → Type 0) → Moment → Outcome Shared B → Type 0
  F R c o = Follows (step program me) n R c o

  abbrev two : List Held → (x y : Held) → List Held
  two st x y = (st ++ x ∷ []) ++ y ∷ []

  arrived : (place to : ℕ) (st st' : List Held) (s : Shared) (q : Messages) → Leads (step program me) (A place st s q) (A to st' s q) →
      Holds inputs q me s.events → Arrives p program inputs me r to st' ls (A place st s q) s
  arrived place to st st' s q lead holds = record { messages = q; comes = lead.comes; holds = holds }

  jumped : (place to : ℕ) (st st' : List Held) (s : Shared) (q : Messages) → Leads (step program me) (A place st s q) (A to st' s q) →
      Holds inputs q me s.events → Jumps p program inputs me r to st' ls (A place st s q) s
  jumped place to st st' s q lead holds = record { messages = q; leads = lead; holds = holds }

  -- arithmetic
  compute_is : (place : ℕ) (st : List Held) (s : Shared) (q : Messages) (i : Instr) (o : Operation) (x y : ℤ) →
      slice_get code place ≡ Some i →
      action_of os i ≡ Some (Compute o) → length st + 1 ≤ max_stack p m →
      step program me (A place (two st (held.Int x) (held.Int y)) s q).machine q
      ≡ computed_to q (A place (two st (held.Int x) (held.Int y)) s q).machine st (arithmetic.computed o x y)
  compute_is place st s q i o x y at is room =
      step_takes p os program me r m code runs place (two st (held.Int x) (held.Int y)) ls s q i (Compute o) at is
      st (held.Int x ∷ held.Int y ∷ []) (number ∷ number ∷ []) 1 (append_assoc st (held.Int x ∷ []) (held.Int y ∷ [])) refl (
        refl,
        (
          refl,
          tt,
        ),
      ) room

  computes : (place : ℕ) (st : List Held) (s : Shared) (q : Messages) (i : Instr) (o : Operation) (x y z : ℤ) →
      slice_get code place ≡ Some i →
      action_of os i ≡ Some (Compute o) → length st + 1 ≤ max_stack p m → arithmetic.computed o x y ≡ Some z → Holds inputs q me s.events →
      V (place + 1) st (A place (two st (held.Int x) (held.Int y)) s q) (Some (values.Int z)) s
  computes place st s q i o x y z at is room e holds =
      arrived place (place + 1) (two st (held.Int x) (held.Int y)) (st ++ held.Int z ∷ []) s q
      (goes p ok os program inputs me r m code runs n place (two st (held.Int x) (held.Int y)) ls s q (place + 1) (st ++ held.Int z ∷ [])
      (compute_is place st s q i o x y at is room ∙ ap (computed_to q (A place (two st (held.Int x) (held.Int y)) s q).machine st) e))
      holds

  divides : (place : ℕ) (st : List Held) (s : Shared) (q : Messages) (i : Instr) (o : Operation) (x y : ℤ) (f : ℤ → ℤ) →
      slice_get code place ≡ Some i →
      action_of os i ≡ Some (Compute o) → length st + 1 ≤ max_stack p m →
      (b : Bool) → arithmetic.computed o x y ≡ (if b then None else Some (f y)) → Holds inputs q me s.events →
      F (V (place + 1) st) (A place (two st (held.Int x) (held.Int y)) s q) (divided b y f s)
  divides place st s q i o x y f at is room true e holds = record {
    moment = A place (two st (held.Int x) (held.Int y)) s q;
    comes = stays (step program me) (A place (two st (held.Int x) (held.Int y)) s q);
    events_are = refl;
    stops = compute_is place st s q i o x y at is room ∙ ap (computed_to q (A place (two st (held.Int x) (held.Int y)) s q).machine st) e;
  }
  divides place st s q i o x y f at is room false e holds = computes place st s q i o x y (f y) at is room e holds

  abbrev pub Last : (Value → Value → Run Shared Value) → Instr → (t u : CoreType) → Type 0
  Last f i t u = (place : ℕ) (st : List Held) (y : World) (v z : Value) (s : Shared) (q : Messages) → slice_get code place ≡ Some i →
      Fits p y v t → Fits p y z u → length st + 1 ≤ max_stack p m → Holds inputs q me s.events →
      F (V (place + 1) st) (A place (two st (flat v) (flat z)) s q) (valuing (f v z) s)

  pub plus_last : Last (applied Plus) iadd types.Int types.Int
  plus_last place st y v u s q at (worlds.int {z = x}) (worlds.int {z = z}) room holds =
      computes place st s q iadd actions.Plus x z _ at refl room refl holds

  pub minus_last : Last (applied Minus) isub types.Int types.Int
  minus_last place st y v u s q at (worlds.int {z = x}) (worlds.int {z = z}) room holds =
      computes place st s q isub actions.Minus x z _ at refl room refl holds

  pub times_last : Last (applied Times) imul types.Int types.Int
  times_last place st y v u s q at (worlds.int {z = x}) (worlds.int {z = z}) room holds =
      computes place st s q imul actions.Times x z _ at refl room refl holds

  pub divide_last : Last (applied Divide) idiv types.Int types.Int
  divide_last place st y v u s q at (worlds.int {z = x}) (worlds.int {z = z}) room holds =
      divides place st s q idiv actions.Divide x z (λ d. wrap (int_div x d)) at refl room (int_same z (pos 0)) refl holds

  pub remain_last : Last (applied Remain) irem types.Int types.Int
  remain_last place st y v u s q at (worlds.int {z = x}) (worlds.int {z = z}) room holds =
      divides place st s q irem actions.Remain x z (λ d. int_rem x d) at refl room (int_same z (pos 0)) refl holds

  -- comparisons
  compare_goes : (place target : ℕ) (st : List Held) (s : Shared) (q : Messages) (i : Instr) (k : Comparison) (x y : ℤ) (b : Bool) →
      slice_get code place ≡ Some i → action_of os i ≡ Some (IfBoth k target) → length st + 1 ≤ max_stack p m → compares k x y ≡ b →
      Leads (step program me) (A place (two st (held.Int x) (held.Int y)) s q) (A (if b then target else place + 1) st s q)
  compare_goes place target st s q i k x y b at is room e =
      goes p ok os program inputs me r m code runs n place (two st (held.Int x) (held.Int y)) ls s q (if b then target else place + 1) st
      (step_takes p os program me r m code runs place (two st (held.Int x) (held.Int y)) ls s q i (IfBoth k target) at is
      st (held.Int x ∷ held.Int y ∷ []) (number ∷ number ∷ []) 0 (append_assoc st (held.Int x ∷ []) (held.Int y ∷ [])) refl (
        refl,
        (
          refl,
          tt,
        ),
      )
      (omega (arith, room))
      ∙ ap (branch q (A place (two st (held.Int x) (held.Int y)) s q).machine st target) e)

  pub compared_unless : (place target : ℕ) (st : List Held) (s : Shared) (q : Messages) (i : Instr) (k : Comparison) (x y : ℤ) (b : Bool) →
      slice_get code place ≡ Some i → action_of os i ≡ Some (IfBoth k target) → length st + 1 ≤ max_stack p m → compares k x y ≡ not b →
      Holds inputs q me s.events → U target (place + 1) st (A place (two st (held.Int x) (held.Int y)) s q) b s
  compared_unless place target st s q i k x y true at is room e holds =
      arrived place (place + 1) (two st (held.Int x) (held.Int y)) st s q (compare_goes place target st s q i k x y false at is room e)
      holds
  compared_unless place target st s q i k x y false at is room e holds =
      jumped place target (two st (held.Int x) (held.Int y)) st s q (compare_goes place target st s q i k x y true at is room e) holds

  pub compared_when : (place target : ℕ) (st : List Held) (s : Shared) (q : Messages) (i : Instr) (k : Comparison) (x y : ℤ) (b : Bool) →
      slice_get code place ≡ Some i → action_of os i ≡ Some (IfBoth k target) → length st + 1 ≤ max_stack p m → compares k x y ≡ b →
      Holds inputs q me s.events → W target (place + 1) st (A place (two st (held.Int x) (held.Int y)) s q) b s
  compared_when place target st s q i k x y true at is room e holds =
      jumped place target (two st (held.Int x) (held.Int y)) st s q (compare_goes place target st s q i k x y true at is room e) holds
  compared_when place target st s q i k x y false at is room e holds =
      arrived place (place + 1) (two st (held.Int x) (held.Int y)) st s q (compare_goes place target st s q i k x y false at is room e)
      holds

  abbrev pub LastUnless : (Value → Value → Run Shared Value) → ((target : ℕ) → Instr) → (t u : CoreType) → Type 0
  LastUnless f i t u = (target place : ℕ) (st : List Held) (y : World) (v z : Value) (s : Shared) (q : Messages) →
      slice_get code place ≡ Some (i target) → Fits p y v t → Fits p y z u → length st + 1 ≤ max_stack p m → Holds inputs q me s.events →
      F (U target (place + 1) st) (A place (two st (flat v) (flat z)) s q) ((f v z >>= truth) s)

  abbrev pub LastWhen : (Value → Value → Run Shared Value) → ((target : ℕ) → Instr) → (t u : CoreType) → Type 0
  LastWhen f i t u = (target place : ℕ) (st : List Held) (y : World) (v z : Value) (s : Shared) (q : Messages) →
      slice_get code place ≡ Some (i target) → Fits p y v t → Fits p y z u → length st + 1 ≤ max_stack p m → Holds inputs q me s.events →
      F (W target (place + 1) st) (A place (two st (flat v) (flat z)) s q) ((f v z >>= truth) s)

  pub order_unless : (o : Op) → IsOrder o → LastUnless (applied (operator_of o)) (if_icmp (opposite o)) types.Int types.Int
  order_unless ops.Lt i target place st y v u s q at (worlds.int {z = x}) (worlds.int {z = z}) room holds =
      compared_unless place target st s q (if_icmp ops.Ge target) actions.AtLeast x z (int_lt x z) at refl room refl holds
  order_unless ops.Le i target place st y v u s q at (worlds.int {z = x}) (worlds.int {z = z}) room holds =
      compared_unless place target st s q (if_icmp ops.Gt target) actions.Greater x z (int_le x z) at refl room (lt_not_le z x) holds
  order_unless ops.Gt i target place st y v u s q at (worlds.int {z = x}) (worlds.int {z = z}) room holds =
      compared_unless place target st s q (if_icmp ops.Le target) actions.AtMost x z (int_lt z x) at refl room refl holds
  order_unless ops.Ge i target place st y v u s q at (worlds.int {z = x}) (worlds.int {z = z}) room holds =
      compared_unless place target st s q (if_icmp ops.Lt target) actions.Less x z (int_le z x) at refl room (lt_not_le x z) holds
  order_unless ops.Or i target place st y v u s q at fv fu room holds = absurd i
  order_unless ops.And i target place st y v u s q at fv fu room holds = absurd i
  order_unless ops.Eq i target place st y v u s q at fv fu room holds = absurd i
  order_unless ops.Ne i target place st y v u s q at fv fu room holds = absurd i
  order_unless ops.Add i target place st y v u s q at fv fu room holds = absurd i
  order_unless ops.Sub i target place st y v u s q at fv fu room holds = absurd i
  order_unless ops.Mul i target place st y v u s q at fv fu room holds = absurd i
  order_unless ops.Div i target place st y v u s q at fv fu room holds = absurd i
  order_unless ops.Rem i target place st y v u s q at fv fu room holds = absurd i

  pub order_when : (o : Op) → IsOrder o → LastWhen (applied (operator_of o)) (if_icmp o) types.Int types.Int
  order_when ops.Lt i target place st y v u s q at (worlds.int {z = x}) (worlds.int {z = z}) room holds =
      compared_when place target st s q (if_icmp ops.Lt target) actions.Less x z (int_lt x z) at refl room refl holds
  order_when ops.Le i target place st y v u s q at (worlds.int {z = x}) (worlds.int {z = z}) room holds =
      compared_when place target st s q (if_icmp ops.Le target) actions.AtMost x z (int_le x z) at refl room (sym (le_not_lt x z)) holds
  order_when ops.Gt i target place st y v u s q at (worlds.int {z = x}) (worlds.int {z = z}) room holds =
      compared_when place target st s q (if_icmp ops.Gt target) actions.Greater x z (int_lt z x) at refl room refl holds
  order_when ops.Ge i target place st y v u s q at (worlds.int {z = x}) (worlds.int {z = z}) room holds =
      compared_when place target st s q (if_icmp ops.Ge target) actions.AtLeast x z (int_le z x) at refl room (sym (le_not_lt z x)) holds
  order_when ops.Or i target place st y v u s q at fv fu room holds = absurd i
  order_when ops.And i target place st y v u s q at fv fu room holds = absurd i
  order_when ops.Eq i target place st y v u s q at fv fu room holds = absurd i
  order_when ops.Ne i target place st y v u s q at fv fu room holds = absurd i
  order_when ops.Add i target place st y v u s q at fv fu room holds = absurd i
  order_when ops.Sub i target place st y v u s q at fv fu room holds = absurd i
  order_when ops.Mul i target place st y v u s q at fv fu room holds = absurd i
  order_when ops.Div i target place st y v u s q at fv fu room holds = absurd i
  order_when ops.Rem i target place st y v u s q at fv fu room holds = absurd i

  same_unless : (place target : ℕ) (st : List Held) (s : Shared) (q : Messages) (i : Instr) (k : Comparison) (v z : Value) (ints :
      SameInts v z) (b : Bool) →
      slice_get code place ≡ Some i → action_of os i ≡ Some (IfBoth k target) → length st + 1 ≤ max_stack p m →
      compares k ints.left ints.right ≡ not b → Holds inputs q me s.events →
      U target (place + 1) st (A place (two st (flat v) (flat z)) s q) b s
  same_unless place target st s q i k v z ints b at is room e holds =
      subst (λ x. U target (place + 1) st (A place (two st x (flat z)) s q) b s) (sym ints.left_is)
      (subst (λ y. U target (place + 1) st (A place (two st (held.Int ints.left) y) s q) b s) (sym ints.right_is)
      (compared_unless place target st s q i k ints.left ints.right b at is room e holds))

  same_when : (place target : ℕ) (st : List Held) (s : Shared) (q : Messages) (i : Instr) (k : Comparison) (v z : Value) (ints : SameInts
      v z) (b : Bool) →
      slice_get code place ≡ Some i → action_of os i ≡ Some (IfBoth k target) → length st + 1 ≤ max_stack p m →
      compares k ints.left ints.right ≡ b → Holds inputs q me s.events →
      W target (place + 1) st (A place (two st (flat v) (flat z)) s q) b s
  same_when place target st s q i k v z ints b at is room e holds =
      subst (λ x. W target (place + 1) st (A place (two st x (flat z)) s q) b s) (sym ints.left_is)
      (subst (λ y. W target (place + 1) st (A place (two st (held.Int ints.left) y) s q) b s) (sym ints.right_is)
      (compared_when place target st s q i k ints.left ints.right b at is room e holds))

  pub equal_unless : (t : CoreType) → IsCompared t → LastUnless (applied Equal) (if_icmp (opposite ops.Eq)) t t
  equal_unless t i target place st y v z s q at fv fz room holds =
      let ints : SameInts v z = same_ints p y v z t i fv fz in
      subst (λ o. F (U target (place + 1) st) (A place (two st (flat v) (flat z)) s q) (and_then (and_then o (λ b. give (values.Truth
      b))) truth))
      (sym (ints.is s)) (same_unless place target st s q (if_icmp ops.Ne target) actions.Unequal v z ints (int_same ints.left ints.right)
      at refl room
      refl holds)

  pub equal_when : (t : CoreType) → IsCompared t → LastWhen (applied Equal) (if_icmp ops.Eq) t t
  equal_when t i target place st y v z s q at fv fz room holds =
      let ints : SameInts v z = same_ints p y v z t i fv fz in
      subst (λ o. F (W target (place + 1) st) (A place (two st (flat v) (flat z)) s q) (and_then (and_then o (λ b. give (values.Truth
      b))) truth))
      (sym (ints.is s)) (same_when place target st s q (if_icmp ops.Eq target) actions.Equal v z ints (int_same ints.left ints.right) at
      refl room
      refl holds)

  pub unequal_unless : (t : CoreType) → IsCompared t → LastUnless (applied Unequal) (if_icmp (opposite ops.Ne)) t t
  unequal_unless t i target place st y v z s q at fv fz room holds =
      let ints : SameInts v z = same_ints p y v z t i fv fz in
      subst (λ o. F (U target (place + 1) st) (A place (two st (flat v) (flat z)) s q) (and_then (and_then o (λ b. give (values.Truth
      (not b)))) truth))
      (sym (ints.is s)) (same_unless place target st s q (if_icmp ops.Eq target) actions.Equal v z ints (not (int_same ints.left
      ints.right)) at refl room
      (sym (not_not (int_same ints.left ints.right))) holds)

  pub unequal_when : (t : CoreType) → IsCompared t → LastWhen (applied Unequal) (if_icmp ops.Ne) t t
  unequal_when t i target place st y v z s q at fv fz room holds =
      let ints : SameInts v z = same_ints p y v z t i fv fz in
      subst (λ o. F (W target (place + 1) st) (A place (two st (flat v) (flat z)) s q) (and_then (and_then o (λ b. give (values.Truth
      (not b)))) truth))
      (sym (ints.is s)) (same_when place target st s q (if_icmp ops.Ne target) actions.Unequal v z ints (not (int_same ints.left
      ints.right)) at refl room
      refl holds)

  -- texts
  pub equals_last : Last equal_texts (invokevirtual equals_reference) types.Text types.Text
  equals_last place st y v u s q at (worlds.text {t = a}) (worlds.text {t = b}) room holds =
      arrived place (place + 1) (two st (held.Text a) (held.Text b)) (st ++ _ ∷ []) s q
      (goes p ok os program inputs me r m code runs n place (two st (held.Text a) (held.Text b)) ls s q (place + 1) (st ++ _ ∷ [])
      (step_takes p os program me r m code runs place (two st (held.Text a) (held.Text b)) ls s q (invokevirtual equals_reference) (Use
      built.Equals) at refl
      st (held.Text a ∷ held.Text b ∷ []) _ 1 (append_assoc st (held.Text a ∷ []) (held.Text b ∷ [])) refl (refl, (refl, tt)) room)) holds

  pub concat_last : Last joined_texts (invokevirtual concat_reference) types.Text types.Text
  concat_last place st y v u s q at (worlds.text {t = a}) (worlds.text {t = b}) room holds =
      arrived place (place + 1) (two st (held.Text a) (held.Text b)) (st ++ held.Text (a ++ b) ∷ []) s q
      (goes p ok os program inputs me r m code runs n place (two st (held.Text a) (held.Text b)) ls s q (place + 1) (st ++ held.Text (a
      ++ b) ∷ [])
      (step_takes p os program me r m code runs place (two st (held.Text a) (held.Text b)) ls s q (invokevirtual concat_reference) (Use
      built.Concat) at refl
      st (held.Text a ∷ held.Text b ∷ []) (text ∷ text ∷ []) 1 (append_assoc st (held.Text a ∷ []) (held.Text b ∷ [])) refl (
        refl,
        (
          refl,
          tt,
        ),
      ) room)) holds

  null_goes : (wanted : Bool) (place target : ℕ) (st : List Held) (s : Shared) (q : Messages) (i : Instr) →
      slice_get code place ≡ Some i → action_of os i ≡ Some (IfNull wanted target) → length st ≤ max_stack p m →
      Leads (step program me) (A place (st ++ held.Null ∷ []) s q) (A (if wanted then target else place + 1) st s q)
  null_goes true place target st s q i at is room = goes p ok os program inputs me r m code runs n place (st ++ held.Null ∷ []) ls s q
      target st
      (step_takes p os program me r m code runs place (st ++ held.Null ∷ []) ls s q i (IfNull true target) at is st (held.Null ∷ [])
      (Sorted Reference ∷ []) 0 refl refl (refl, tt) (omega (arith, room)))
  null_goes false place target st s q i at is room = goes p ok os program inputs me r m code runs n place (st ++ held.Null ∷ []) ls s q
      (place + 1) st
      (step_takes p os program me r m code runs place (st ++ held.Null ∷ []) ls s q i (IfNull false target) at is st (held.Null ∷ [])
      (Sorted Reference ∷ []) 0 refl refl (refl, tt) (omega (arith, room)))

  object_goes : (wanted : Bool) (place target k : ℕ) (st : List Held) (s : Shared) (q : Messages) (i : Instr) →
      slice_get code place ≡ Some i → action_of os i ≡ Some (IfNull wanted target) → length st ≤ max_stack p m →
      Leads (step program me) (A place (st ++ held.Object k ∷ []) s q) (A (if wanted then place + 1 else target) st s q)
  object_goes true place target k st s q i at is room = goes p ok os program inputs me r m code runs n place (st ++ held.Object k ∷ []) ls s
      q
      (place + 1) st
      (step_takes p os program me r m code runs place (st ++ held.Object k ∷ []) ls s q i (IfNull true target) at is st (held.Object k ∷ [])
      (Sorted Reference ∷ []) 0 refl refl (refl, tt) (omega (arith, room)))
  object_goes false place target k st s q i at is room = goes p ok os program inputs me r m code runs n place (st ++ held.Object k ∷ []) ls
      s q
      target st
      (step_takes p os program me r m code runs place (st ++ held.Object k ∷ []) ls s q i (IfNull false target) at is st
      (held.Object k ∷ [])
      (Sorted Reference ∷ []) 0 refl refl (refl, tt) (omega (arith, room)))

  passes : (mid to : ℕ) (st : List Held) (v : Held) (c : Moment) (s : Shared) →
      (h : Arrives p program inputs me r mid (st ++ v ∷ []) ls c s) → to ≡ suc mid →
      Leads (step program me) (A mid (st ++ v ∷ []) s h.messages) (A (mid + 1) st s h.messages) → Arrives p program inputs me r to st ls c s
  passes mid to st v c s h e lead =
      next_place p ok os program inputs me r m code runs n (λ k. Arrives p program inputs me r k st ls c s) mid to e (record {
        messages = h.messages;
        comes = comes_on (step program me) c (A mid (st ++ v ∷ []) s h.messages) (A (mid + 1) st s h.messages) h.comes lead.comes;
        holds = h.holds;
      })

  leaps : (mid target : ℕ) (st : List Held) (v : Held) (c : Moment) (s : Shared) →
      (h : Arrives p program inputs me r mid (st ++ v ∷ []) ls c s) →
      Leads (step program me) (A mid (st ++ v ∷ []) s h.messages) (A target st s h.messages) → Jumps p program inputs me r target st ls c s
  leaps mid target st v c s h lead = record {
    messages = h.messages;
    leads = comes_lead (step program me) c (A mid (st ++ v ∷ []) s h.messages) (A target st s h.messages) h.comes lead;
    holds = h.holds;
  }

  -- the jump where the test fails is taken at null where `yes` is false
  null_unless : (t : Bool) (target mid to : ℕ) (st : List Held) (c : Moment) (i : Instr) → slice_get code mid ≡ Some i →
      action_of os i ≡ Some (IfNull (not t) target) → to ≡ suc mid → length st ≤ max_stack p m → (v : Value) (s : Shared) →
      V mid st c (Some v) s → F (U target to st) c (null_test t v s)
  null_unless true target mid to st c i at is e room values.Null s h =
      passes mid to st held.Null c s h e (null_goes false mid target st s h.messages i at is room)
  null_unless false target mid to st c i at is e room values.Null s h =
      leaps mid target st held.Null c s h (null_goes true mid target st s h.messages i at is room)
  null_unless true target mid to st c i at is e room (values.Object k) s h =
      leaps mid target st (held.Object k) c s h (object_goes false mid target k st s h.messages i at is room)
  null_unless false target mid to st c i at is e room (values.Object k) s h =
      passes mid to st (held.Object k) c s h e (object_goes true mid target k st s h.messages i at is room)
  null_unless t target mid to st c i at is e room (values.Int z) s h = tt
  null_unless t target mid to st c i at is e room (values.Truth z) s h = tt
  null_unless t target mid to st c i at is e room (values.Text z) s h = tt
  null_unless t target mid to st c i at is e room (values.Constant z y) s h = tt

  null_when : (t : Bool) (target mid to : ℕ) (st : List Held) (c : Moment) (i : Instr) → slice_get code mid ≡ Some i →
      action_of os i ≡ Some (IfNull t target) → to ≡ suc mid → length st ≤ max_stack p m → (v : Value) (s : Shared) →
      V mid st c (Some v) s → F (W target to st) c (null_test t v s)
  null_when true target mid to st c i at is e room values.Null s h =
      leaps mid target st held.Null c s h (null_goes true mid target st s h.messages i at is room)
  null_when false target mid to st c i at is e room values.Null s h =
      passes mid to st held.Null c s h e (null_goes false mid target st s h.messages i at is room)
  null_when true target mid to st c i at is e room (values.Object k) s h =
      passes mid to st (held.Object k) c s h e (object_goes true mid target k st s h.messages i at is room)
  null_when false target mid to st c i at is e room (values.Object k) s h =
      leaps mid target st (held.Object k) c s h (object_goes false mid target k st s h.messages i at is room)
  null_when t target mid to st c i at is e room (values.Int z) s h = tt
  null_when t target mid to st c i at is e room (values.Truth z) s h = tt
  null_when t target mid to st c i at is e room (values.Text z) s h = tt
  null_when t target mid to st c i at is e room (values.Constant z y) s h = tt

  -- the test of a value that an expression gives
  value_tested : (R : Moment → Bool → Shared → Type 0) (t : Bool) (mid : ℕ) (st : List Held) (c : Moment) (g : Value → Run Shared Bool) →
      ((v : Value) (s : Shared) → g v s ≡ null_test t v s) → ((v : Value) (s : Shared) → V mid st c (Some v) s → F R c (null_test t v s)) →
      (o : Outcome Shared (Option Value)) → F (V mid st) c o → F R c (and_then (and_then o found) g)
  value_tested R t mid st c g is k (Ends f es) h = h
  value_tested R t mid st c g is k (Gives None s) h = tt
  value_tested R t mid st c g is k (Gives (Some v) s) h = subst (F R c) (sym (is v s)) (k v s h)

  room_left : (st : List Held) (k : ℕ) → length st + k ≤ max_stack p m → length st ≤ max_stack p m
  room_left st k h = omega (arith, h)

  -- a comparison with `null`: two jumps
  jumps_by_null : (w : World) (t : Bool) (Un Wh : ℕ → Instr) → ((l : ℕ) → action_of os (Un l) ≡ Some (IfNull (not t) l)) →
      ((l : ℕ) → action_of os (Wh l) ≡ Some (IfNull t l)) → (G : Forms) (a e : Run Shared (Option Value)) (d : Depths)
      (g : Value → Run Shared Bool) → ((v : Value) (s : Shared) → g v s ≡ null_test t v s) →
      ((s : Shared) → tested e s ≡ and_then (and_then (a s) found) g) →
      Runs (Heap p ok) (λ w v. GivesA p w v types.Boolean) w e → Does p ok os program inputs me r m code runs n w ls G a d →
      Does p ok os program inputs me r m code runs n w ls
      (by_jumps code (λ l. G.value then one code (Un l)) (λ l. G.value then one code (Wh l))) e (depths_by_jumps d.value)
  jumps_by_null w t Un Wh un_is wh_is G a e d g is test good does = does_jumps p ok os program inputs me r m code runs n w ls
      (λ l. G.value then one code (Un l)) (λ l. G.value then one code (Wh l)) e d.value good
      (λ target from to st x s q h room grown heap holds. subst (F (U target to st) (A from st s q)) (sym (test s))
      (value_tested (U target to st) t h.0 st (A from st s q) g is
      (λ v u b. null_unless t target h.0 to st (A from st s q) (Un target) h.2.0 (un_is target) h.2.1 (room_left st d.value room) v u b)
      (a s)
      (does.value from h.0 st x s q h.1 room grown heap holds)))
      (λ target from to st x s q h room grown heap holds. subst (F (W target to st) (A from st s q)) (sym (test s))
      (value_tested (W target to st) t h.0 st (A from st s q) g is
      (λ v u b. null_when t target h.0 to st (A from st s q) (Wh target) h.2.0 (wh_is target) h.2.1 (room_left st d.value room) v u b) (a s)
      (does.value from h.0 st x s q h.1 room grown heap holds)))

  abbrev null : Run Shared (Option Value)
  null = give (Some values.Null)

  abbrev IsTruth : World → Run Shared (Option Value) → Type 0
  IsTruth w e = Runs (Heap p ok) (λ w v. GivesA p w v types.Boolean) w e

  abbrev D : World → Forms → Run Shared (Option Value) → Depths → Type 0
  D w = Does p ok os program inputs me r m code runs n w ls

  pub equals_null : (w : World) (G : Forms) (a : Run Shared (Option Value)) (d : Depths) → IsTruth w (of_both (applied Equal) a null) →
      D w G a d → D w (with_null p m code ops.Eq G.value) (of_both (applied Equal) a null) (depths_by_jumps d.value)
  equals_null w G a d good does = jumps_by_null w true ifnonnull ifnull (λ l. refl) (λ l. refl) G a (of_both (applied Equal) a null) d
      (λ v. applied Equal v values.Null >>= truth) equal_null (test_is (applied Equal) a null) good does

  pub differs_null : (w : World) (G : Forms) (a : Run Shared (Option Value)) (d : Depths) → IsTruth w (of_both (applied Unequal) a null) →
      D w G a d → D w (with_null p m code ops.Ne G.value) (of_both (applied Unequal) a null) (depths_by_jumps d.value)
  differs_null w G a d good does = jumps_by_null w false ifnull ifnonnull (λ l. refl) (λ l. refl) G a (of_both (applied Unequal) a null) d
      (λ v. applied Unequal v values.Null >>= truth) unequal_null (test_is (applied Unequal) a null) good does

  pub null_equals : (w : World) (G : Forms) (a : Run Shared (Option Value)) (d : Depths) → IsTruth w (of_both (applied Equal) null a) →
      D w G a d → D w (with_null p m code ops.Eq G.value) (of_both (applied Equal) null a) (depths_by_jumps d.value)
  null_equals w G a d good does = jumps_by_null w true ifnonnull ifnull (λ l. refl) (λ l. refl) G a (of_both (applied Equal) null a) d
      (λ v. applied Equal values.Null v >>= truth) null_equal (test_is (applied Equal) null a) good does

  pub null_differs : (w : World) (G : Forms) (a : Run Shared (Option Value)) (d : Depths) → IsTruth w (of_both (applied Unequal) null a) →
      D w G a d → D w (with_null p m code ops.Ne G.value) (of_both (applied Unequal) null a) (depths_by_jumps d.value)
  null_differs w G a d good does = jumps_by_null w false ifnull ifnonnull (λ l. refl) (λ l. refl) G a (of_both (applied Unequal) null a) d
      (λ v. applied Unequal values.Null v >>= truth) null_unequal (test_is (applied Unequal) null a) good does
