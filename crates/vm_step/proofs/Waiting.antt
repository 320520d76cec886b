-- What looks at no message waits for none.
use Rattle.std.proofs.Common.{◌≡◌, ℕ, ℤ, Bool, true, false, List, [], ◌∷◌, ◌++◌, slice_get, Option, Some, None, refl}
use Rattle.mg_text.specs.Call.{Name}
use Rattle.mg_text.specs.declared.event.BadKind.{BadKind}
use Rattle.mg_text.specs.declared.event.BadKind.TheVariants as bad
use Rattle.mg_text.specs.declared.event.Sent.{Sent}
use Rattle.mg_text.specs.declared.event.Carried.{Carried}
use Rattle.vm_model.specs.declared.value.Value.{Value}
use Rattle.vm_model.specs.declared.value.Value.TheVariants as values
use Rattle.vm_model.specs.declared.linked.Built.{Built as BuiltIn}
use Rattle.vm_model.specs.declared.linked.Built.TheVariants as built
use Rattle.vm_model.specs.Program.{Program}
use Rattle.vm_model.specs.Messages.{Messages, role_named}
use Rattle.vm_model.specs.Machine.{Machine, Object, Frame}
use Rattle.vm_model.specs.Arithmetic.{computed}
use Rattle.vm_model.specs.Actions.{Operation, Comparison, Calling, Telling, Silent, Static, Action, Push, Load, Store, Pop, Double, Swap}
use Rattle.vm_model.specs.Actions.{Compute, Negate, Increase, IfZero, IfBoth, IfNull, Go, Switch, Return, Read, Write, Make, Call, Use}
use Rattle.vm_model.specs.Tests.{needs, wrong, below, on_top}
use Rattle.vm_model.specs.Step as model
use Rattle.vm_step.specs.Doing.{waits_in}

-- the members that look at messages
abbrev pub looks : BuiltIn → Bool
looks built.Look = true
looks built.Take = true
looks built.TakeInt = true
looks built.TakeTruth = true
looks built.TakeText = true
looks _ = false

abbrev pub looks_at_messages : Action → Bool
looks_at_messages (Use b) = looks b
looks_at_messages _ = false

module _ (q : Messages) (m : Machine) (rest : List Value) where
  pushed : (o : Option (Option Value)) → waits_in (model.pushed q m rest o) ≡ None
  pushed None = refl
  pushed (Some None) = refl
  pushed (Some (Some v)) = refl

  increased : (local : ℕ) (by : ℤ) (o : Option (Option Value)) → waits_in (model.increased q m rest local by o) ≡ None
  increased local by None = refl
  increased local by (Some None) = refl
  increased local by (Some (Some (values.Int x))) = refl
  increased local by (Some (Some _)) = refl

  stored : (local : ℕ) (vs : List Value) → waits_in (model.stored q m local rest vs) ≡ None
  stored local [] = refl
  stored local (v ∷ []) = refl
  stored local (v ∷ w ∷ vs) = refl

  popped : (vs : List Value) → waits_in (model.popped q m rest vs) ≡ None
  popped [] = refl
  popped (v ∷ []) = refl
  popped (v ∷ w ∷ vs) = refl

  doubled : (vs : List Value) → waits_in (model.doubled q m rest vs) ≡ None
  doubled [] = refl
  doubled (v ∷ []) = refl
  doubled (v ∷ w ∷ vs) = refl

  swapped : (vs : List Value) → waits_in (model.swapped q m rest vs) ≡ None
  swapped [] = refl
  swapped (v ∷ []) = refl
  swapped (v ∷ w ∷ []) = refl
  swapped (v ∷ w ∷ u ∷ vs) = refl

  computed_to : (o : Option ℤ) → waits_in (model.computed_to q m rest o) ≡ None
  computed_to None = refl
  computed_to (Some z) = refl

  computes : (operation : Operation) (vs : List Value) → waits_in (model.computes q m operation rest vs) ≡ None
  computes operation (values.Int x ∷ values.Int y ∷ []) = computed_to (computed operation x y)
  computes operation _ = refl

  negates : (vs : List Value) → waits_in (model.negates q m rest vs) ≡ None
  negates (values.Int x ∷ []) = refl
  negates _ = refl

  on_zero : (comparison : Comparison) (target : ℕ) (vs : List Value) → waits_in (model.on_zero q m comparison target rest vs) ≡ None
  on_zero comparison target (values.Int x ∷ []) = refl
  on_zero comparison target _ = refl

  on_both : (comparison : Comparison) (target : ℕ) (vs : List Value) → waits_in (model.on_both q m comparison target rest vs) ≡ None
  on_both comparison target (values.Int x ∷ values.Int y ∷ []) = refl
  on_both comparison target _ = refl

  on_null : (wanted : Bool) (target : ℕ) (vs : List Value) → waits_in (model.on_null q m wanted target rest vs) ≡ None
  on_null wanted target [] = refl
  on_null wanted target (v ∷ []) = refl
  on_null wanted target (v ∷ w ∷ vs) = refl

  switches : (default : ℕ) (low : ℤ) (targets : List ℕ) (vs : List Value) → waits_in (model.switches q m default low targets rest vs) ≡ None
  switches default low targets (values.Int x ∷ []) = refl
  switches default low targets _ = refl

  returns : (vs : List Value) (fs : List Frame) → waits_in (model.returns q m vs fs) ≡ None
  returns vs [] = refl
  returns vs (f ∷ fs) = refl

  field_read : (o : Option Value) → waits_in (elim o [
    | None ↦ model.broken bad.Member
    | Some v ↦ model.goes q
        (model.next m (rest ++ v ∷ []))
  ]) ≡ None
  field_read None = refl
  field_read (Some v) = refl

  reads_object : (field : ℕ) (o : Option Object) → waits_in (model.reads_object q m rest field o) ≡ None
  reads_object field None = refl
  reads_object field (Some o) = field_read (slice_get o.fields field)

  reads : (field : ℕ) (vs : List Value) → waits_in (model.reads q m field rest vs) ≡ None
  reads field (values.Object n ∷ []) = reads_object field (slice_get m.heap n)
  reads field (values.Null ∷ []) = refl
  reads field _ = refl

  writes_object : (n field : ℕ) (v : Value) (o : Option Object) → waits_in (model.writes_object q m rest n field v o) ≡ None
  writes_object n field v None = refl
  writes_object n field v (Some o) = refl

  writes : (field : ℕ) (vs : List Value) → waits_in (model.writes q m field rest vs) ≡ None
  writes field (values.Object n ∷ v ∷ []) = writes_object n field v (slice_get m.heap n)
  writes field (values.Null ∷ v ∷ []) = refl
  writes field _ = refl

  calls : (p : Program) (calling : Calling) (class method : ℕ) (vs : List Value) → waits_in
      (model.calls p q m calling class method rest vs) ≡ None
  calls p Static class method vs = refl
  calls p Telling class method [] = refl
  calls p Telling class method (values.Null ∷ vs) = refl
  calls p Telling class method (values.Object n ∷ vs) = refl
  calls p Telling class method (v ∷ vs) = refl
  calls p Silent class method [] = refl
  calls p Silent class method (values.Null ∷ vs) = refl
  calls p Silent class method (values.Object n ∷ vs) = refl
  calls p Silent class method (v ∷ vs) = refl

  inits : (vs : List Value) → waits_in (model.inits q m rest vs) ≡ None
  inits (values.Null ∷ []) = refl
  inits (v ∷ []) = refl
  inits _ = refl

  joins : (vs : List Value) → waits_in (model.joins q m rest vs) ≡ None
  joins (values.Text a ∷ values.Text b ∷ []) = refl
  joins (v ∷ w ∷ []) = refl
  joins _ = refl

  equals : (vs : List Value) → waits_in (model.equals q m rest vs) ≡ None
  equals (values.Text a ∷ v ∷ []) = refl
  equals (v ∷ w ∷ []) = refl
  equals _ = refl

  shows_int : (vs : List Value) → waits_in (model.shows_int q m rest vs) ≡ None
  shows_int (values.Int x ∷ []) = refl
  shows_int _ = refl

  shows_truth : (vs : List Value) → waits_in (model.shows_truth q m rest vs) ≡ None
  shows_truth (values.Int x ∷ []) = refl
  shows_truth _ = refl

  prints : (vs : List Value) → waits_in (model.prints q m rest vs) ≡ None
  prints (values.Out ∷ v ∷ []) = refl
  prints (v ∷ w ∷ []) = refl
  prints _ = refl

  module _ (me : ℕ) where
    sends_to : (peer : Name) (message : Sent) (o : Option ℕ) → waits_in (model.sends_to q m me rest peer message o) ≡ None
    sends_to peer message None = refl
    sends_to peer message (Some to) = refl

    sends : (peer label : Name) (payload : Carried) → waits_in (model.sends q m me rest peer label payload) ≡ None
    sends peer label payload = sends_to peer (record { label = label; payload = payload }) (model.other_role me (role_named q peer))

    sends_args : (payload : model.Payload) (vs : List Value) → waits_in (model.sends_args q m me payload rest vs) ≡ None
    sends_args model.NoPayload (values.Text peer ∷ values.Text label ∷ []) = sends peer label _
    sends_args model.NoPayload _ = refl
    sends_args model.IntPayload (values.Text peer ∷ values.Text label ∷ values.Int x ∷ []) = sends peer label _
    sends_args model.IntPayload _ = refl
    sends_args model.TruthPayload (values.Text peer ∷ values.Text label ∷ values.Int x ∷ []) = sends peer label _
    sends_args model.TruthPayload _ = refl
    sends_args model.TextPayload (values.Text peer ∷ values.Text label ∷ values.Text text ∷ []) = sends peer label _
    sends_args model.TextPayload _ = refl

    refuses_from : (peer found : Name) (o : Option ℕ) → waits_in (model.refuses_from peer found o) ≡ None
    refuses_from peer found None = refl
    refuses_from peer found (Some from) = refl

    refuses : (vs : List Value) → waits_in (model.refuses q me vs) ≡ None
    refuses (values.Text peer ∷ values.Text found ∷ []) = refuses_from peer found (model.other_role me (role_named q peer))
    refuses _ = refl

    uses : (b : BuiltIn) (vs : List Value) → looks b ≡ false → waits_in (model.uses q m me rest vs b) ≡ None
    uses built.Init vs h = inits vs
    uses built.Concat vs h = joins vs
    uses built.Equals vs h = equals vs
    uses built.ValueOfInt vs h = shows_int vs
    uses built.ValueOfTruth vs h = shows_truth vs
    uses built.Out vs h = refl
    uses built.Println vs h = prints vs
    uses built.Send vs h = sends_args model.NoPayload vs
    uses built.SendInt vs h = sends_args model.IntPayload vs
    uses built.SendTruth vs h = sends_args model.TruthPayload vs
    uses built.SendText vs h = sends_args model.TextPayload vs
    uses built.Refuse vs h = refuses vs
    uses built.Look vs h = absurd (cc h)
    uses built.Take vs h = absurd (cc h)
    uses built.TakeInt vs h = absurd (cc h)
    uses built.TakeTruth vs h = absurd (cc h)
    uses built.TakeText vs h = absurd (cc h)

    acts : (p : Program) (vs : List Value) (a : Action) → looks_at_messages a ≡ false → waits_in (model.acts p q m me rest vs a) ≡ None
    acts p vs (Push v) h = refl
    acts p vs (Load sort local) h = pushed (slice_get m.frame.locals local)
    acts p vs (Store sort local) h = stored local vs
    acts p vs Pop h = popped vs
    acts p vs Double h = doubled vs
    acts p vs Swap h = swapped vs
    acts p vs (Compute operation) h = computes operation vs
    acts p vs Negate h = negates vs
    acts p vs (Increase local by) h = increased local by (slice_get m.frame.locals local)
    acts p vs (IfZero comparison target) h = on_zero comparison target vs
    acts p vs (IfBoth comparison target) h = on_both comparison target vs
    acts p vs (IfNull wanted target) h = on_null wanted target vs
    acts p vs (Go target) h = refl
    acts p vs (Switch default low targets) h = switches default low targets vs
    acts p vs (Return sort) h = returns vs m.callers
    acts p vs (Read class field) h = reads field vs
    acts p vs (Write class field) h = writes field vs
    acts p vs (Make class) h = refl
    acts p vs (Call calling class method) h = calls p calling class method vs
    acts p vs (Use b) h = uses b vs h

module _ (p : Program) (q : Messages) (m : Machine) (me : ℕ) where
  tested : (a : Action) (n : ℕ) (o : Option BadKind) → looks_at_messages a ≡ false → waits_in (model.tested p q m me a n o) ≡ None
  tested a n (Some _) h = refl
  tested a n None h = acts q m (below n m.frame.operands) me p (on_top n m.frame.operands) a h

  -- an action that looks at no message
  pub rests : (a : Action) → looks_at_messages a ≡ false → waits_in (model.act p q m me a) ≡ None
  unfolding model.act
  rests a h = tested a _ (wrong p (needs p m a) m) h
