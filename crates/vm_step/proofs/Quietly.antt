-- Fields, calls, returns and `equals` where nothing is wrong with them and they tell nothing.
use Rattle.std.proofs.Common.{◌≡◌, ℕ, ◌+◌, ◌-◌, ◌<◌, ◌≤◌, Bool, true, false, List, [], ◌∷◌, ◌++◌, length, map, drop, get_or, set}
use Rattle.std.proofs.Common.{slice_get}
use Rattle.std.proofs.Common.{Option, Some, None, refl, sym, ap, ◌∙◌, subst, arith, add-one}
use Rattle.std.specs.Prelude.{option_map, ◌||◌, codes}
use Rattle.std.specs.Bool.{OnTrue, OnFalse}
use Rattle.std.specs.Prelude.{if◌then◌else◌}
use Rattle.std.specs.Str.{bytes_eq}
use Rattle.std.proofs.lemmas.List.{drop_more, length-map}
use Rattle.std.proofs.lemmas.Slice.Eq.{bytes_eq-Decides}
use Rattle.std.proofs.lemmas.Option.{slice_get_within, get_or_from_slice_get}
use Rattle.mg_text.specs.declared.event.BadKind.{BadKind}
use Rattle.vm_model.specs.declared.value.Value.{Value}
use Rattle.vm_model.specs.declared.value.Value.TheVariants as values
use Rattle.vm_model.specs.Program.{Program, MethodOf, Instr, class_name, field_at, method_at}
use Rattle.vm_model.specs.Machine as model
use Rattle.vm_model.specs.Machine.{Machine, Frame, Went}
use Rattle.vm_model.specs.Types.{FieldType, Named, signature_of}
use Rattle.vm_model.specs.Kept.{kept_params, type_kept}
use Rattle.vm_model.specs.declared.linked_type.LinkedType.{LinkedType}
use Rattle.vm_model.proofs.KeptTypes.{params_are}
use Rattle.vm_model.specs.declared.linked.Built.TheVariants as built
use Rattle.vm_model.specs.Actions.{Action, action, Sort, Reference, Read, Write, Call, Return, Use, Static, Silent}
use Rattle.vm_model.specs.Tests.{Want, Typed, Returned, needs, wrong, taking, returning, returned, call_needs, call_takes, below, on_top}
use Rattle.vm_model.specs.Tests.{misfit, misfits, misfit_class, misfit_type, misfit_sort, first_of, some_of, is_kind, is_member, is_sort}
use Rattle.vm_model.specs.Tests.{type_in, text}
use Rattle.vm_model.specs.Tests.{object_name, params_in, descriptor_in, result_in, max_stack_in, max_locals_in, method_of_frame}
use Rattle.vm_model.specs.Step.{act_at, act_some, calls, calls_in, code_in, left, next, same_text, truth}
use Rattle.vm_frames.specs.Frames.{entered, left_to, IsNearest}
use Rattle.vm_step.specs.Alone.{Quiet, Alone, Stays, Runs, Leads, LeadsAlone, Keeps, AllAlone}
use Rattle.vm_session.specs.inner.Tops.{at_top, text_in}
use Rattle.vm_step.specs.inner.Builts.{equals_by}
use Rattle.vm_step.specs.inner.Objects.{field_in, reads_at, reads_by}
use Rattle.vm_step.specs.inner.Calls.{Awaits}
use Rattle.vm_step.proofs.Acts.{on_top_next}
use Rattle.vm_step.proofs.Calling.{calls_is, returns_is}
use Rattle.vm_step.proofs.Frames.{writes_is}
use Rattle.vm_step.proofs.Ready.{nothing_wrong, top_one, top_two, some_is}
use Rattle.vm_step.proofs.Whole.{equals_is, read_is, write_is, call_is, return_none_is, return_some_is}

-- an object of the class of a name is one of that name
name_is : (p : Program) (o : Option model.Object) (class : ℕ) → option_map (λ o. o.class) o ≡ Some class →
    object_name p o ≡ class_name p class
name_is p None class e = absurd (cc e)
name_is p (Some o) class e = ap (class_name p) (some_is o.class class e)

or_true : (b : Bool) → (b || true) ≡ true
or_true true = refl
or_true false = refl

of_class : (p : Program) (heap : List model.Object) (class n : ℕ) → option_map (λ o. o.class) (slice_get heap n) ≡ Some class →
    misfit_class p heap (class_name p class) (values.Object n) ≡ None
of_class p heap class n e =
    let same : bytes_eq (class_name p class) (object_name p (slice_get heap n)) ≡ true =
    (bytes_eq-Decides (class_name p class) (object_name p (slice_get heap n))).1 (sym (name_is p (slice_get heap n) class e)) in
    rw (same, or_true) refl

pub has_class : (o : Option model.Object) (class : ℕ) → option_map (λ o. o.class) o ≡ Some class → (k : model.Object) × (o ≡ Some k)
has_class None class e = absurd (cc e)
has_class (Some o) class e = (o, refl)

text_is : (o : Option Value) (t : List ℕ) → Some t ≡ text_in o → o ≡ Some (values.Text t)
text_is (Some (values.Text u)) t e = cc
text_is (Some (values.Int x)) t e = absurd (cc e)
text_is (Some values.Null) t e = absurd (cc e)
text_is (Some values.Out) t e = absurd (cc e)
text_is (Some (values.Object n)) t e = absurd (cc e)
text_is None t e = absurd (cc e)

-- each value that is no int may be compared with a text
any_object : (p : Program) (heap : List model.Object) (w : Value) → misfit_sort Reference w ≡ None →
    misfit_class p heap (codes "java/lang/Object") w ≡ None
any_object p heap (values.Int x) e = absurd (cc e)
any_object p heap (values.Text u) e = refl
any_object p heap values.Null e = refl
any_object p heap values.Out e = refl
any_object p heap (values.Object n) e = refl

-- one operand more is looked at, and nothing is wrong with it
pub one_less : {A : Type 0} (g : A → FieldType) (p : Program) (heap : List model.Object) (test : Option BadKind → Bool) (xs : List A)
    (vs : List Value) (at : ℕ) (x : A) (v : Value) → at < length xs → get_or xs at x ≡ x → slice_get vs at ≡ Some v →
    misfit_type p heap (g x) v ≡ None → test None ≡ false →
    some_of test (misfits p heap (map Typed (map g (drop (at + 1) xs))) (drop (at + 1) vs)) ≡ some_of test
    (misfits p heap (map Typed (map g (drop at xs))) (drop at vs))
one_less g p heap test xs vs at x v lt is found fits none =
    let taken : drop at xs ≡ x ∷ drop (at + 1) xs = drop_more xs at x lt ∙ ap (λ y. y ∷ drop (at + 1) xs) is in
    let operand : drop at vs ≡ v ∷ drop (at + 1) vs =
    drop_more vs at v (slice_get_within vs at v found) ∙ ap (λ y. y ∷ drop (at + 1) vs) (get_or_from_slice_get vs at v v found) in
    sym (ap (λ l. some_of test (misfits p heap (map Typed (map g l)) (drop at vs))) taken
    ∙ ap (λ l. some_of test (misfits p heap (map Typed (map g (x ∷ drop (at + 1) xs))) l)) operand
    ∙ ap (λ o. test o || some_of test (misfits p heap (map Typed (map g (drop (at + 1) xs))) (drop (at + 1) vs))) fits
    ∙ ap (λ b. b || some_of test (misfits p heap (map Typed (map g (drop (at + 1) xs))) (drop (at + 1) vs))) none)

-- a frame that waits, and may have so many operands more
pub near_room : (p : Program) (class method operands given : ℕ) (found : MethodOf) (fs : List Frame) →
    IsNearest class method operands fs → Some found ≡ method_at p class method → operands + given ≤ found.max_stack →
    Awaits p given found fs
near_room p class method operands given found [] near is le = absurd near
near_room p class method operands given found (f ∷ fs) near is le =
    (is ∙ (λ i. method_at p (near.0 i) (near.1 i)), omega (arith, near.2, le))

-- the types of what a method takes, as they are kept
pub params_kept : (o : Option MethodOf) (m : MethodOf) (kept params : List LinkedType) → Some m ≡ o →
    kept ≡ kept_params (signature_of m.descriptor) → params ≡ kept → params_in (signature_of (descriptor_in o)) ≡ map type_kept params
params_kept o m kept params e takes is =
    ap (λ (o : Option MethodOf). params_in (signature_of (descriptor_in o))) (sym e)
    ∙ sym (params_are kept (signature_of m.descriptor) takes) ∙ ap (map type_kept) (sym is)

-- it is left to
pub left_so : (p : Program) (given : ℕ) (found : MethodOf) (fs : List Frame) {R : Type 0} (S : Type 0) (b : Bool) →
    Awaits p given found fs → OnTrue b R → OnFalse b ((fs ≡ []) × S) → R
left_so p given found fs S true awaits h k = h
left_so p given found fs S false awaits h k = absurd (subst (Awaits p given found) k.0 awaits)

pub left_runs : (p : Program) (m new : Machine) (vs : List Value) (given : ℕ) (found : MethodOf) (fs : List Frame) →
    Awaits p given found fs → left_to m vs fs ≡ Some new → Runs p new found
left_runs p m new vs given found [] awaits is = absurd awaits
left_runs p m new vs given found (f ∷ fs) awaits is =
    awaits.0 ∙ ap (λ (n : Machine). method_of_frame p n.frame)
    (some_is (record m { frame = record f { operands = f.operands ++ vs }; callers = fs }) new is)

-- what is entered runs
pub entered_runs : (p : Program) (m new : Machine) (class method args locals : ℕ) (told : Option ℕ) (found : MethodOf) →
    Some found ≡ method_at p class method → new ≡ entered m class method args locals told → Runs p new found
entered_runs p m new class method args locals told found at is =
    at ∙ sym (ap (λ (n : Machine). method_of_frame p n.frame) is)

-- Where an action stays in the method, that runs on.
module _ (p : Program) (a : Action) (m m' : Machine) (method : MethodOf) (runs : Runs p m method) where
  pub stays_leads : (b : Bool) → Stays p a m m' b → Leads p a m m' (if b then Some method else None)
  stays_leads true h = (h.1, runs ∙ (λ i. method_at p (sym h.0.0 i) (sym h.0.1 i)))
  stays_leads false h = h

  pub alone_leads : (b : Bool) → Alone method.max_stack a m m' b → Leads p a m m' (if b then Some method else None)
  alone_leads true h = stays_leads true (h.0, h.1 p (sym (ap max_stack_in runs)))
  alone_leads false h = h

-- the next action is the next step
pub next_leads : (p : Program) (m m' : Machine) (method : MethodOf) (i : Instr) (a : Action) (o : Option MethodOf) → Runs p m method →
    slice_get method.code m.frame.place ≡ Some i → action i.op i.args ≡ Some a → Leads p a m m' o → LeadsAlone p m m' o
next_leads p m m' method i a None runs at is h = h
next_leads p m m' method i a (Some found) runs at is h = (
  λ me q.
      ap (λ x. act_at p q m me (slice_get (code_in x) m.frame.place)) (sym runs) ∙ ap (act_at p q m me) at ∙ ap (act_some p q m me) is
      ∙ h.0 me q,
  h.1,
)

-- the same of an action that stays in the method, whatever program that runs in
pub keeps_so : (m m' : Machine) (method : MethodOf) (i : Instr) (a : Action) (b : Bool) → slice_get method.code m.frame.place ≡ Some i →
    action i.op i.args ≡ Some a → Alone method.max_stack a m m' b → Keeps m m' method b
keeps_so m m' method i a b at is h p runs =
    next_leads p m m' method i a (if b then Some method else None) runs at is (alone_leads p a m m' method runs b h)

-- steps after steps
pub leads_on : (p : Program) (m n k : Machine) (taken : ℕ) (found : MethodOf) (o : Option MethodOf) → o ≡ Some found →
    AllAlone p m taken n → LeadsAlone p n k o → AllAlone p m (taken + 1) k × Runs p k found
leads_on p m n k taken found None e all h = absurd (cc e)
leads_on p m n k taken found (Some x) e all h =
    (subst (λ j. AllAlone p m j k) (sym (add-one taken)) (n, (all, h.0)), subst (Runs p k) (some_is x found e) h.1)

pub leads_no_more : (p : Program) (m n k : Machine) (taken : ℕ) (o : Option MethodOf) → o ≡ None → AllAlone p m taken n →
    LeadsAlone p n k o → AllAlone p m taken k
leads_no_more p m n k taken None e all h = subst (AllAlone p m taken) (sym h) all
leads_no_more p m n k taken (Some x) e all h = absurd (cc e)

module _ (p : Program) (m new : Machine) where
  pub quiet_read : (class field n : ℕ) (v : Value) → 1 ≤ length m.frame.operands →
      length m.frame.operands ≤ max_stack_in (method_of_frame p m.frame) → at_top m.frame.operands 0 ≡ Some (values.Object n) →
      option_map (λ o. o.class) (slice_get m.heap n) ≡ Some class → Some v ≡ field_in m.heap n field →
      new ≡ next m (below 1 m.frame.operands ++ v ∷ []) → Quiet p (Read class field) m new
  quiet_read class field n v some room top is holds made = λ me q.
      let found : (test : Option BadKind → Bool) → test None ≡ false →
      some_of test (None ∷ misfits p m.heap (Typed (Named (class_name p class)) ∷ []) (on_top 1 m.frame.operands)) ≡ false =
      λ test none. ap (λ l. some_of test (None ∷ misfits p m.heap (Typed (Named (class_name p class)) ∷ []) l))
      (top_one m.frame.operands (values.Object n) some top)
      ∙ ap (λ o. some_of test (None ∷ o ∷ [])) (of_class p m.heap class n is) ∙ (rw none refl) in
      read_is p q m me class field
      (nothing_wrong (needs p m (Read class field)) m
      (None ∷ misfits p m.heap (Typed (Named (class_name p class)) ∷ []) (on_top 1 m.frame.operands)) some (found is_kind refl)
      (omega arith)
      (found is_member refl) refl (omega arith))
      ∙ ap (reads_by q m field (below 1 m.frame.operands)) top ∙ ap (reads_at q m (below 1 m.frame.operands)) (sym holds)
      ∙ ap (λ k. Went k q None) (sym made)

  pub quiet_write : (class field n : ℕ) (w : Value) (type : FieldType) (o : model.Object) → 2 ≤ length m.frame.operands →
      length m.frame.operands - 2 ≤ max_stack_in (method_of_frame p m.frame) → at_top m.frame.operands 1 ≡ Some (values.Object n) →
      at_top m.frame.operands 0 ≡ Some w → option_map (λ o. o.class) (slice_get m.heap n) ≡ Some class → slice_get m.heap n ≡ Some o →
      type_in (field_at p class field) ≡ Typed type → misfit_type p m.heap type w ≡ None →
      new ≡ next (record m { heap = set m.heap n (record o { fields = set o.fields field w }) }) (below 2 m.frame.operands) →
      Quiet p (Write class field) m new
  quiet_write class field n w type o some room first second is object typed fits made = λ me q.
      let found : (test : Option BadKind → Bool) → test None ≡ false →
      some_of test (None ∷ misfits p m.heap (Typed (Named (class_name p class)) ∷ type_in (field_at p class field) ∷ [])
      (on_top 2 m.frame.operands)) ≡ false =
      λ test none. ap (λ l. some_of test (None ∷ misfits p m.heap
      (Typed (Named (class_name p class)) ∷ type_in (field_at p class field) ∷ []) l))
      (top_two m.frame.operands (values.Object n) w some first second)
      ∙ ap (λ t. some_of test (None ∷ misfit_class p m.heap (class_name p class) (values.Object n) ∷ misfit p m.heap t w ∷ [])) typed
      ∙ ap (λ t. some_of test (None ∷ t ∷ misfit_type p m.heap type w ∷ [])) (of_class p m.heap class n is)
      ∙ ap (λ t. some_of test (None ∷ None ∷ t ∷ [])) fits ∙ (rw none refl) in
      write_is p q m me class field
      (nothing_wrong (needs p m (Write class field)) m
      (None ∷ misfits p m.heap (Typed (Named (class_name p class)) ∷ type_in (field_at p class field) ∷ []) (on_top 2 m.frame.operands))
      some
      (found is_kind refl) (omega arith) (found is_member refl) refl (omega arith))
      ∙ writes_is q m new m.frame.operands field n w o first (sym second) object made

  pub quiet_equals : (t : List ℕ) (w : Value) → 2 ≤ length m.frame.operands →
      length m.frame.operands - 1 ≤ max_stack_in (method_of_frame p m.frame) → Some t ≡ text_in (at_top m.frame.operands 1) →
      at_top m.frame.operands 0 ≡ Some w → misfit_sort Reference w ≡ None →
      new ≡ next m (below 2 m.frame.operands ++ truth (same_text t w) ∷ []) → Quiet p (Use built.Equals) m new
  quiet_equals t w some room first second sorted made = λ me q.
      let found : (test : Option BadKind → Bool) → test None ≡ false →
      some_of test (None ∷ misfits p m.heap (text ∷ Typed (Named (codes "java/lang/Object")) ∷ []) (on_top 2 m.frame.operands))
      ≡ false =
      λ test none. ap (λ l. some_of test (None ∷ misfits p m.heap (text ∷ Typed (Named (codes "java/lang/Object")) ∷ []) l))
      (top_two m.frame.operands (values.Text t) w some (text_is (at_top m.frame.operands 1) t first) second)
      ∙ ap (λ o. some_of test (None ∷ None ∷ o ∷ [])) (any_object p m.heap w sorted) ∙ (rw none refl) in
      equals_is p q m me
      (nothing_wrong (needs p m (Use built.Equals)) m
      (None ∷ misfits p m.heap (text ∷ Typed (Named (codes "java/lang/Object")) ∷ []) (on_top 2 m.frame.operands)) some
      (found is_kind refl) (omega arith) (found is_member refl) refl (omega arith))
      ∙ ap (λ o. equals_by q m (below 2 m.frame.operands) o (at_top m.frame.operands 0)) (sym first)
      ∙ ap (equals_by q m (below 2 m.frame.operands) (Some t)) second ∙ ap (λ k. Went k q None) (sym made)

  -- the tests of a call that takes these
  call_right : (a : Action) (takes : List Want) (class method : ℕ) → needs p m a ≡ call_needs p m takes (method_at p class method) →
      length takes ≤ length m.frame.operands → length takes ≤ max_locals_in (method_at p class method) →
      ((test : Option BadKind → Bool) → test None ≡ false →
      some_of test (misfits p m.heap takes (on_top (length takes) m.frame.operands)) ≡ false) → None ≡ wrong p (needs p m a) m
  call_right a takes class method is within locals fits =
      nothing_wrong (call_needs p m takes (method_at p class method)) m
      (None ∷ misfits p m.heap takes (on_top (length takes) m.frame.operands)) within (fits is_kind refl) locals (fits is_member refl) refl
      (omega arith)
      ∙ ap (λ n. wrong p n m) (sym is)

  module _ (class method locals : ℕ) (types : List FieldType)
      (params : params_in (signature_of (descriptor_in (method_at p class method))) ≡ types)
      (many : locals ≡ max_locals_in (method_at p class method)) where
    pub quiet_static : (taken : ℕ) → length types ≡ taken → taken ≤ length m.frame.operands → taken ≤ locals →
        ((test : Option BadKind → Bool) → test None ≡ false →
        some_of test (misfits p m.heap (map Typed types) (on_top taken m.frame.operands)) ≡ false) →
        new ≡ entered m class method taken locals None → Quiet p (Call Static class method) m new
    quiet_static taken count within fitting fits is = λ me q.
        let long : length (map Typed types) ≡ taken = length-map types Typed ∙ count in
        let all : length (call_takes p Static class (method_at p class method)) ≡ taken = ap (λ l. length (map Typed l)) params ∙ long in
        call_is p q m me Static class method taken all
        (call_right (Call Static class method) (map Typed types) class method
        (ap (λ l. call_needs p m (map Typed l) (method_at p class method)) params) (omega (arith, long, within))
        (omega (arith, long, fitting, many))
        (λ test none. ap (λ k. some_of test (misfits p m.heap (map Typed types) (on_top k m.frame.operands))) long ∙ fits test none))
        ∙ calls_is p q m new class method taken locals None None within many is

    pub quiet_silent : (count n : ℕ) → length types ≡ count → count < length m.frame.operands → count < locals →
        at_top m.frame.operands count ≡ Some (values.Object n) → option_map (λ o. o.class) (slice_get m.heap n) ≡ Some class →
        ((test : Option BadKind → Bool) → test None ≡ false →
        some_of test (misfits p m.heap (map Typed types) (on_top count m.frame.operands)) ≡ false) →
        new ≡ entered m class method (count + 1) locals None → Quiet p (Call Silent class method) m new
    quiet_silent count n counted within fitting object of fits is = λ me q.
        let takes : List Want = Typed (Named (class_name p class)) ∷ map Typed types in
        let long : length takes ≡ count + 1 = omega (arith, length-map types Typed, counted) in
        let all : length (call_takes p Silent class (method_at p class method)) ≡ count + 1 =
        ap (λ l. length (Typed (Named (class_name p class)) ∷ map Typed l)) params ∙ long in
        let tops : on_top (count + 1) m.frame.operands ≡ values.Object n ∷ on_top count m.frame.operands =
        on_top_next m.frame.operands count (values.Object n) object within in
        call_is p q m me Silent class method (count + 1) all
        (call_right (Call Silent class method) takes class method
        (ap (λ l. call_needs p m (Typed (Named (class_name p class)) ∷ map Typed l) (method_at p class method)) params)
        (omega (arith, long, within)) (omega (arith, long, fitting, many))
        (λ test none. ap (λ k. some_of test (misfits p m.heap takes (on_top k m.frame.operands))) long
        ∙ ap (λ l. some_of test (misfits p m.heap takes l)) tops
        ∙ ap (λ o. some_of test (o ∷ misfits p m.heap (map Typed types) (on_top count m.frame.operands))) (of_class p m.heap class n of)
        ∙ ap (λ b. b || some_of test (misfits p m.heap (map Typed types) (on_top count m.frame.operands))) none ∙ fits test none))
        ∙ ap (λ l. calls p q m Silent class method (below (count + 1) m.frame.operands) l) tops
        ∙ ap (λ l. calls_in p q m class method (below (count + 1) m.frame.operands) l None None) (sym tops)
        ∙ calls_is p q m new class method (count + 1) locals None None (omega (arith, within)) many is

  module _ (told : m.frame.told ≡ None) where
    return_right : (sort : Option Sort) (result : Option FieldType) (found : MethodOf) (fs : List Frame) →
        Awaits p (length (returned sort None)) found fs →
        result_in (signature_of (descriptor_in (method_of_frame p m.frame))) ≡ result → m.callers ≡ fs →
        length (returned sort result) ≤ length m.frame.operands →
        ((test : Option BadKind → Bool) → test None ≡ false →
        some_of test (misfits p m.heap (returned sort result) (on_top (length (returned sort result)) m.frame.operands)) ≡ false) →
        is_sort sort result ≡ true → None ≡ wrong p (needs p m (Return sort)) m
    return_right sort result found [] awaits answers callers within fits kind = absurd awaits
    return_right sort result found (f ∷ fs) awaits answers callers within fits kind =
        let most : found.max_stack ≡ max_stack_in (method_of_frame p f) = ap max_stack_in awaits.0 in
        let room : length f.operands + length (returned sort None) ≤ max_stack_in (method_of_frame p f) = omega (arith, most, awaits.1) in
        nothing_wrong (returning p (f ∷ fs) sort (record (taking p m (returned sort result) 0) { returns = is_sort sort result })) m
        (None ∷ misfits p m.heap (returned sort result) (on_top (length (returned sort result)) m.frame.operands)) within
        (fits is_kind refl) (omega arith) (fits is_member refl) kind room
        ∙ (λ i. wrong p (returning p (sym callers i) sort
        (record (taking p m (returned sort (sym answers i)) 0) { returns = is_sort sort (sym answers i) })) m)

    pub quiet_return : (found : MethodOf) → Awaits p 0 found m.callers →
        result_in (signature_of (descriptor_in (method_of_frame p m.frame))) ≡ None → left_to m [] m.callers ≡ Some new →
        Quiet p (Return None) m new
    quiet_return found awaits answers is = λ me q.
        return_none_is p q m me (return_right None None found m.callers awaits answers refl (omega arith) (λ test none. refl) refl)
        ∙ returns_is q m new [] m.callers None is (sym (ap (λ t. left t []) told))

    pub quiet_return_value : (sort : Sort) (type : FieldType) (v : Value) (found : MethodOf) → Awaits p 1 found m.callers →
        result_in (signature_of (descriptor_in (method_of_frame p m.frame))) ≡ Some type → 1 ≤ length m.frame.operands →
        at_top m.frame.operands 0 ≡ Some v → misfit_sort sort v ≡ None → misfit_type p m.heap type v ≡ None →
        left_to m (v ∷ []) m.callers ≡ Some new → Quiet p (Return (Some sort)) m new
    quiet_return_value sort type v found awaits answers some top sorted typed is = λ me q.
        return_some_is p q m me sort v
        (return_right (Some sort) (Some type) found m.callers awaits answers refl some
        (λ test none. ap (λ l. some_of test (misfits p m.heap (Returned sort (Some type) ∷ []) l)) (top_one m.frame.operands v some top)
        ∙ ap (λ o. some_of test (first_of o (misfit_type p m.heap type v) ∷ [])) sorted ∙ ap (λ o. some_of test (o ∷ [])) typed
        ∙ (rw none refl)) refl) top
        ∙ returns_is q m new (v ∷ []) m.callers None is (sym (ap (λ t. left t (v ∷ [])) told))
