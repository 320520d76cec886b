-- Calls and returns: what is known of the frames and of what is called, and that the step is taken.
use Rattle.std.proofs.Common.{◌≡◌, ℕ, ℤ, ◌+◌, ◌-◌, ◌<◌, ◌≤◌, ◌^◌, true, false, Bool, List, [], ◌∷◌, ◌++◌, length, map, replicate}
use Rattle.std.proofs.Common.{IsSome}
use Rattle.std.proofs.Common.{Option, Some, None, refl, sym, ap, ◌∙◌, subst, arith, length-drop}
use Rattle.std.proofs.lemmas.List.{length-map}
use Rattle.std.specs.Bool.{OnTrue, OnFalse}
use Rattle.mg_text.specs.declared.event.Event.{Event}
use Rattle.mg_text.specs.declared.event.Event.TheVariants as seen
use Rattle.vm_model.specs.declared.value.Value.{Value}
use Rattle.vm_model.specs.declared.value.Value.TheVariants as values
use Rattle.vm_model.specs.Program.{Program, MethodOf, method_at}
use Rattle.vm_model.specs.Messages.{Messages}
use Rattle.vm_model.specs.Machine.{Machine, Frame, Went}
use Rattle.vm_model.specs.Types.{signature_of}
use Rattle.vm_model.specs.Actions.{Sort, Calling, Static, Silent, Telling, Call, Return}
use Rattle.vm_model.specs.Tests.{Want, Typed, Needs, below, on_top, call_takes, params_in, descriptor_in, returning}
use Rattle.vm_model.specs.Tests.{max_locals_in, method_of_frame, name_of_method}
use Rattle.vm_model.specs.Step as model
use Rattle.vm_model.specs.Step.{step}
use Rattle.vm_frames.specs.Frames.{entered, left_to, IsNearest}
use Rattle.vm_session.specs.inner.Tops.{at_top}
use Rattle.cls_verify.specs.Sound.{Await}
use Rattle.vm_flat.specs.declared.flat.Flat.{Flat}
use Rattle.vm_flat.specs.declared.program.FlatMethod.{FlatMethod}
use Rattle.vm_flat.specs.Flat.{IsFlatMethod, StandsFor}
use Rattle.vm_typed.specs.Alone.{StepAlone}
use Rattle.vm_typed.specs.Next.{IsNext}
use Rattle.vm_typed.specs.Running.{RunsFlat, IsAwaited}
use Rattle.vm_typed.proofs.Tops.{on_top_next, top_none, top_one}
use Rattle.vm_typed.proofs.Next.{is_right, step_is, names_of}

-- what is entered is what a call leads to
pub calls_are : (p : Program) (q : Messages) (m new : Machine) (class method args locals : ℕ) (told : Option ℕ) (event : Option Event) →
    args ≤ length m.frame.operands → locals ≡ max_locals_in (method_at p class method) →
    new ≡ entered m class method args locals told →
    model.calls_in p q m class method (below args m.frame.operands) (on_top args m.frame.operands) told event ≡ Went new q event
calls_are p q m new class method args locals told event le locals_is is =
    let count : length (on_top args m.frame.operands) ≡ args =
    omega (arith, length-drop (length m.frame.operands - args) m.frame.operands, le) in
    let left : max_locals_in (method_at p class method) - length (on_top args m.frame.operands) ≡ locals - args =
    omega (arith, count, locals_is) in
    ap (λ k. Went (record (entered m class method args locals told) {
      frame = record (entered m class method args locals told).frame {
        locals =
            map Some (on_top args m.frame.operands) ++ replicate k None;
      };
    }) q event) left
    ∙ ap (λ n. Went n q event) (sym is)

-- where no object tells of it
pub calls_is : (p : Program) (q : Messages) (m new : Machine) (class method args locals : ℕ) → args ≤ length m.frame.operands →
    locals ≡ max_locals_in (method_at p class method) → new ≡ entered m class method args locals None →
    model.calls_in p q m class method (below args m.frame.operands) (on_top args m.frame.operands) None None ≡ Went new q None
calls_is p q m new class method args locals le locals_is is =
    calls_are p q m new class method args locals None None le locals_is is

-- no flat method stands for one that is there
pub stands_none : (found : Option MethodOf) (method : MethodOf) → StandsFor None found → found ≡ Some method → ⊥
stands_none None method h e = cc e
stands_none (Some other) method h e = h

-- a flat method is there where the method is
pub there_too : (o : Option FlatMethod) (found : Option MethodOf) (method : MethodOf) → StandsFor o found → found ≡ Some method → IsSome o
there_too None None method h e = absurd (cc e)
there_too None (Some other) method h e = absurd h
there_too (Some flat) found method h e = refl

pub stands_for : (flat : FlatMethod) (found : Option MethodOf) (method : MethodOf) → StandsFor (Some flat) found → found ≡ Some method →
    IsFlatMethod flat method
stands_for flat None method h e = absurd h
stands_for flat (Some found) method h e = subst (IsFlatMethod flat) (some_is found method e) h
  where
    some_is : (x y : MethodOf) → Some x ≡ Some y → x ≡ y
    some_is x y e = cc

-- The called method is there, and so are its arguments.
module _ (p : Program) (m : Machine) (calling : Calling) (class method : ℕ) (n : IsNext p m (Call calling class method)) where
  pub called_there : (found : MethodOf) × (method_at p class method ≡ Some found)
  called_there = let names = names_of p m (Call calling class method) n in (names.method_is, names.there)

  abbrev pub takes : List Want
  takes = call_takes p calling class (method_at p class method)

  pub call_enough : length takes ≤ length m.frame.operands
  call_enough = (is_right p m (Call calling class method) n).enough

  pub call_locals : length takes ≤ max_locals_in (method_at p class method)
  call_locals = (is_right p m (Call calling class method) n).locals

  -- as many parameters as the flat method says
  pub params_are : (flat : FlatMethod) → StandsFor (Some flat) (method_at p class method) →
      length (map Typed (params_in (signature_of (descriptor_in (method_at p class method))))) ≡ flat.params
  params_are flat stands =
      let is = stands_for flat (method_at p class method) called_there.0 stands called_there.1 in
      length-map (params_in (signature_of (descriptor_in (method_at p class method)))) Typed
      ∙ ap (λ o. length (params_in (signature_of (descriptor_in o)))) called_there.1 ∙ sym is.params

  pub locals_are : (flat : FlatMethod) → StandsFor (Some flat) (method_at p class method) →
      flat.max_locals ≡ max_locals_in (method_at p class method)
  locals_are flat stands =
      let is = stands_for flat (method_at p class method) called_there.0 stands called_there.1 in
      is.locals ∙ sym (ap max_locals_in called_there.1)

-- The flat method runs that was entered.
pub entered_flat : (p : Program) (m new : Machine) (class method args locals : ℕ) (flat : FlatMethod) (code : List Flat) →
    code ≡ flat.code.items → length code < 2 ^ 32 → StandsFor (Some flat) (method_at p class method) →
    new ≡ entered m class method args locals None → RunsFlat p new code
entered_flat p m new class method args locals flat code is few stands made = record {
  flat = flat;
  is = is;
  few = few;
  stands = subst (λ (k : Machine). StandsFor (Some flat) (method_of_frame p k.frame)) (sym made) stands;
}

module _ (p : Program) (m : Machine) (class method : ℕ) (flat : FlatMethod)
    (stands : StandsFor (Some flat) (method_at p class method)) where
  -- a static call takes its parameters
  module _ (n : IsNext p m (Call Static class method)) where
    pub static_enough : flat.params ≤ length m.frame.operands
    static_enough =
        omega (arith, params_are p m Static class method n flat stands, call_enough p m Static class method n)

    pub static_locals : flat.params ≤ flat.max_locals
    static_locals =
        omega (
          arith,
          params_are p m Static class method n flat stands,
          call_locals p m Static class method n,
          locals_are p m Static class method n flat stands,
        )

    pub static_steps : (new : Machine) → new ≡ entered m class method flat.params flat.max_locals None → StepAlone p m new
    static_steps new made = λ me q.
        step_is p m (Call Static class method) n me q
        ∙ ap (λ k. model.calls p q m Static class method (below k m.frame.operands) (on_top k m.frame.operands))
        (params_are p m Static class method n flat stands)
        ∙ calls_is p q m new class method flat.params flat.max_locals static_enough
        (locals_are p m Static class method n flat stands) made

  -- a call of an object takes that too
  module _ (n : IsNext p m (Call Silent class method)) where
    pub silent_enough : flat.params + 1 ≤ length m.frame.operands
    silent_enough =
        omega (arith, params_are p m Silent class method n flat stands, call_enough p m Silent class method n)

    pub silent_locals : flat.params + 1 ≤ flat.max_locals
    silent_locals =
        omega (
          arith,
          params_are p m Silent class method n flat stands,
          call_locals p m Silent class method n,
          locals_are p m Silent class method n flat stands,
        )

    pub silent_steps : (new : Machine) (object : ℕ) → at_top m.frame.operands flat.params ≡ Some (values.Object object) →
        new ≡ entered m class method (flat.params + 1) flat.max_locals None → StepAlone p m new
    silent_steps new object top made = λ me q.
        let count : length (call_takes p Silent class (method_at p class method)) ≡ flat.params + 1 =
        omega (arith, params_are p m Silent class method n flat stands) in
        let within : flat.params < length m.frame.operands = omega (arith, silent_enough) in
        let tops : on_top (flat.params + 1) m.frame.operands ≡ values.Object object ∷ on_top flat.params m.frame.operands =
        on_top_next m.frame.operands flat.params (values.Object object) top within in
        step_is p m (Call Silent class method) n me q
        ∙ ap (λ k. model.calls p q m Silent class method (below k m.frame.operands) (on_top k m.frame.operands)) count
        ∙ ap (λ l. model.calls p q m Silent class method (below (flat.params + 1) m.frame.operands) l) tops
        ∙ ap (λ l. model.calls_in p q m class method (below (flat.params + 1) m.frame.operands) l None None) (sym tops)
        ∙ calls_is p q m new class method (flat.params + 1) flat.max_locals silent_enough
        (locals_are p m Silent class method n flat stands) made

  -- so does one of which the object tells
  module _ (n : IsNext p m (Call Telling class method)) where
    pub telling_enough : flat.params + 1 ≤ length m.frame.operands
    telling_enough =
        omega (arith, params_are p m Telling class method n flat stands, call_enough p m Telling class method n)

    pub telling_locals : flat.params + 1 ≤ flat.max_locals
    telling_locals =
        omega (
          arith,
          params_are p m Telling class method n flat stands,
          call_locals p m Telling class method n,
          locals_are p m Telling class method n flat stands,
        )

    pub telling_steps : (new : Machine) (object : ℕ) → at_top m.frame.operands flat.params ≡ Some (values.Object object) →
        new ≡ entered m class method (flat.params + 1) flat.max_locals (Some object) → (me : ℕ) (q : Messages) →
        step p me m q ≡ Went new q (Some (seen.Enter object (name_of_method (method_at p class method))))
    telling_steps new object top made me q =
        let count : length (call_takes p Telling class (method_at p class method)) ≡ flat.params + 1 =
        omega (arith, params_are p m Telling class method n flat stands) in
        let within : flat.params < length m.frame.operands = omega (arith, telling_enough) in
        let tops : on_top (flat.params + 1) m.frame.operands ≡ values.Object object ∷ on_top flat.params m.frame.operands =
        on_top_next m.frame.operands flat.params (values.Object object) top within in
        let event : Option Event = Some (seen.Enter object (name_of_method (method_at p class method))) in
        step_is p m (Call Telling class method) n me q
        ∙ ap (λ k. model.calls p q m Telling class method (below k m.frame.operands) (on_top k m.frame.operands)) count
        ∙ ap (λ l. model.calls p q m Telling class method (below (flat.params + 1) m.frame.operands) l) tops
        ∙ ap (λ l. model.calls_in p q m class method (below (flat.params + 1) m.frame.operands) l (Some object) event) (sym tops)
        ∙ calls_are p q m new class method (flat.params + 1) flat.max_locals (Some object) event telling_enough
        (locals_are p m Telling class method n flat stands) made

-- The nearest of the frames that wait.

pub nearest_there : (p : Program) (heap : _) (result : _) (class method operands : ℕ) (fs : List Frame) → Await p heap result fs →
    IsNearest class method operands fs → (found : MethodOf) × (method_at p class method ≡ Some found)
nearest_there p heap result class method operands [] await near = absurd near
nearest_there p heap result class method operands (f ∷ fs) await near =
    (await.0.method, (λ i. method_at p (near.0 i) (near.1 i)) ∙ await.0.at)

pub nearest_awaited : (p : Program) (flat : FlatMethod) (class method operands : ℕ) (fs : List Frame) →
    IsNearest class method operands fs → StandsFor (Some flat) (method_at p class method) → IsAwaited p flat fs
nearest_awaited p flat class method operands [] near stands = near
nearest_awaited p flat class method operands (f ∷ fs) near stands =
    subst (StandsFor (Some flat)) (λ i. method_at p (near.0 i) (near.1 i)) stands

-- it is left to
pub left_so : (p : Program) (flat : FlatMethod) (fs : List Frame) {R : Type 0} (S : Type 0) (b : Bool) →
    IsAwaited p flat fs → OnTrue b R → OnFalse b ((fs ≡ []) × S) → R
left_so p flat fs S true awaits h k = h
left_so p flat fs S false awaits h k = absurd (subst (IsAwaited p flat) k.0 awaits)

some_is : {A : Type 0} (x y : A) → Some x ≡ Some y → x ≡ y
some_is x y e = cc

pub left_flat : (p : Program) (m new : Machine) (vs : List Value) (flat : FlatMethod) (code : List Flat) (fs : List Frame) →
    code ≡ flat.code.items → length code < 2 ^ 32 → IsAwaited p flat fs → left_to m vs fs ≡ Some new → RunsFlat p new code
left_flat p m new vs flat code [] is few awaits made = absurd awaits
left_flat p m new vs flat code (f ∷ fs) is few awaits made = record {
  flat = flat;
  is = is;
  few = few;
  stands = subst (λ (k : Machine). StandsFor (Some flat) (method_of_frame p k.frame))
      (some_is (record m { frame = record f { operands = f.operands ++ vs }; callers = fs }) new made) awaits;
}

-- what is left leads to the frame that waits
returns_is : (q : Messages) (m new : Machine) (vs : List Value) (frames : List Frame) → left_to m vs frames ≡ Some new →
    m.frame.told ≡ None → model.returns q m vs frames ≡ Went new q None
returns_is q m new vs [] is e = absurd (cc is)
returns_is q m new vs (f ∷ fs) is e =
    ap (λ n. Went n q (model.left m.frame.told vs))
    (some_is (record m { frame = record f { operands = f.operands ++ vs }; callers = fs }) new is)
    ∙ ap (λ o. Went new q (model.left o vs)) e

returning_takes : (p : Program) (fs : List Frame) (sort : Option Sort) (n : Needs) → (returning p fs sort n).takes ≡ n.takes
returning_takes p [] sort n = refl
returning_takes p (f ∷ fs) sort n = refl

pub return_some : (p : Program) (m : Machine) (sort : Sort) → IsNext p m (Return (Some sort)) → 1 ≤ length m.frame.operands
return_some p m sort n =
    subst (λ l. length l ≤ length m.frame.operands) (returning_takes p m.callers (Some sort) _) (is_right p m (Return (Some sort)) n).enough

module _ (p : Program) (m new : Machine) (told : m.frame.told ≡ None) where
  pub return_steps : IsNext p m (Return None) → left_to m [] m.callers ≡ Some new → StepAlone p m new
  return_steps n is = λ me q.
      step_is p m (Return None) n me q
      ∙ ap (λ l. model.returns q m (on_top (length l) m.frame.operands) m.callers) (returning_takes p m.callers None _)
      ∙ ap (λ l. model.returns q m l m.callers) (top_none m.frame.operands) ∙ returns_is q m new [] m.callers is told

  pub return_value_steps : (sort : Sort) (v : Value) → IsNext p m (Return (Some sort)) → at_top m.frame.operands 0 ≡ Some v →
      left_to m (v ∷ []) m.callers ≡ Some new → StepAlone p m new
  return_value_steps sort v n top is = λ me q.
      step_is p m (Return (Some sort)) n me q
      ∙ ap (λ l. model.returns q m (on_top (length l) m.frame.operands) m.callers) (returning_takes p m.callers (Some sort) _)
      ∙ ap (λ l. model.returns q m l m.callers) (top_one m.frame.operands v (return_some p m sort n) top)
      ∙ returns_is q m new (v ∷ []) m.callers is told

-- What is left is told of.
pub left_telling : (p : Program) (q : Messages) (m new : Machine) (vs : List Value) (frames : List Frame) (object : ℕ) (o : Option ℤ) →
    left_to m vs frames ≡ Some new → m.frame.told ≡ Some object → o ≡ model.answer_of vs →
    model.returns q m vs frames ≡ Went new q (Some (seen.Leave object o))
left_telling p q m new vs [] object o is e answer = absurd (cc is)
left_telling p q m new vs (f ∷ fs) object o is e answer =
    ap (λ n. Went n q (model.left m.frame.told vs))
    (some_is (record m { frame = record f { operands = f.operands ++ vs }; callers = fs }) new is)
    ∙ ap (λ t. Went new q (model.left t vs)) e ∙ ap (λ a. Went new q (Some (seen.Leave object a))) (sym answer)

pub returning_telling : (p : Program) (m : Machine) → IsNext p m (Return None) → (me : ℕ) (q : Messages) →
    step p me m q ≡ model.returns q m [] m.callers
returning_telling p m n me q =
    step_is p m (Return None) n me q
    ∙ ap (λ l. model.returns q m (on_top (length l) m.frame.operands) m.callers) (returning_takes p m.callers None _)
    ∙ ap (λ l. model.returns q m l m.callers) (top_none m.frame.operands)

pub returning_value_telling : (p : Program) (m : Machine) (sort : Sort) (v : Value) → IsNext p m (Return (Some sort)) →
    at_top m.frame.operands 0 ≡ Some v → (me : ℕ) (q : Messages) → step p me m q ≡ model.returns q m (v ∷ []) m.callers
returning_value_telling p m sort v n top me q =
    step_is p m (Return (Some sort)) n me q
    ∙ ap (λ l. model.returns q m (on_top (length l) m.frame.operands) m.callers) (returning_takes p m.callers (Some sort) _)
    ∙ ap (λ l. model.returns q m l m.callers) (top_one m.frame.operands v (return_some p m sort n) top)

-- by whether something was done
pub when_true : {P : Type 0} (b : Bool) → b ≡ true → OnTrue b P → P
when_true true e h = h
when_true false e h = absurd (cc e)

pub when_false : {P : Type 0} (b : Bool) → b ≡ false → OnFalse b P → P
when_false false e h = h
when_false true e h = absurd (cc e)
