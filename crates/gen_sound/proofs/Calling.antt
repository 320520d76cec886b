-- Calls of methods: their frames over those that wait for them, and the returns to these.
use Rattle.std.proofs.Common.{◌≡◌, ◌≢◌, ℕ, ◌+◌, ◌-◌, ◌≤◌, true, List, [], ◌∷◌, ◌++◌, length, map, replicate, Option, Some, None, refl, sym}
use Rattle.std.proofs.Common.{ap, ◌∙◌, subst, append-nil, arith}
use Rattle.std.specs.Prelude.{slice_get, if◌then◌else◌, Bool, false, Contains}
use Rattle.mg_text.specs.declared.event.Event.{Event}
use Rattle.mg_text.specs.declared.event.Event.TheVariants as seen
use Rattle.jv_values.specs.Values.{Value, Shared, Inputs}
use Rattle.jv_values.specs.Values as values
use Rattle.jv_values.specs.Objects.{answer_of, telling}
use Rattle.jv_values.specs.Doing.{Outcome, Gives, Ends}
use Rattle.jv_core.specs.declared.program.CoreType.{CoreType}
use Rattle.jv_core.specs.declared.program.MethodKind.{MethodKind}
use Rattle.jv_core.specs.declared.program.MethodKind.TheVariants as kinds
use Rattle.jv_core.specs.Tree.{Method, Program}
use Rattle.jv_core.specs.Lookup.{text_at, param_types}
use Rattle.jv_core.specs.Members.{IsResult}
use Rattle.jv_core.specs.Conditions.{IsMethod, IsCore}
use Rattle.jv_values.specs.Calls.{suits}
use Rattle.jv_core.specs.Meaning.{Lower, runs_on_object}
use Rattle.vm_model.specs.declared.value.Value.{Value as Held}
use Rattle.vm_model.specs.declared.value.Value.TheVariants as held
use Rattle.vm_model.specs.Program as linked
use Rattle.vm_model.specs.Types.{Named, signature_of}
use Rattle.vm_model.specs.Links.{Outline, is_some}
use Rattle.vm_model.specs.Messages.{Messages}
use Rattle.vm_model.specs.Machine.{Frame, Machine, Went}
use Rattle.vm_model.specs.Actions.{Number, Reference, Call, Return}
use Rattle.vm_model.specs.Tests as tests
use Rattle.vm_model.specs.Tests.{Typed, Returned, call_takes, descriptor_in, is_sort, max_locals_in, max_stack_in, misfit, misfit_class}
use Rattle.vm_model.specs.Tests.{name_of_method}
use Rattle.vm_model.specs.Step as machine
use Rattle.vm_model.specs.Step.{step, left}
use Rattle.gen_rules.specs.Symbolic.{Instr, invokestatic, invokespecial, invokevirtual, return, return_value, areturn, ireturn}
use Rattle.gen_rules.specs.Symbolic.{is_reference}
use Rattle.gen_rules.specs.Members.{method_reference, type_in, result_in}
use Rattle.gen_rules.specs.Frames.{max_stack, max_locals, left_by}
use Rattle.jv_sound.proofs.Worlds.{World, Fits, AllFit, GivesA}
use Rattle.jv_sound.proofs.Worlds as worlds
use Rattle.jv_sound.proofs.Objects.{Heap, noted}
use Rattle.jv_sound.proofs.Expressions.{Callable, method_ok}
use Rattle.gen_sound.specs.Following.{Moment, Leads, EndsAlike, Follows}
use Rattle.gen_sound.specs.Arriving.{Arrives}
use Rattle.gen_sound.specs.Related.{Running, moment, flat, flat_given, heap_in, action_of, RunsCode, calling_of, invoke}
use Rattle.vm_world_law.specs.Meant.{Holds}
use Rattle.gen_sound.specs.Standing.{Returning, return_of}
use Rattle.gen_sound.proofs.Steps.{stays, comes_on, lead_of, ClosedBefore, follows_then}
use Rattle.gen_sound.proofs.Peers.{seen_holds}
use Rattle.cls_verify.proofs.Acts.{AllMeet, acts_well, as_many}
use Rattle.gen_sound.proofs.Taking.{step_is}
use Rattle.gen_sound.proofs.Instructions.{sort_of}
use Rattle.gen_sound.proofs.Linkage.{Linkage, MethodStands}
use Rattle.gen_sound.proofs.Fitting.{all_meet, object_fits, returned_fits, has_result}
use Rattle.gen_sound.proofs.Entering.{with_object, first_locals, params_usable, args_fit}

-- the frame that waits for a call, and goes on at a place with these operands
abbrev pub waiting : Running → (place : ℕ) → List Held → List (Option Held) → Frame
waiting r place rest ls =
    record { class = r.class; method = r.method; place = place; locals = ls; operands = rest; told = r.told }

-- the frame of the method that is called
abbrev pub inner : Running → (place : ℕ) → List Held → List (Option Held) → (class method : ℕ) → (told : Option ℕ) → Running
inner r place rest ls class method told =
    record { class = class; method = method; told = told; callers = waiting r place rest ls ∷ r.callers }

module _ (p : Program) (ok : IsCore p) (os : List Outline) (program : linked.Program) (inputs : Inputs) (me : ℕ) where
  -- the machine comes to the instruction that returns what the body of a method gives
  pub record ReturnsWell (r : Running) (m : Method) (code : List Instr) (this : Option ℕ) (c : Moment) (v : Option Value) (u : Shared)
      : Type 0 where
    pub world : World
    pub gives : GivesA p world v m.result
    pub heap : Heap p ok world u
    pub returning : Returning p program inputs me r m code this v c (record { locals = []; shared = u })

  pub returns_closed : (r : Running) (m : Method) (code : List Instr) (this : Option ℕ) →
      ClosedBefore (step program me) (ReturnsWell r m code this)
  returns_closed r m code this c d v u come h = record {
    world = h.world;
    gives = h.gives;
    heap = h.heap;
    returning = record {
      place = h.returning.place;
      locals = h.returning.locals;
      at = h.returning.at;
      arrives = record {
        messages = h.returning.arrives.messages;
        comes = comes_on (step program me) c d
            (moment p r h.returning.place (flat_given v) h.returning.locals u h.returning.arrives.messages) come h.returning.arrives.comes;
        holds = h.returning.arrives.holds;
      };
    };
  }

  -- What is known at a level of calls of these methods: they stand where they are called, and what leads to the frame of a method
  -- comes to its return, or ends as the method's body means with the budget of calls.
  pub record CallsDo (may : List ℕ) (level : ℕ) (low : Lower) : Type 0 where
    pub known : Linkage p os program me
    pub call : (i : ℕ) (k : Method) → Contains may i → slice_get p.methods i ≡ Some k → k.kind ≢ kinds.Main →
        (stands : MethodStands p os program me i k) →
        (r : Running) → r.class ≡ k.class → r.method ≡ stands.method →
        (x : World) (this : Option ℕ) (vs : List Value) → Callable p ok x k this → AllFit p x vs (param_types k) →
        (s : Shared) → Heap p ok x s → (q : Messages) → Holds inputs q me s.events → (c : Moment) →
        Leads (step program me) c (moment p r 0 [] (first_locals k (with_object this (map flat vs))) s q) →
        Follows (step program me) level (ReturnsWell r k stands.code this) c (low.call i this vs s)

  -- what the machine comes to may be known otherwise
  pub follows_as : {S A : Type 0} (n : ℕ) (R R' : Moment → A → S → Type 0) (c : Moment) (o : Outcome S A) →
      Follows (step program me) n R c o →
      ((a : A) (s : S) → R c a s → R' c a s) → Follows (step program me) n R' c o
  follows_as n R R' c (Gives a s) f k = k a s f
  follows_as n R R' c (Ends e es) f k = f

  -- what is given takes no more room than its type
  given_room : (x : World) (v : Option Value) (t : CoreType) (rest most : ℕ) → GivesA p x v t → rest + left_by (Some t) ≤ most →
      rest + length (flat_given v) ≤ most
  given_room x v t rest most worlds.nothing h = omega (arith, h)
  given_room x v t rest most (worlds.value worlds.int) h = h
  given_room x v t rest most (worlds.value worlds.truth) h = h
  given_room x v t rest most (worlds.value worlds.text) h = h
  given_room x v t rest most (worlds.value worlds.null) h = h
  given_room x v t rest most (worlds.value (worlds.object e)) h = h
  given_room x v t rest most (worlds.value (worlds.constant e)) h = h

  return_does : (t : CoreType) → action_of os (return_value t) ≡ Some (Return (Some (sort_of t)))
  return_does t = go (is_reference t)
    where
      go : (b : Bool) → action_of os (if b then areturn else ireturn) ≡ Some (Return (Some (if b then Reference else Number)))
      go true = refl
      go false = refl

  module _ (known : Linkage p os program me) (i : ℕ) (k : Method) (stands : MethodStands p os program me i k) (is : IsMethod p k)
      (called : k.kind ≢ kinds.Main) (r : Running) (m : Method) (code : List Instr) (runs : RunsCode p os program me r m code) where
    abbrev callee : (place : ℕ) → List Held → List (Option Held) → Option ℕ → Running
    callee place rest ls told = inner r place rest ls k.class stands.method told

    callee_runs : (place : ℕ) (rest : List Held) (ls : List (Option Held)) (told : Option ℕ) →
        RunsCode p os program me (callee place rest ls told) k stands.code
    callee_runs place rest ls told = stands.runs (callee place rest ls told) refl refl

    -- the size of its frame
    room_there : max_locals_in (linked.method_at program k.class stands.method) ≡ max_locals k
    room_there = let h = callee_runs 0 [] [] None in ap max_locals_in h.at ∙ h.locals

    -- the instruction of the call, over the arguments that it wants
    pub call_is : (kind : MethodKind) → k.kind ≡ kind → kind ≢ kinds.Main → (place : ℕ) (rest args : List Held) (ls : List (Option Held))
        (s : Shared) (q : Messages) → slice_get code place ≡ Some (invoke kind (method_reference p i)) →
        AllMeet program (heap_in p s.heap) (call_takes program (calling_of kind) k.class (linked.method_at program k.class stands.method))
        args →
        length args ≤ max_locals k →
        step program me (moment p r place (rest ++ args) ls s q).machine q
        ≡ machine.calls program q (moment p r place (rest ++ args) ls s q).machine (calling_of kind) k.class stands.method rest args
    call_is kind e n place rest args ls s q at meet fit =
        let state : Machine = (moment p r place (rest ++ args) ls s q).machine in
        let takes = call_takes program (calling_of kind) k.class (linked.method_at program k.class stands.method) in
        let count : length takes ≡ length args = as_many program (heap_in p s.heap) takes args meet in
        step_is p os program me r m code runs place (rest ++ args) ls s q (invoke kind (method_reference p i))
        (Call (calling_of kind) k.class stands.method) at (stands.called kind e n)
        ∙ acts_well program q state me (Call (calling_of kind) k.class stands.method) rest args refl meet refl
        (subst (λ j. length takes ≤ j) (sym room_there) (subst (λ j. j ≤ max_locals k) (sym count) fit)) refl (omega arith)

    -- the machine as the method is entered
    pub entered_is : (place : ℕ) (rest args : List Held) (ls : List (Option Held)) (s : Shared) (q : Messages) (told : Option ℕ)
        (event : Option Event) →
        machine.calls_in program q (moment p r place (rest ++ args) ls s q).machine k.class stands.method rest args told event
        ≡ Went (moment p (callee (place + 1) rest ls told) 0 [] (first_locals k args) s q).machine q event
    entered_is place rest args ls s q told event =
        ap (λ j. Went (record {
          frame = record {
            class = k.class;
            method = stands.method;
            place = 0;
            locals = map Some args ++ replicate (j - length args) None;
            operands = [];
            told = told;
          };
          callers = waiting r (place + 1) rest ls ∷ r.callers;
          heap = heap_in p s.heap;
        }) q event) room_there

    -- what its descriptor says of its result
    result_there : (place : ℕ) (rest : List Held) (ls : List (Option Held)) (told : Option ℕ) →
        tests.result_in (signature_of (descriptor_in (linked.method_at program k.class stands.method))) ≡ result_in p k.result
    result_there place rest ls told =
        let h = callee_runs place rest ls told in
        ap (λ o. tests.result_in (signature_of (descriptor_in o))) h.at
        ∙ ap (λ d. tests.result_in (signature_of d)) h.descriptor
        ∙ ap tests.result_in (stands.signature called)

    room_here : max_stack_in (linked.method_at program r.class r.method) ≡ max_stack p m
    room_here = ap max_stack_in runs.at ∙ runs.stack

    -- the return to the frame that waits
    pub return_is : (x : World) (v : Option Value) (u : Shared) → GivesA p x v k.result → Heap p ok x u → (at_call : ℕ) (rest : List Held)
        (ls : List (Option Held)) (told : Option ℕ) (place : ℕ) (locals : List (Option Held)) (q : Messages) →
        slice_get stands.code place ≡ Some (return_of k.result v) → length rest + length (flat_given v) ≤ max_stack p m →
        step program me (moment p (callee at_call rest ls told) place (flat_given v) locals u q).machine q
        ≡ Went (moment p r at_call (rest ++ flat_given v) ls u q).machine q (left told (flat_given v))
    return_is x v u gives heap at_call rest ls told place locals q at room = go k.result refl v gives at room
      where
        go : (t : CoreType) → k.result ≡ t → (v : Option Value) → GivesA p x v t → slice_get stands.code place ≡ Some (return_of t v) →
            length rest + length (flat_given v) ≤ max_stack p m →
            step program me (moment p (callee at_call rest ls told) place (flat_given v) locals u q).machine q
            ≡ Went (moment p r at_call (rest ++ flat_given v) ls u q).machine q (left told (flat_given v))
        go t e v worlds.nothing at room =
            step_is p os program me (callee at_call rest ls told) k stands.code (callee_runs at_call rest ls told) place [] locals u q
            return (Return None) at refl
            ∙ acts_well program q (moment p (callee at_call rest ls told) place [] locals u q).machine me (Return None) [] [] refl tt refl
            (omega arith)
            (ap (is_sort None) (result_there at_call rest ls told ∙ ap (result_in p) e))
            (subst (λ j. length rest + 0 ≤ j) (sym room_here) room)
        go t e v (worlds.value {v = y} f) at room =
            let result : tests.result_in (signature_of (descriptor_in (linked.method_at program k.class stands.method))) ≡ result_in p t =
            result_there at_call rest ls told ∙ ap (result_in p) e in
            step_is p os program me (callee at_call rest ls told) k stands.code (callee_runs at_call rest ls told) place (flat y ∷ [])
            locals u q (return_value t)
            (Return (Some (sort_of t))) at (return_does t)
            ∙ acts_well program q (moment p (callee at_call rest ls told) place (flat y ∷ []) locals u q).machine me
            (Return (Some (sort_of t))) [] (flat y ∷ []) refl (
              subst (λ o. misfit program (heap_in p u.heap) (Returned (sort_of t) o) (flat y) ≡ None) (sym result)
                  (returned_fits p ok os program me known x u heap y t f (subst (IsResult p) e is.result)),
              tt,
            ) refl (omega arith)
            (ap is_some result ∙ has_result p ok os program me known x y t f)
            (subst (λ j. length rest + 1 ≤ j) (sym room_here) room)

    -- from the return of a call that isn't told to the place behind it
    pub back : (this : Option ℕ) (at_call : ℕ) (rest : List Held) (ls : List (Option Held)) → length rest + left_by (Some k.result) ≤
        max_stack p m →
        (c : Moment) (v : Option Value) (u : Shared) → ReturnsWell (callee at_call rest ls None) k stands.code this c v u →
        Arrives p program inputs me r at_call (rest ++ flat_given v) ls c u
    back this at_call rest ls room c v u h =
        let frame : Running = callee at_call rest ls None in
        let b = h.returning in
        let q : Messages = b.arrives.messages in
        record {
          messages = q;
          comes = comes_on (step program me) c (moment p frame b.place (flat_given v) b.locals u q)
              (moment p r at_call (rest ++ flat_given v) ls u q) b.arrives.comes
              (lead_of (step program me) (moment p frame b.place (flat_given v) b.locals u q)
              (moment p r at_call (rest ++ flat_given v) ls u q)
              None (return_is h.world v u h.gives h.heap at_call rest ls None b.place b.locals q b.at
              (given_room h.world v k.result (length rest) (max_stack p m) h.gives room)) (sym (append-nil u.events))).comes;
          holds = b.arrives.holds;
        }

    -- what a call that is told tells where it is left
    same_answer : (v : Option Value) → machine.answer_of (flat_given v) ≡ answer_of v
    same_answer None = refl
    same_answer (Some (values.Int z)) = refl
    same_answer (Some (values.Truth true)) = refl
    same_answer (Some (values.Truth false)) = refl
    same_answer (Some (values.Text t)) = refl
    same_answer (Some values.Null) = refl
    same_answer (Some (values.Object o)) = refl
    same_answer (Some (values.Constant e n)) = refl

    abbrev pub left_with : ℕ → Option Value → Shared → Shared
    left_with o v u = record u { events = u.events ++ seen.Leave o (answer_of v) ∷ [] }

    pub told_back : (o : ℕ) (this : Option ℕ) (at_call : ℕ) (rest : List Held) (ls : List (Option Held)) →
        length rest + left_by (Some k.result) ≤ max_stack p m → (c : Moment) (v : Option Value) (u : Shared) →
        ReturnsWell (callee at_call rest ls (Some o)) k stands.code this c v u →
        Arrives p program inputs me r at_call (rest ++ flat_given v) ls c (left_with o v u)
    told_back o this at_call rest ls room c v u h =
        let frame : Running = callee at_call rest ls (Some o) in
        let b = h.returning in
        let q : Messages = b.arrives.messages in
        record {
          messages = q;
          comes = comes_on (step program me) c (moment p frame b.place (flat_given v) b.locals u q)
              (moment p r at_call (rest ++ flat_given v) ls (left_with o v u) q) b.arrives.comes
              (lead_of (step program me) (moment p frame b.place (flat_given v) b.locals u q)
              (moment p r at_call (rest ++ flat_given v) ls (left_with o v u) q) (Some (seen.Leave o (machine.answer_of (flat_given v))))
              (return_is h.world v u h.gives h.heap at_call rest ls (Some o) b.place b.locals q b.at
              (given_room h.world v k.result (length rest) (max_stack p m) h.gives room))
              (ap (λ a. u.events ++ seen.Leave o a ∷ []) (sym (same_answer v)))).comes;
          holds = seen_holds inputs q me u.events (seen.Leave o (answer_of v)) (λ peer. refl) b.arrives.holds;
        }

  -- A call on a level: the code behind its arguments does what the call means.
  module _ (level : ℕ) (low : Lower) (may : List ℕ) (calls : CallsDo may level low) (i : ℕ) (k : Method) (allowed : Contains may i)
      (at : slice_get p.methods i ≡ Some k)
      (r : Running) (m : Method) (code : List Instr) (runs : RunsCode p os program me r m code) (place : ℕ) (st : List Held)
      (ls : List (Option Held)) (room : length st + left_by (Some k.result) ≤ max_stack p m) where
    abbrev stands : MethodStands p os program me i k
    stands = calls.known.method i k at

    is : IsMethod p k
    is = method_ok p ok i k at

    abbrev After : Moment → Option Value → Shared → Type 0
    After c v u = Arrives p program inputs me r (place + 1) (st ++ flat_given v) ls c u

    params_there : k.kind ≢ kinds.Main →
        tests.params_in (signature_of (descriptor_in (linked.method_at program k.class stands.method))) ≡ map (type_in p) (param_types k)
    params_there n =
        let h = stands.runs (inner r 0 [] [] k.class stands.method None) refl refl in
        ap (λ o. tests.params_in (signature_of (descriptor_in o))) h.at
        ∙ ap (λ d. tests.params_in (signature_of d)) h.descriptor
        ∙ ap tests.params_in (stands.signature n)

    args_meet : k.kind ≢ kinds.Main → (x : World) (vs : List Value) (s : Shared) → Heap p ok x s → AllFit p x vs (param_types k) →
        AllMeet program (heap_in p s.heap)
        (map Typed (tests.params_in (signature_of (descriptor_in (linked.method_at program k.class stands.method))))) (map flat vs)
    args_meet n x vs s heap fits =
        subst (λ ts. AllMeet program (heap_in p s.heap) (map Typed ts) (map flat vs)) (sym (params_there n))
        (all_meet p ok os program me calls.known x s heap vs (param_types k) fits (params_usable p k.params k.slots is.slots))

    object_meets : (x : World) (o : ℕ) (s : Shared) → Heap p ok x s → slice_get x o ≡ Some k.class →
        misfit program (heap_in p s.heap) (Typed (Named (linked.class_name program k.class))) (held.Object o) ≡ None
    object_meets x o s heap of =
        subst (λ n. misfit_class program (heap_in p s.heap) n (held.Object o) ≡ None)
        (sym (calls.known.class_named k.class is.class is.class_at))
        (object_fits p ok os program me calls.known x s heap o k.class is.class of is.class_at)

    pub static_calls : k.kind ≡ kinds.Static → slice_get code place ≡ Some (invokestatic (method_reference p i)) →
        (x : World) (vs : List Value) (s : Shared) (q : Messages) → AllFit p x vs (param_types k) → Callable p ok x k None → Heap p ok x s →
        Holds inputs q me s.events →
        Follows (step program me) level After (moment p r place (st ++ map flat vs) ls s q) (low.call i None vs s)
    static_calls e code_at x vs s q fits callable heap holds =
        let n : k.kind ≢ kinds.Main = (λ g. absurd (let both = sym e ∙ g in cc)) in
        let frame : Running = inner r (place + 1) st ls k.class stands.method None in
        let c : Moment = moment p r place (st ++ map flat vs) ls s q in
        follows_as level (ReturnsWell frame k stands.code None) After c (low.call i None vs s)
        (calls.call i k allowed at n stands frame refl refl x None vs callable fits s heap q holds c
        (lead_of (step program me) c (moment p frame 0 [] (first_locals k (map flat vs)) s q) None
        (call_is calls.known i k stands is n r m code runs kinds.Static e (λ g. cc) place st (map flat vs) ls s q code_at
        (args_meet n x vs s heap fits) (args_fit p ok k is n x None vs callable.suits fits)
        ∙ entered_is calls.known i k stands is n r m code runs place st (map flat vs) ls s q None None) (sym (append-nil s.events))))
        (λ v u h. back calls.known i k stands is n r m code runs None (place + 1) st ls room c v u h)

    pub helper_calls : k.kind ≡ kinds.Helper → slice_get code place ≡ Some (invokespecial (method_reference p i)) →
        (x : World) (o : ℕ) (vs : List Value) (s : Shared) (q : Messages) → slice_get x o ≡ Some k.class → AllFit p x vs (param_types k) →
        Callable p ok x k (Some o) → Heap p ok x s → Holds inputs q me s.events →
        Follows (step program me) level After (moment p r place (st ++ held.Object o ∷ map flat vs) ls s q) (low.call i (Some o) vs s)
    helper_calls e code_at x o vs s q of fits callable heap holds =
        let n : k.kind ≢ kinds.Main = (λ g. absurd (let both = sym e ∙ g in cc)) in
        let frame : Running = inner r (place + 1) st ls k.class stands.method None in
        let args : List Held = held.Object o ∷ map flat vs in
        let c : Moment = moment p r place (st ++ args) ls s q in
        follows_as level (ReturnsWell frame k stands.code (Some o)) After c (low.call i (Some o) vs s)
        (calls.call i k allowed at n stands frame refl refl x (Some o) vs callable fits s heap q holds c
        (lead_of (step program me) c (moment p frame 0 [] (first_locals k args) s q) None
        (call_is calls.known i k stands is n r m code runs kinds.Helper e (λ g. cc) place st args ls s q code_at
        (object_meets x o s heap of, args_meet n x vs s heap fits) (args_fit p ok k is n x (Some o) vs callable.suits fits)
        ∙ entered_is calls.known i k stands is n r m code runs place st args ls s q None None) (sym (append-nil s.events))))
        (λ v u h. back calls.known i k stands is n r m code runs (Some o) (place + 1) st ls room c v u h)

    pub protocol_calls : k.kind ≡ kinds.Protocol → slice_get code place ≡ Some (invokevirtual (method_reference p i)) →
        (x : World) (o : ℕ) (vs : List Value) (s : Shared) (q : Messages) → slice_get x o ≡ Some k.class → AllFit p x vs (param_types k) →
        Callable p ok x k (Some o) → Heap p ok x s → Holds inputs q me s.events →
        Follows (step program me) level After (moment p r place (st ++ held.Object o ∷ map flat vs) ls s q)
        (telling o (text_at p k.name) (low.call i (Some o) vs) s)
    protocol_calls e code_at x o vs s q of fits callable heap holds =
        let n : k.kind ≢ kinds.Main = (λ g. absurd (let both = sym e ∙ g in cc)) in
        let frame : Running = inner r (place + 1) st ls k.class stands.method (Some o) in
        let args : List Held = held.Object o ∷ map flat vs in
        let c : Moment = moment p r place (st ++ args) ls s q in
        let event : Event = seen.Enter o (text_at p k.name) in
        let t : Shared = record s { events = s.events ++ event ∷ [] } in
        follows_then (step program me) level (ReturnsWell frame k stands.code (Some o)) After c (low.call i (Some o) vs t)
        (λ v u. Gives v (record u { events = u.events ++ seen.Leave o (answer_of v) ∷ [] }))
        (calls.call i k allowed at n stands frame refl refl x (Some o) vs callable fits t (noted p ok x s t.events heap) q
        (seen_holds inputs q me s.events event (λ peer. refl) holds) c
        (lead_of (step program me) c (moment p frame 0 [] (first_locals k args) t q) (Some event)
        (call_is calls.known i k stands is n r m code runs kinds.Protocol e (λ g. cc) place st args ls s q code_at
        (object_meets x o s heap of, args_meet n x vs s heap fits) (args_fit p ok k is n x (Some o) vs callable.suits fits)
        ∙ entered_is calls.known i k stands is n r m code runs place st args ls s q (Some o)
        (Some (seen.Enter o (name_of_method (linked.method_at program k.class stands.method))))
        ∙ ap (λ name. Went (moment p frame 0 [] (first_locals k args) t q).machine q (Some (seen.Enter o name))) stands.named) refl))
        (λ v u h. told_back calls.known i k stands is n r m code runs o (Some o) (place + 1) st ls room c v u h)

    -- a call on `null` ends the run
    pub null_calls : k.kind ≡ kinds.Protocol → slice_get code place ≡ Some (invokevirtual (method_reference p i)) →
        (x : World) (vs : List Value) (s : Shared) (q : Messages) → AllFit p x vs (param_types k) → Heap p ok x s →
        EndsAlike (step program me) level (moment p r place (st ++ held.Null ∷ map flat vs) ls s q) values.Null s.events
    null_calls e code_at x vs s q fits heap =
        let n : k.kind ≢ kinds.Main = (λ g. absurd (let both = sym e ∙ g in cc)) in
        let args : List Held = held.Null ∷ map flat vs in
        let c : Moment = moment p r place (st ++ args) ls s q in
        record {
          moment = c;
          comes = stays (step program me) c;
          events_are = refl;
          stops = call_is calls.known i k stands is n r m code runs kinds.Protocol e (λ g. cc) place st args ls s q code_at
              (refl, args_meet n x vs s heap fits)
              (args_fit p ok k is n x (Some 0) vs (ap (λ kind. suits (runs_on_object kind) (Some 0)) e) fits);
        }
