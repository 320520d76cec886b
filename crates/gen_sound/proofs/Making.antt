-- `new`: the object is made, and its constructor sets the fields that have a written value.
use Rattle.std.proofs.Common.{◌≡◌, ℕ, zero, suc, ◌+◌, ◌≤◌, true, false, List, [], ◌∷◌, ◌++◌, length, map, Option, Some, None, refl, sym, ap}
use Rattle.std.proofs.Common.{ap₂, ◌∙◌, subst, append-nil, append_assoc, arith, pos, codes, ◌-◌, replicate}
use Rattle.std.specs.Prelude.{slice_get, slice_set, unwrap_or, option_map, option_and_then, max}
use Rattle.std.specs.Str.{bytes_eq}
use Rattle.std.proofs.lemmas.List.{length-map, length-append}
use Rattle.mg_text.specs.Call.{Name}
use Rattle.mg_text.specs.declared.event.Event.TheVariants as seen
use Rattle.jv_values.specs.Values.{Value, Row, Shared, Instance, Inputs}
use Rattle.jv_values.specs.Values as values
use Rattle.jv_core.specs.declared.program.CoreType.{CoreType}
use Rattle.jv_core.specs.declared.program.CoreType.TheVariants as types
use Rattle.jv_core.specs.Tree.{Class, Field, Method, Program, Expr, Int, Truth, Text, Null, Variable, Constant, Neg, Not, Binary, Protocol}
use Rattle.jv_core.specs.Tree.{Helper, Static, Equals, Concat, Session, New, Then, NoStmt, Eval}
use Rattle.jv_core.specs.Lookup.{text_at, enum_text, class_numbered}
use Rattle.jv_core.specs.Members.{IsUsable, IsField, MayBeginWith}
use Rattle.jv_core.specs.Conditions.{IsCore}
use Rattle.jv_core.specs.Meaning.{default_of, written, begins_with, new_fields}
use Rattle.vm_model.specs.declared.value.Value.{Value as Held}
use Rattle.vm_model.specs.declared.value.Value.TheVariants as held
use Rattle.vm_model.specs.Program as linked
use Rattle.vm_model.specs.Types.{Named, type_of, signature_of}
use Rattle.vm_model.specs.Links.{Outline, field_made}
use Rattle.vm_model.specs.Messages.{Messages}
use Rattle.vm_model.specs.Machine as machine
use Rattle.vm_model.specs.Machine.{Machine, Stepped, Went}
use Rattle.vm_model.specs.declared.linked.Built.TheVariants as built
use Rattle.vm_model.specs.Actions.{Silent, Push, Make, Double, Call, Use, Write, Return}
use Rattle.vm_model.specs.Tests as tests
use Rattle.vm_model.specs.Tests.{Any, Typed, misfit, object_name, call_takes, descriptor_in, is_sort, max_locals_in, max_stack_in}
use Rattle.vm_model.specs.Tests.{misfit_type}
use Rattle.vm_model.specs.Step.{step, blank, blank_of, writes_object}
use Rattle.vm_model.specs.BuiltIns.{object_class}
use Rattle.gen_rules.specs.Symbolic.{Instr, new, dup, invokespecial, return, push, push_text, aconst_null, aload, putfield}
use Rattle.gen_rules.specs.Members.{class_name, type_in, field_descriptor, init_of, method_descriptor, field_reference}
use Rattle.gen_rules.specs.Classes.{constructor_code, push_constant, initialised, all_initialised, constructor_stack}
use Rattle.gen_rules.specs.Linked.{declared_field}
use Rattle.gen_rules.specs.Frames.{max_stack, depth_of_all}
use Rattle.mg_text.specs.declared.place.Place.{Place}
use Rattle.std.specs.List.{AllByRecursion}
use Rattle.jv_sound.proofs.Worlds.{Fits, FieldsFit}
use Rattle.jv_sound.proofs.Worlds as worlds
use Rattle.jv_sound.proofs.Lists.{some_is, same_name}
use Rattle.gen_sound.specs.Following.{Moment, Comes, Leads}
use Rattle.gen_sound.specs.Related.{Running, moment, flat, object_in, heap_in, action_of, RunsCode}
use Rattle.gen_sound.proofs.Steps.{stays, comes_on, lead_of}
use Rattle.gen_sound.proofs.LocalSteps.{load_goes}
use Rattle.cls_verify.proofs.Acts.{AllMeet, acts_well, as_many}
use Rattle.gen_sound.proofs.Taking.{step_is, step_takes}
use Rattle.gen_sound.proofs.Instructions.{push_does}
use Rattle.gen_sound.proofs.Calling.{waiting, inner}
use Rattle.gen_sound.proofs.Forms.{goes as goes_there, push_goes}
use Rattle.gen_sound.proofs.Linkage.{Linkage, ConstructorStands, sized, constructor_method}
use Rattle.gen_sound.proofs.Fitting.{pass, class_number}
use Rattle.gen_sound.proofs.Fields.{flat_row}

-- what the machine puts into a field of a new object
abbrev pub blank_value : CoreType → Value
blank_value types.Boolean = values.Truth false
blank_value types.Text = values.Null
blank_value (types.Object c) = values.Null
blank_value _ = values.Int (pos 0)

-- a field without a written value begins with it
pub blank_is_default : (p : Program) (t : CoreType) → IsUsable p t → MayBeginWith p t None → blank_value t ≡ default_of t
blank_is_default p types.Void u h = absurd u
blank_is_default p types.Int u h = refl
blank_is_default p types.Boolean u h = refl
blank_is_default p types.Text u h = absurd h
blank_is_default p (types.Object c) u h = refl
blank_is_default p (types.Enum e) u h = absurd h

abbrev pub blank_row : Program → List Field → Row Name
blank_row p ds = map (λ d. (text_at p d.name, blank_value d.ty)) ds

blank_type : (p : Program) (t : CoreType) → blank_of (Some (type_in p t)) ≡ flat (blank_value t)
blank_type p types.Void = refl
blank_type p types.Int = refl
blank_type p types.Boolean = refl
blank_type p types.Text = refl
blank_type p (types.Object c) = refl
blank_type p (types.Enum e) = refl

blank_all : (p : Program) (ds : List Field) →
    ((i : ℕ) (d : Field) → slice_get ds i ≡ Some d → type_of (field_descriptor p d.ty) ≡ Some (type_in p d.ty)) →
    map blank (map field_made (map (declared_field p) ds)) ≡ flat_row (blank_row p ds)
blank_all p [] h = refl
blank_all p (d ∷ ds) h =
    ap₂ (λ x xs. x ∷ xs) (ap blank_of (h 0 d refl) ∙ blank_type p d.ty) (blank_all p ds (λ i e g. h (suc i) e g))

init_read : (p : Program) (c : ℕ) (k : Class) →
    signature_of (method_descriptor p (constructor_method p c k)) ≡ Some (record { params = []; result = None })
unfolding signature_of
init_read p c k = refl

-- a written constant is pushed
pub pushes : (os : List Outline) (p : Program) (e : Expr) (v : Value) → written p e ≡ Some v →
    action_of os (push_constant e) ≡ Some (Push (flat v))
pushes os p (Int q z) v e = subst (λ x. action_of os (push z) ≡ Some (Push (flat x))) (some_is e) (push_does os z)
pushes os p (Truth q true) v e = subst (λ x. action_of os (push (pos 1)) ≡ Some (Push (flat x))) (some_is e) (push_does os (pos 1))
pushes os p (Truth q false) v e = subst (λ x. action_of os (push (pos 0)) ≡ Some (Push (flat x))) (some_is e) (push_does os (pos 0))
pushes os p (Text q t) v e = subst (λ x. action_of os (push_text t) ≡ Some (Push (flat x))) (some_is e) refl
pushes os p (Null q) v e = subst (λ x. action_of os aconst_null ≡ Some (Push (flat x))) (some_is e) refl
pushes os p (Constant q of n) v e = go (enum_text p of) e
  where
    go : (o : Option Name) → option_map (λ name. values.Constant name n) o ≡ Some v → action_of os (push (pos n)) ≡ Some (Push (flat v))
    go None e = absurd (cc)
    go (Some name) e = subst (λ x. action_of os (push (pos n)) ≡ Some (Push (flat x))) (some_is e) (push_does os (pos n))
pushes os p (Variable q x) v e = absurd (cc)
pushes os p (Neg q a) v e = absurd (cc)
pushes os p (Not q a) v e = absurd (cc)
pushes os p (Binary q o a b) v e = absurd (cc)
pushes os p (Protocol q x n args) v e = absurd (cc)
pushes os p (Helper q n args) v e = absurd (cc)
pushes os p (Static q n args) v e = absurd (cc)
pushes os p (Equals q a b) v e = absurd (cc)
pushes os p (Concat q a b) v e = absurd (cc)
pushes os p (Session q x args) v e = absurd (cc)
pushes os p (New q x) v e = absurd (cc)

-- How much room the constructor's frame has.

sized_one : (p : Program) (q : Place) (m : Method) (inits : List Instr) →
    1 ≤ max (depth_of_all p m (Then (Eval q (sized q inits)) NoStmt)) 0
sized_one p q m [] = omega arith
sized_one p q m (i ∷ more) = omega arith

sized_two : (p : Program) (q : Place) (m : Method) (inits : List Instr) → constructor_stack inits ≡ 2 →
    2 ≤ max (depth_of_all p m (Then (Eval q (sized q inits)) NoStmt)) 0
sized_two p q m [] e = absurd (omega (arith, e))
sized_two p q m (i ∷ more) e = omega arith

two_room : (p : Program) (c : ℕ) (fs : List Field) (f i : ℕ) (d : Field) (e : Expr) → slice_get fs i ≡ Some d → d.value ≡ Some e →
    constructor_stack (all_initialised p c f fs) ≡ 2
two_room p c [] f i d e g v = absurd (cc)
two_room p c (x ∷ fs) f zero d e g v =
    ap (λ o. constructor_stack (initialised p c f o ++ all_initialised p c (suc f) fs)) (ap (λ y. y.value) (some_is g) ∙ v)
two_room p c (x ∷ fs) f (suc i) d e g v = go (two_room p c fs (suc f) i d e g v) x.value
  where
    go : constructor_stack (all_initialised p c (suc f) fs) ≡ 2 → (o : Option Expr) →
        constructor_stack (initialised p c f o ++ all_initialised p c (suc f) fs) ≡ 2
    go ih None = ih
    go ih (Some y) = refl

constant_meets : (p : Program) (program : linked.Program) (heap : List machine.Object) (v : Value) (t : CoreType) → Fits p [] v t →
    misfit_type program heap (type_in p t) (flat v) ≡ None
constant_meets p program heap v t worlds.int = refl
constant_meets p program heap v t worlds.truth = refl
constant_meets p program heap v t worlds.text = refl
constant_meets p program heap v t worlds.null = refl
constant_meets p program heap v t (worlds.object e) = absurd (cc)
constant_meets p program heap v t (worlds.constant e) = refl

set_front : (done : Row Name) (x : Name) (u v : Value) (rest : Row Name) →
    flat_row (done ++ (x, v) ∷ rest) ≡ slice_set (flat_row (done ++ (x, u) ∷ rest)) (length done) (flat v)
set_front [] x u v rest = refl
set_front (e ∷ done) x u v rest = ap (λ ys. flat e.1 ∷ ys) (set_front done x u v rest)

one_more : (n : ℕ) → n + 1 ≡ suc n
one_more n = omega arith

abbrev first_value : Row Name → Value → Value
first_value [] v = v
first_value (e ∷ row) v = e.1

abbrev rest_of : Row Name → Row Name
rest_of [] = []
rest_of (e ∷ row) = row

both_some : (x : Name) (v : Value) (rest : Row Name) (o : Option Value) (r : Option (Row Name)) →
    option_and_then (λ v. option_map (λ row. (x, v) ∷ row) r) o ≡ Some ((x, v) ∷ rest) → (o ≡ Some v) × (r ≡ Some rest)
both_some x v rest None r e = absurd (cc)
both_some x v rest (Some u) None e = absurd (cc)
both_some x v rest (Some u) (Some row) e =
    (ap (λ l. Some (first_value l u)) (some_is e), ap (λ l. Some (rest_of l)) (some_is e))

-- The last object of a heap.

last_more : {A B : Type 0} (f : A → B) (xs : List A) (x : A) → map f (xs ++ x ∷ []) ≡ map f xs ++ f x ∷ []
last_more f [] x = refl
last_more f (y ∷ xs) x = ap (λ ys. f y ∷ ys) (last_more f xs x)

at_last : {A B : Type 0} (f : A → B) (xs : List A) (x : B) → slice_get (map f xs ++ x ∷ []) (length xs) ≡ Some x
at_last f [] x = refl
at_last f (y ∷ xs) x = at_last f xs x

set_last : {A B : Type 0} (f : A → B) (xs : List A) (x z : B) → slice_set (map f xs ++ x ∷ []) (length xs) z ≡ map f xs ++ z ∷ []
set_last f [] x z = refl
set_last f (y ∷ xs) x z = ap (λ ys. f y ∷ ys) (set_last f xs x z)

module _ (p : Program) (ok : IsCore p) (os : List Outline) (program : linked.Program) (inputs : Inputs) (me : ℕ)
    (known : Linkage p os program me) (c : ℕ) (k : Class) (at : slice_get p.classes c ≡ Some k)
    (stands : ConstructorStands p os program me c k) (s : Shared) where
  abbrev name : Name
  name = text_at p k.name

  -- the object is made, and its fields are these so far
  abbrev pub state : Row Name → Shared
  state row = record {
    heap = s.heap ++ record { class = name; fields = row } ∷ [];
    events = s.events ++ seen.Made (length s.heap) name ∷ [];
  }

  abbrev object : List Held → machine.Object
  object fields = record { class = c; fields = fields }

  number_is : unwrap_or (class_numbered p name) 0 ≡ c
  number_is = ap (λ x. unwrap_or x 0) (class_number p ok os program me known c k at)

  heap_is : (row : Row Name) → heap_in p (state row).heap ≡ heap_in p s.heap ++ object (flat_row row) ∷ []
  heap_is row =
      last_more (object_in p) s.heap (record { class = name; fields = row })
      ∙ ap (λ j. heap_in p s.heap ++ record { class = j; fields = flat_row row } ∷ []) number_is

  pub object_there : (row : Row Name) → slice_get (heap_in p (state row).heap) (length s.heap) ≡ Some (object (flat_row row))
  object_there row = ap (λ h. slice_get h (length s.heap)) (heap_is row) ∙ at_last (object_in p) s.heap (object (flat_row row))

  pub set_there : (row set : Row Name) →
      slice_set (heap_in p (state row).heap) (length s.heap) (object (flat_row set)) ≡ heap_in p (state set).heap
  set_there row set =
      ap (λ h. slice_set h (length s.heap) (object (flat_row set))) (heap_is row)
      ∙ set_last (object_in p) s.heap (object (flat_row row)) (object (flat_row set))
      ∙ sym (heap_is set)

  pub object_meets : (row : Row Name) →
      misfit program (heap_in p (state row).heap) (Typed (Named (linked.class_name program c))) (held.Object (length s.heap)) ≡ None
  object_meets row =
      let wanted : Name = linked.class_name program c in
      let heap : List machine.Object = heap_in p (state row).heap in
      pass (bytes_eq wanted (codes "java/lang/Object")) (bytes_eq wanted (object_name program (slice_get heap (length s.heap)))) None _
      (ap (bytes_eq wanted) (ap (object_name program) (object_there row)) ∙ same_name wanted)

  blanks : map blank (linked.fields_in (linked.class_at program c)) ≡ flat_row (blank_row p k.fields)
  blanks =
      ap (λ fs. map blank fs) (known.fields_are c k at) ∙ blank_all p k.fields (λ i d e. (known.field c i k d at e).typed)

  module _ (r : Running) (m : Method) (code : List Instr) (runs : RunsCode p os program me r m code) (n : ℕ) (ls : List (Option Held))
      (q : Messages) where
    abbrev made_to : (place : ℕ) (st : List Held) (number : ℕ) → Name → List machine.Object → Stepped
    made_to place st number called heap = Went (record {
      frame = record {
        class = r.class;
        method = r.method;
        place = place + 1;
        locals = ls;
        operands = st ++ held.Object number ∷ [];
        told = r.told;
      };
      callers = r.callers;
      heap = heap;
    }) q (Some (seen.Made number called))

    -- the object is made, with blank fields
    pub make_goes : (place : ℕ) (st : List Held) → slice_get code place ≡ Some (new (class_name p c)) → length st + 1 ≤ max_stack p m →
        Leads (step program me) (moment p r place st ls s q)
        (moment p r (place + 1) (st ++ held.Object (length s.heap) ∷ []) ls (state (blank_row p k.fields)) q)
    make_goes place st code_at room =
        let fresh : List machine.Object = heap_in p s.heap ++ object (map blank (linked.fields_in (linked.class_at program c))) ∷ [] in
        lead_of (step program me) (moment p r place st ls s q)
        (moment p r (place + 1) (st ++ held.Object (length s.heap) ∷ []) ls (state (blank_row p k.fields)) q)
        (Some (seen.Made (length s.heap) name))
        (step_takes p os program me r m code runs place st ls s q (new (class_name p c)) (Make c) code_at stands.makes st [] [] 1
        (sym (append-nil st)) refl tt room
        ∙ ap (λ x. made_to place st x (linked.class_name program c) fresh) (length-map s.heap (object_in p))
        ∙ ap (λ x. made_to place st (length s.heap) x fresh) (known.class_named c k at)
        ∙ ap (made_to place st (length s.heap) name)
        (ap (λ fs. heap_in p s.heap ++ object fs ∷ []) blanks ∙ sym (heap_is (blank_row p k.fields)))) refl

    -- it is doubled
    pub dup_goes : (row : Row Name) (place : ℕ) (st : List Held) → slice_get code place ≡ Some dup → length st + 2 ≤ max_stack p m →
        Leads (step program me) (moment p r place (st ++ held.Object (length s.heap) ∷ []) ls (state row) q)
        (moment p r (place + 1) (st ++ held.Object (length s.heap) ∷ held.Object (length s.heap) ∷ []) ls (state row) q)
    dup_goes row place st code_at room =
        let object : Held = held.Object (length s.heap) in
        goes_there p ok os program inputs me r m code runs n place (st ++ object ∷ []) ls (state row) q (place + 1)
        (st ++ object ∷ object ∷ [])
        (step_takes p os program me r m code runs place (st ++ object ∷ []) ls (state row) q dup Double code_at refl st (object ∷ [])
        (Any ∷ []) 2
        refl refl (refl, tt) room)

    -- the constructor is entered, and the object waits below
    pub enter_goes : (row : Row Name) (place : ℕ) (st : List Held) → slice_get code place ≡ Some (invokespecial (init_of (class_name p c)))
        →
        Leads (step program me) (moment p r place (st ++ held.Object (length s.heap) ∷ held.Object (length s.heap) ∷ []) ls (state row) q)
        (moment p (inner r (place + 1) (st ++ held.Object (length s.heap) ∷ []) ls c 0 None) 0 []
        (Some (held.Object (length s.heap)) ∷ []) (state row) q)
    enter_goes row place st code_at =
        let object : Held = held.Object (length s.heap) in
        let rest : List Held = st ++ object ∷ [] in
        let full : List Held = st ++ object ∷ object ∷ [] in
        let frame : Running = inner r (place + 1) rest ls c 0 None in
        let h = stands.runs frame refl refl in
        let before : Machine = (moment p r place full ls (state row) q).machine in
        let takes = call_takes program Silent c (linked.method_at program c 0) in
        let params : tests.params_in (signature_of (descriptor_in (linked.method_at program c 0))) ≡ [] =
        ap (λ o. tests.params_in (signature_of (descriptor_in o))) h.at
        ∙ ap (λ d. tests.params_in (signature_of d)) h.descriptor
        ∙ ap tests.params_in (init_read p c k) in
        let size : max_locals_in (linked.method_at program c 0) ≡ 1 = ap max_locals_in h.at ∙ h.locals in
        let meet : AllMeet program (heap_in p (state row).heap) takes (object ∷ []) =
        subst (λ ts. AllMeet program (heap_in p (state row).heap) (Typed (Named (linked.class_name program c)) ∷ map Typed ts)
        (object ∷ []))
        (sym params) (object_meets row, tt) in
        let count : length takes ≡ 1 = as_many program (heap_in p (state row).heap) takes (object ∷ []) meet in
        lead_of (step program me) (moment p r place full ls (state row) q) (moment p frame 0 [] (Some object ∷ []) (state row) q) None
        (step_is p os program me r m code runs place full ls (state row) q (invokespecial (init_of (class_name p c))) (Call Silent c 0)
        code_at
        stands.called
        ∙ acts_well program q before me (Call Silent c 0) rest (object ∷ []) (sym (append_assoc st (object ∷ []) (object ∷ []))) meet refl
        (subst (λ j. length takes ≤ j) (sym size) (subst (λ j. j ≤ 1) (sym count) (omega arith))) refl (omega arith)
        ∙ ap (λ j. Went (record {
          frame = record {
            class = c;
            method = 0;
            place = 0;
            locals = Some object ∷ replicate (j - 1) None;
            operands = [];
            told = None;
          };
          callers = waiting r (place + 1) rest ls ∷ r.callers;
          heap = heap_in p (state row).heap;
        }) q None) size) (sym (append-nil (state row).events))

    -- it is left, and the object lies on top
    pub leave_goes : (row : Row Name) (place at_call : ℕ) (st : List Held) → slice_get (constructor_code p c k) place ≡ Some return →
        length st + 1 ≤ max_stack p m →
        Leads (step program me)
        (moment p (inner r at_call (st ++ held.Object (length s.heap) ∷ []) ls c 0 None) place [] (Some (held.Object (length s.heap)) ∷ [])
        (state row) q) (moment p r at_call (st ++ held.Object (length s.heap) ∷ []) ls (state row) q)
    leave_goes row place at_call st code_at room =
        let object : Held = held.Object (length s.heap) in
        let rest : List Held = st ++ object ∷ [] in
        let frame : Running = inner r at_call rest ls c 0 None in
        let h = stands.runs frame refl refl in
        let before = moment p frame place [] (Some object ∷ []) (state row) q in
        let long : length rest ≡ length st + 1 = length-append st (object ∷ []) in
        lead_of (step program me) before (moment p r at_call rest ls (state row) q) None
        (step_is p os program me frame (constructor_method p c k) (constructor_code p c k) h place [] (Some object ∷ []) (state row) q
        return
        (Return None) code_at refl
        ∙ acts_well program q before.machine me (Return None) [] [] refl tt refl (omega arith)
        (ap (is_sort None) (ap (λ o. tests.result_in (signature_of (descriptor_in o))) h.at
        ∙ ap (λ d. tests.result_in (signature_of d)) h.descriptor
        ∙ ap tests.result_in (init_read p c k)))
        (subst (λ j. length rest + 0 ≤ j) (sym (ap max_stack_in runs.at ∙ runs.stack)) (omega (arith, room, long)))
        ∙ ap (λ xs. Went (moment p r at_call xs ls (state row) q).machine q None) (append-nil rest)) (sym (append-nil (state row).events))

  -- In the frame of the constructor.
  module _ (rc : Running) (h : RunsCode p os program me rc (constructor_method p c k) (constructor_code p c k)) (n : ℕ) (q : Messages) where
    abbrev mc : Method
    mc = constructor_method p c k

    abbrev body : List Instr
    body = constructor_code p c k

    abbrev obj : Held
    obj = held.Object (length s.heap)

    abbrev cls : List (Option Held)
    cls = Some obj ∷ []

    abbrev pub In : (place : ℕ) → List Held → Row Name → Moment
    In place st row = moment p rc place st cls (state row) q

    one_fits : 1 ≤ max_stack p mc
    one_fits = sized_one p k.place mc (all_initialised p c 0 k.fields)

    this_goes : (place : ℕ) (row : Row Name) → slice_get body place ≡ Some (aload 0) →
        Leads (step program me) (In place [] row) (In (place + 1) (obj ∷ []) row)
    this_goes place row code_at =
        load_goes p ok os program inputs me rc mc body h n place [] cls (state row) q (types.Object 0) 0 (values.Object (length s.heap))
        code_at refl
        refl one_fits

    super_goes : (place : ℕ) (row : Row Name) → slice_get body place ≡ Some (invokespecial (init_of object_class)) →
        Leads (step program me) (In place (obj ∷ []) row) (In (place + 1) [] row)
    super_goes place row code_at =
        goes_there p ok os program inputs me rc mc body h n place (obj ∷ []) cls (state row) q (place + 1) []
        (step_takes p os program me rc mc body h place (obj ∷ []) cls (state row) q (invokespecial (init_of object_class)) (Use built.Init)
        code_at
        refl [] (obj ∷ []) (Typed (Named (codes "java/lang/Object")) ∷ []) 0 refl refl (refl, tt) (omega arith))

    abbrev put_to : (place : ℕ) → List machine.Object → Stepped
    put_to place heap = Went (record {
      frame = record {
        class = rc.class;
        method = rc.method;
        place = place + 1;
        locals = cls;
        operands = [];
        told = rc.told;
      };
      callers = rc.callers;
      heap = heap;
    }) q None

    -- a field takes the value on top
    set_goes : (f : ℕ) (d : Field) → slice_get k.fields f ≡ Some d → (place : ℕ) (row set : Row Name) (v : Value) →
        slice_get body place ≡ Some (putfield (field_reference p c f)) → Fits p [] v d.ty → IsUsable p d.ty →
        flat_row set ≡ slice_set (flat_row row) f (flat v) →
        Leads (step program me) (In place (obj ∷ flat v ∷ []) row) (In (place + 1) [] set)
    set_goes f d of place row set v code_at fits usable same =
        let there = known.field c f k d at of in
        let args : List Held = obj ∷ flat v ∷ [] in
        let heap : List machine.Object = heap_in p (state row).heap in
        let meets : misfit program heap (tests.type_in (linked.field_at program c f)) (flat v) ≡ None =
        ap (λ o. misfit program heap (tests.type_in o) (flat v)) there.described
        ∙ ap (λ o. misfit program heap (elim o [ None ↦ Any | Some type ↦ Typed type ]) (flat v)) there.typed
        ∙ constant_meets p program heap v d.ty fits in
        lead_of (step program me) (In place args row) (In (place + 1) [] set) None
        (step_takes p os program me rc mc body h place args cls (state row) q (putfield (field_reference p c f)) (Write c f) code_at
        there.writes []
        args (Typed (Named (linked.class_name program c)) ∷ tests.type_in (linked.field_at program c f) ∷ []) 0 refl refl
        (object_meets row, (meets, tt)) (omega arith)
        ∙ ap (writes_object q (In place args row).machine [] (length s.heap) f (flat v)) (object_there row)
        ∙ ap (λ xs. put_to place (slice_set heap (length s.heap) (object xs))) (sym same)
        ∙ ap (put_to place) (set_there row set)) (sym (append-nil (state row).events))

    -- what stands in the constructor's code from a place on
    abbrev Lies : (place : ℕ) → List Instr → Type 0
    Lies place code = (i : ℕ) (j : Instr) → slice_get code i ≡ Some j → slice_get body (place + i) ≡ Some j

    first_lies : (place : ℕ) (x : Instr) (more : List Instr) → Lies place (x ∷ more) → slice_get body place ≡ Some x
    first_lies place x more l = let same : place + 0 ≡ place = omega arith in subst (λ j. slice_get body j ≡ Some x) same (l 0 x refl)

    more_lies : (place : ℕ) (x : Instr) (more : List Instr) → Lies place (x ∷ more) → Lies (place + 1) more
    more_lies place x more l i j e =
        let same : place + suc i ≡ place + 1 + i = omega arith in subst (λ y. slice_get body y ≡ Some j) same (l (suc i) j e)

    record Sets (place : ℕ) (tail : List Instr) (row set : Row Name) : Type 0 where
      to : ℕ
      comes : Comes (step program me) (In place [] row) (In to [] set)
      lies : Lies to tail

    sets_later : (place later : ℕ) (tail : List Instr) (row between set : Row Name) →
        Comes (step program me) (In place [] row) (In later [] between) → Sets later tail between set → Sets place tail row set
    sets_later place later tail row between set a b = record {
      to = b.to;
      comes = comes_on (step program me) (In place [] row) (In later [] between) (In b.to [] set) a b.comes;
      lies = b.lies;
    }

    -- one field
    set_one : (f : ℕ) (d : Field) → slice_get k.fields f ≡ Some d → IsField p d → (value : Option Expr) → d.value ≡ value → (v : Value) →
        begins_with p d.ty value ≡ Some v → Fits p [] v d.ty → (place : ℕ) (done rest : Row Name) → f ≡ length done →
        (more tail : List Instr) →
        Lies place ((initialised p c f value ++ more) ++ tail) → (set : Row Name) →
        ((later : ℕ) → Lies later (more ++ tail) → Sets later tail (done ++ (text_at p d.name, v) ∷ rest) set) →
        Sets place tail (done ++ (text_at p d.name, blank_value d.ty) ∷ rest) set
    set_one f d of is None has v e fits place done rest many more tail lies set go_on =
        let blank_is : blank_value d.ty ≡ v = blank_is_default p d.ty is.type (subst (MayBeginWith p d.ty) has is.begins) ∙ some_is e in
        subst (λ u. Sets place tail (done ++ (text_at p d.name, u) ∷ rest) set) (sym blank_is) (go_on place lies)
    set_one f d of is (Some x) has v e fits place done rest many more tail lies set go_on =
        let row : Row Name = done ++ (text_at p d.name, blank_value d.ty) ∷ rest in
        let next : Row Name = done ++ (text_at p d.name, v) ∷ rest in
        let second = more_lies place (aload 0) (push_constant x ∷ putfield (field_reference p c f) ∷ (more ++ tail)) lies in
        let third = more_lies (place + 1) (push_constant x) (putfield (field_reference p c f) ∷ (more ++ tail)) second in
        let fourth = more_lies (place + 1 + 1) (putfield (field_reference p c f)) (more ++ tail) third in
        let two : 2 ≤ max_stack p mc = sized_two p k.place mc (all_initialised p c 0 k.fields) (two_room p c k.fields 0 f d x of has) in
        let same : flat_row next ≡ slice_set (flat_row row) f (flat v) =
        subst (λ j. flat_row next ≡ slice_set (flat_row row) j (flat v)) (sym many) (set_front done (text_at p d.name) (blank_value d.ty) v
        rest) in
        sets_later place (place + 1 + 1 + 1) tail row next set
        (comes_on (step program me) (In place [] row) (In (place + 1) (obj ∷ []) row) (In (place + 1 + 1 + 1) [] next)
        (this_goes place row (first_lies place (aload 0) (push_constant x ∷ putfield (field_reference p c f) ∷ (more ++ tail)) lies)).comes
        (comes_on (step program me) (In (place + 1) (obj ∷ []) row) (In (place + 1 + 1) (obj ∷ flat v ∷ []) row)
        (In (place + 1 + 1 + 1) [] next)
        (push_goes p ok os program inputs me rc mc body h n (place + 1) (obj ∷ []) cls (state row) q (push_constant x) (flat v)
        (first_lies (place + 1) (push_constant x) (putfield (field_reference p c f) ∷ (more ++ tail)) second) (pushes os p x v e) two).comes
        (set_goes f d of (place + 1 + 1) row next v
        (first_lies (place + 1 + 1) (putfield (field_reference p c f)) (more ++ tail) third) fits is.type same).comes))
        (go_on (place + 1 + 1 + 1) fourth)

    inits_do : (ds : List Field) (done final : Row Name) (place : ℕ) (tail : List Instr) →
        ((i : ℕ) (d : Field) → slice_get ds i ≡ Some d → slice_get k.fields (length done + i) ≡ Some d) → AllByRecursion (IsField p) ds →
        FieldsFit p [] ds final → new_fields p ds ≡ Some final → Lies place (all_initialised p c (length done) ds ++ tail) →
        Sets place tail (done ++ blank_row p ds) (done ++ final)
    inits_do [] done final place tail there all worlds.none e lies =
        record { to = place; comes = stays (step program me) (In place [] (done ++ [])); lies = lies }
    inits_do (d ∷ ds) done final place tail there all (worlds.more {v = v} {row = rest} fit fits) e lies =
        let x : Name = text_at p d.name in
        let parts = both_some x v rest (begins_with p d.ty d.value) (new_fields p ds) e in
        let longer : Row Name = done ++ (x, v) ∷ [] in
        let long : length longer ≡ suc (length done) = length-append done ((x, v) ∷ []) ∙ one_more (length done) in
        let here : length done + 0 ≡ length done = omega arith in
        set_one (length done) d (subst (λ j. slice_get k.fields j ≡ Some d) here (there 0 d refl)) all.0 d.value refl v parts.0 fit place
        done
        (blank_row p ds) refl (all_initialised p c (suc (length done)) ds) tail lies (done ++ (x, v) ∷ rest)
        (λ later l.
        subst (λ r. Sets later tail r (done ++ (x, v) ∷ rest)) (append_assoc done ((x, v) ∷ []) (blank_row p ds))
        (subst (λ r. Sets later tail (longer ++ blank_row p ds) r) (append_assoc done ((x, v) ∷ []) rest)
        (inits_do ds longer rest later tail
        (λ i g at_i. let same : length done + suc i ≡ length longer + i = omega (arith, long) in
        subst (λ j. slice_get k.fields j ≡ Some g) same (there (suc i) g at_i)) all.1 fits parts.1
        (subst (λ j. Lies later (all_initialised p c j ds ++ tail)) (sym long) l))))

    -- the whole constructor
    pub record Constructs (final : Row Name) : Type 0 where
      pub to : ℕ
      pub comes : Comes (step program me) (In 0 [] (blank_row p k.fields)) (In to [] final)
      pub returns : slice_get body to ≡ Some return

    pub constructs : (final : Row Name) → FieldsFit p [] k.fields final → new_fields p k.fields ≡ Some final → Constructs final
    constructs final fits e =
        let row : Row Name = blank_row p k.fields in
        let inits : List Instr = all_initialised p c 0 k.fields ++ return ∷ [] in
        let whole : Lies 0 body = (λ i j g. let same : i ≡ 0 + i = omega arith in subst (λ y. slice_get body y ≡ Some j) same g) in
        let second : Lies (0 + 1) (invokespecial (init_of object_class) ∷ inits) =
        more_lies 0 (aload 0) (invokespecial (init_of object_class) ∷ inits) whole in
        let third : Lies (0 + 1 + 1) inits = more_lies (0 + 1) (invokespecial (init_of object_class)) inits second in
        let s = inits_do k.fields [] final (0 + 1 + 1) (return ∷ [])
        (λ i d g. let same : i ≡ 0 + i = omega arith in subst (λ y. slice_get k.fields y ≡ Some d) same g) (ok.classes c k at).fields fits e
        third in
        record {
          to = s.to;
          comes = comes_on (step program me) (In 0 [] row) (In (0 + 1) (obj ∷ []) row) (In s.to [] final)
              (this_goes 0 row refl).comes
              (comes_on (step program me) (In (0 + 1) (obj ∷ []) row) (In (0 + 1 + 1) [] row) (In s.to [] final)
              (super_goes (0 + 1) row (first_lies (0 + 1) (invokespecial (init_of object_class)) inits second)).comes s.comes);
          returns = first_lies s.to return [] s.lies;
        }

  -- the code of `new`
  pub new_comes : (r : Running) (m : Method) (code : List Instr) (runs : RunsCode p os program me r m code) (n : ℕ)
      (ls : List (Option Held))
      (q : Messages) (place : ℕ) (st : List Held) (final : Row Name) → FieldsFit p [] k.fields final → new_fields p k.fields ≡ Some final →
      slice_get code place ≡ Some (new (class_name p c)) → slice_get code (place + 1) ≡ Some dup →
      slice_get code (place + 1 + 1) ≡ Some (invokespecial (init_of (class_name p c))) → length st + 2 ≤ max_stack p m →
      Comes (step program me) (moment p r place st ls s q)
      (moment p r (place + 1 + 1 + 1) (st ++ held.Object (length s.heap) ∷ []) ls (state final) q)
  new_comes r m code runs n ls q place st final fits e at_new at_dup at_init room =
      let object : Held = held.Object (length s.heap) in
      let row : Row Name = blank_row p k.fields in
      let rc : Running = inner r (place + 1 + 1 + 1) (st ++ object ∷ []) ls c 0 None in
      let done = constructs rc (stands.runs rc refl refl) n q final fits e in
      let cls : List (Option Held) = Some object ∷ [] in
      let c0 = moment p r place st ls s q in
      let c1 = moment p r (place + 1) (st ++ object ∷ []) ls (state row) q in
      let c2 = moment p r (place + 1 + 1) (st ++ object ∷ object ∷ []) ls (state row) q in
      let c3 = moment p rc 0 [] cls (state row) q in
      let c4 = moment p rc done.to [] cls (state final) q in
      let c5 = moment p r (place + 1 + 1 + 1) (st ++ object ∷ []) ls (state final) q in
      comes_on (step program me) c0 c1 c5 (make_goes r m code runs n ls q place st at_new (omega (arith, room))).comes
      (comes_on (step program me) c1 c2 c5 (dup_goes r m code runs n ls q row (place + 1) st at_dup room).comes
      (comes_on (step program me) c2 c3 c5 (enter_goes r m code runs n ls q row (place + 1 + 1) st at_init).comes
      (comes_on (step program me) c3 c4 c5 done.comes
      (leave_goes r m code runs n ls q final done.to (place + 1 + 1 + 1) st done.returns (omega (arith, room))).comes)))
