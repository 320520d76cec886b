-- What the linked program of a core has: each class under its number, and each method under its number in its class.
use Rattle.std.proofs.Common.{◌≡◌, ◌≢◌, ℕ, ◌+◌, Bool, true, false, ◌&&◌, not, List, [], ◌∷◌, ◌++◌, map, Some, None, slice_get, refl, sym}
use Rattle.std.proofs.Common.{ap, ap₂, ◌∙◌, subst, arith}
use Rattle.std.specs.Prelude.{nat_eq, if◌then◌else◌, option_and_then, position, max}
use Rattle.std.specs.List.{AllByRecursion, filter}
use Rattle.std.proofs.lemmas.Bool.Decides.{nat_tests}
use Rattle.mg_text.specs.Call.{Name}
use Rattle.ts_tree.specs.Proper.{AreDistinct}
use Rattle.cls_tree.specs.Pool.{Reference}
use Rattle.vm_model.specs.Program as linked
use Rattle.vm_model.specs.Types.{signature_text, main_signature, signature_of, type_of}
use Rattle.vm_model.specs.Types as descriptors
use Rattle.vm_model.proofs.Spelled.{method_exact, field_exact}
use Rattle.vm_model.specs.Links.{Outline, is_member, is_static, built_in, built_members, member_args, named_args, loaded_member}
use Rattle.vm_model.specs.Links.{method_of_class, args_by, field_of_class, field_made}
use Rattle.vm_model.specs.Actions.{Silent, Call, action, Read, Write, Make}
use Rattle.vm_model.specs.Tests.{name_of_method}
use Rattle.jv_core.specs.declared.program.CoreType.TheVariants as types
use Rattle.jv_core.specs.declared.program.MethodKind.{MethodKind}
use Rattle.jv_core.specs.declared.program.MethodKind.TheVariants as kinds
use Rattle.jv_core.specs.Tree.{Field, Class, Method, Program, Expr, Null, New, Then, NoStmt, Eval}
use Rattle.jv_core.specs.Lookup.{text_at, param_types, is_main}
use Rattle.jv_core.specs.Members.{IsField}
use Rattle.jv_core.specs.Conditions.{IsMethod, IsCore}
use Rattle.gen_rules.specs.Symbolic.{Instr, invokespecial, getfield, putfield, new}
use Rattle.gen_rules.specs.Members.{member, class_name, type_in, result_in, descriptor_of, method_descriptor, method_member}
use Rattle.gen_rules.specs.Members.{method_reference, field_member, field_reference, field_descriptor, init_of, init_descriptor}
use Rattle.mg_text.specs.declared.place.Place.{Place}
use Rattle.gen_rules.specs.Frames.{depth_of_all, max_locals}
use Rattle.gen_rules.specs.Templates.{IsCode}
use Rattle.gen_rules.specs.Classes.{Compiled, compiled, access_of, constructors, methods_in, IsCompiledClass, IsCompiled, class_file}
use Rattle.gen_rules.specs.Classes.{constructor, constructor_code, constructor_stack, all_initialised, method_in_file}
use Rattle.gen_rules.specs.Linked.{declared_method, or_nothing, outlines_of, linked_method, linked_program, declared_field}
use Rattle.jv_sound.proofs.Lists.{each_at}
use Rattle.jv_sound.proofs.Expressions.{method_ok}
use Rattle.gen_links.specs.Files.{IsPlainName, HasPlainNames}
use Rattle.gen_links.proofs.Apart.{passes_at, slice_get-map, at_once}
use Rattle.gen_links.proofs.Called.{Among, among, plain_names, not_182, not_183, not_184, Fits}
use Rattle.gen_links.proofs.Described.{params_usable, type_plain, signature_plain}
use Rattle.gen_links.proofs.Looked.{named_class, plain_class, member_named, same_text}
use Rattle.gen_sound.specs.Related.{Running, action_of, invoke, calling_of, RunsCode}
use Rattle.gen_sound.proofs.Loading.{MethodAt, method_at, linked_runs, compiled_runs}
use Rattle.gen_sound.proofs.Starting.{LinkedClass, linked_class_at, CompiledAt, compiled_at, Behind, behind, names_of, all_apart, in_class}

-- A method of a core in a linked program: its frames run its code, and the instructions that call it find it.
pub record MethodStands (p : Program) (os : List Outline) (program : linked.Program) (me : ℕ) (number : ℕ) (k : Method) : Type 0 where
  pub method : ℕ
  pub code : List Instr
  pub is_code : IsCode p k code
  pub is : linked.MethodOf
  pub there : linked.method_at program k.class method ≡ Some is
  pub static : is.is_static ≡ is_static (access_of k.kind)
  pub locals : is.max_locals ≡ max_locals k
  pub descriptor : is.descriptor ≡ method_descriptor p k
  pub runs : (r : Running) → r.class ≡ k.class → r.method ≡ method → RunsCode p os program me r k code
  pub named : name_of_method (linked.method_at program k.class method) ≡ text_at p k.name
  pub signature : k.kind ≢ kinds.Main →
      signature_of (method_descriptor p k) ≡ Some (record { params = map (type_in p) (param_types k); result = result_in p k.result })
  pub called : (kind : MethodKind) → k.kind ≡ kind → kind ≢ kinds.Main →
      action_of os (invoke kind (method_reference p number)) ≡ Some (Call (calling_of kind) k.class method)

-- A field of a class in a linked program: the instructions that read and write it find it, and it has its type there.
pub record FieldStands (p : Program) (os : List Outline) (program : linked.Program) (c f : ℕ) (d : Field) : Type 0 where
  pub reads : action_of os (getfield (field_reference p c f)) ≡ Some (Read c f)
  pub writes : action_of os (putfield (field_reference p c f)) ≡ Some (Write c f)
  pub described : linked.field_at program c f ≡ Some (field_made (declared_field p d))
  pub typed : type_of (field_descriptor p d.ty) ≡ Some (type_in p d.ty)

-- The frame of a constructor has the size of that of this method, which has no parameters.

abbrev pub sized : Place → List Instr → Expr
sized q [] = Null q
sized q (i ∷ more) = New q 0

abbrev pub constructor_method : Program → (c : ℕ) → Class → Method
constructor_method p c k = record {
  place = k.place;
  end = k.place;
  class = c;
  name = 0;
  kind = kinds.Helper;
  result = types.Void;
  params = 0;
  slots = [];
  loops = [];
  body = Then (Eval k.place (sized k.place (all_initialised p c 0 k.fields))) NoStmt;
}

-- The constructor of a class in a linked program: `new` finds the class, the call finds the constructor, and its frame runs its code.
pub record ConstructorStands (p : Program) (os : List Outline) (program : linked.Program) (me : ℕ) (c : ℕ) (k : Class) : Type 0 where
  pub is : linked.MethodOf
  pub there : linked.method_at program c 0 ≡ Some is
  pub static : is.is_static ≡ false
  pub locals : is.max_locals ≡ 1
  pub descriptor : is.descriptor ≡ init_descriptor
  pub makes : action_of os (new (class_name p c)) ≡ Some (Make c)
  pub called : action_of os (invokespecial (init_of (class_name p c))) ≡ Some (Call Silent c 0)
  pub runs : (r : Running) → r.class ≡ c → r.method ≡ 0 → RunsCode p os program me r (constructor_method p c k) (constructor_code p c k)

pub record Linkage (p : Program) (os : List Outline) (program : linked.Program) (me : ℕ) : Type 0 where
  pub class_named : (c : ℕ) (k : Class) → slice_get p.classes c ≡ Some k → linked.class_name program c ≡ text_at p k.name
  pub method : (number : ℕ) (k : Method) → slice_get p.methods number ≡ Some k → MethodStands p os program me number k
  pub field : (c f : ℕ) (k : Class) (d : Field) → slice_get p.classes c ≡ Some k → slice_get k.fields f ≡ Some d →
      FieldStands p os program c f d
  pub fields_are : (c : ℕ) (k : Class) → slice_get p.classes c ≡ Some k →
      linked.fields_in (linked.class_at program c) ≡ map field_made (map (declared_field p) k.fields)
  pub constructor : (c : ℕ) (k : Class) → slice_get p.classes c ≡ Some k → (t : ℕ) → k.typestate ≡ Some t →
      ConstructorStands p os program me c k

-- Names and descriptors.

field_names : (p : Program) (ds : List Field) → map (λ d. d.name) (map (declared_field p) ds) ≡ map (λ f. text_at p f.name) ds
field_names p [] = refl
field_names p (d ∷ ds) = ap (λ xs. text_at p d.name ∷ xs) (field_names p ds)

declared_names : (cs : List Compiled) → map (λ d. d.name) (map declared_method cs) ≡ map (λ c. c.name) cs
declared_names [] = refl
declared_names (c ∷ cs) = ap (λ xs. c.name ∷ xs) (declared_names cs)

descriptor_is : (kind : MethodKind) (x y : Name) → kind ≢ kinds.Main → (if is_main kind then x else y) ≡ y
descriptor_is kinds.Main x y n = absurd (n refl)
descriptor_is kinds.Static x y n = refl
descriptor_is kinds.Helper x y n = refl
descriptor_is kinds.Protocol x y n = refl

module _ (p : Program) (core : IsCore p) (plain : HasPlainNames p) (all : List (List Compiled)) (made : IsCompiled p all) where
  abbrev os : List Outline
  os = outlines_of p p.classes all

  pub signature_is : (k : Method) → IsMethod p k → k.kind ≢ kinds.Main →
      signature_of (method_descriptor p k) ≡ Some (record { params = map (type_in p) (param_types k); result = result_in p k.result })
  signature_is k is n =
      let d : Name = descriptor_of p (param_types k) k.result in
      ap signature_of (descriptor_is k.kind (signature_text main_signature) d n)
      ∙ (method_exact d (record { params = map (type_in p) (param_types k); result = result_in p k.result })).1
      (signature_plain p core plain all made.classes (param_types k) k.result (params_usable p core plain all made.classes k is) is.result)

  class_named : (c : ℕ) (k : Class) → slice_get p.classes c ≡ Some k → linked.class_name (linked_program p all) c ≡ text_at p k.name
  class_named c k at = ap linked.name_in (linked_class_at p os 0 p.classes all made.classes c k at).linked

  module _ (number : ℕ) (m : Method) (of : slice_get p.methods number ≡ Some m) where
    abbrev is : IsMethod p m
    is = method_ok p core number m of

    abbrev l : LinkedClass p os 0 p.classes all m.class is.class
    l = linked_class_at p os 0 p.classes all made.classes m.class is.class is.class_at

    class : IsCompiledClass p m.class is.class l.methods
    class = let same : 0 + m.class ≡ m.class = omega arith in subst (λ y. IsCompiledClass p y is.class l.methods) same l.compiled

    mine : nat_eq m.class m.class ≡ true
    mine = grind (arith, nat_tests)

    abbrev a : Among (filter (λ x. nat_eq x.class m.class) p.methods) m
    a = among m.class p.methods number m of mine

    in_methods : slice_get (methods_in p is.class) a.number ≡ Some m
    in_methods = ap (λ ms. slice_get ms a.number) (in_class p core plain all made m.class is.class is.class_at) ∙ a.at

    abbrev x : CompiledAt p m class.methods a.number
    x = compiled_at p (methods_in p is.class) class.methods class.made a.number m in_methods

    abbrev b : Behind (constructors p m.class is.class is.class.typestate ++ class.methods) (compiled p m x.code)
    b = behind p m.class is.class is.class.typestate class.methods a.number (compiled p m x.code) x.at

    here : slice_get l.methods b.number ≡ Some (compiled p m x.code)
    here = ap (λ cs. slice_get cs b.number) class.all_are ∙ b.at

    abbrev j : MethodAt os l.methods (class_file p is.class l.methods).methods b.number (compiled p m x.code)
    j = method_at os l.methods _ b.number (compiled p m x.code) here

    texts : map (λ c. c.name) class.methods ≡ map (λ m. text_at p m.name) (methods_in p is.class)
    texts = names_of p (methods_in p is.class) class.methods class.made

    apart : AreDistinct (map (λ d. d.name) (map declared_method l.methods))
    apart =
        let one : AreDistinct (map (λ c. c.name) class.methods) =
        subst AreDistinct (sym texts) (subst (λ ms. AreDistinct (map (λ m. text_at p m.name) ms))
        (sym (in_class p core plain all made m.class is.class is.class_at)) (core.classes m.class is.class is.class_at).methods_apart) in
        let all_plain : AllByRecursion IsPlainName (map (λ c. c.name) class.methods) =
        subst (AllByRecursion IsPlainName) (sym texts) (plain_names p plain (methods_in p is.class)) in
        subst AreDistinct (sym (declared_names l.methods))
        (subst (λ cs. AreDistinct (map (λ c. c.name) cs)) (sym class.all_are)
        (all_apart p m.class is.class is.class.typestate class.methods all_plain one))

    abbrev reference : Reference
    reference = member (class_name p m.class) (text_at p m.name) (method_descriptor p m)

    in_outline : (static : Bool) → Fits static (access_of m.kind) →
        method_of_class reference.member static (slice_get os m.class) ≡ Some b.number
    in_outline static fits =
        let passes : is_member reference.member static (declared_method (compiled p m x.code)) ≡ true =
        ap₂ (λ y z. (y && z) && (if static then is_static (access_of m.kind) else not (is_static (access_of m.kind))))
        (same_text (text_at p m.name)) (same_text (method_descriptor p m)) ∙ fits in
        ap (method_of_class reference.member static) l.outline
        ∙ passes_at (λ d. d.name) (is_member reference.member static) (map declared_method l.methods) b.number
        (declared_method (compiled p m x.code)) apart (slice_get-map declared_method l.methods b.number (compiled p m x.code) here) passes
        (λ d t. member_named reference.member static d t)

    plain_here : IsPlainName reference.class
    plain_here = plain_class p core plain all made.classes m.class is.class is.class_at

    found : (op : ℕ) (static : Bool) → built_in op reference built_members ≡ None →
        loaded_member os op reference.member (Some m.class) ≡ args_by (linked.Method m.class)
        (method_of_class reference.member static (slice_get os m.class)) →
        Fits static (access_of m.kind) → member_args os op reference ≡ Some (linked.Method m.class b.number)
    found op static none is_method fits =
        ap (named_args os op reference) none
        ∙ ap (loaded_member os op reference.member) (named_class p core plain all made.classes m.class is.class is.class_at)
        ∙ is_method
        ∙ ap (args_by (linked.Method m.class)) (in_outline static fits)

    reference_is : method_reference p number ≡ reference
    reference_is = ap (method_member p) of

    called : (kind : MethodKind) → m.kind ≡ kind → kind ≢ kinds.Main →
        action_of os (invoke kind (method_reference p number)) ≡ Some (Call (calling_of kind) m.class b.number)
    called kinds.Main e n = absurd (n refl)
    called kinds.Static e n =
        ap (λ r. action 184 (or_nothing (member_args os 184 r))) reference_is
        ∙ ap (λ o. action 184 (or_nothing o))
        (found 184 true (not_184 reference plain_here) refl (subst (λ y. Fits true (access_of y)) (sym e) refl))
    called kinds.Helper e n =
        ap (λ r. action 183 (or_nothing (member_args os 183 r))) reference_is
        ∙ ap (λ o. action 183 (or_nothing o))
        (found 183 false (not_183 reference plain_here) refl (subst (λ y. Fits false (access_of y)) (sym e) refl))
    called kinds.Protocol e n =
        ap (λ r. action 182 (or_nothing (member_args os 182 r))) reference_is
        ∙ ap (λ o. action 182 (or_nothing o))
        (found 182 false (not_182 reference plain_here) refl (subst (λ y. Fits false (access_of y)) (sym e) refl))

    there : linked.method_at (linked_program p all) m.class b.number
        ≡ Some (linked_method os (compiled p m x.code) (method_in_file (compiled p m x.code) j.pool).0)
    there = ap (λ o. slice_get (linked.methods_in o) b.number) l.linked ∙ j.at

    pub method_stands : (me : ℕ) → MethodStands p os (linked_program p all) me number m
    method_stands me = record {
      method = b.number;
      code = x.code;
      is_code = x.is_code;
      is = linked_method os (compiled p m x.code) (method_in_file (compiled p m x.code) j.pool).0;
      there = there;
      static = refl;
      locals = refl;
      descriptor = refl;
      runs = λ r e f. linked_runs p core plain all made me m.class b.number l.methods l.class_is m x.code here r e f;
      named = ap name_of_method there;
      signature = λ n. signature_is m is n;
      called = called;
    }

  module _ (c f : ℕ) (k : Class) (d : Field) (at : slice_get p.classes c ≡ Some k) (of : slice_get k.fields f ≡ Some d) where
    abbrev holds : LinkedClass p os 0 p.classes all c k
    holds = linked_class_at p os 0 p.classes all made.classes c k at

    abbrev referred : Reference
    referred = member (class_name p c) (text_at p d.name) (field_descriptor p d.ty)

    field_is : field_reference p c f ≡ referred
    field_is = ap (λ x. field_member p c (option_and_then (λ y. slice_get y.fields f) x)) at ∙ ap (field_member p c) of

    field_there : field_of_class referred.member (slice_get os c) ≡ Some f
    field_there =
        ap (field_of_class referred.member) holds.outline
        ∙ passes_at (λ x. x.name) (is_member referred.member false) (map (declared_field p) k.fields) f (declared_field p d)
        (subst AreDistinct (sym (field_names p k.fields)) (core.classes c k at).fields_apart)
        (slice_get-map (declared_field p) k.fields f d of)
        (rw (same_text (text_at p d.name), same_text (field_descriptor p d.ty)) refl)
        (λ b t. member_named referred.member false b t)

    read_found : member_args os 180 referred ≡ Some (linked.Field c f)
    read_found =
        ap (loaded_member os 180 referred.member) (named_class p core plain all made.classes c k at) ∙ ap (args_by (linked.Field c))
        field_there

    write_found : member_args os 181 referred ≡ Some (linked.Field c f)
    write_found =
        ap (loaded_member os 181 referred.member) (named_class p core plain all made.classes c k at) ∙ ap (args_by (linked.Field c))
        field_there

    field_stands : FieldStands p os (linked_program p all) c f d
    field_stands = record {
      reads =
          ap (λ r. action 180 (or_nothing (member_args os 180 r))) field_is ∙ ap (λ o. action 180 (or_nothing o)) read_found;
      writes =
          ap (λ r. action 181 (or_nothing (member_args os 181 r))) field_is ∙ ap (λ o. action 181 (or_nothing o)) write_found;
      described =
          ap (λ o. slice_get (linked.fields_in o) f) holds.linked
          ∙ slice_get-map field_made (map (declared_field p) k.fields) f (declared_field p d)
          (slice_get-map (declared_field p) k.fields f d of);
      typed = (field_exact (field_descriptor p d.ty) (type_in p d.ty)).1
          (descriptors.plain (type_plain p core plain all made.classes d.ty
          (each_at (IsField p) k.fields f (core.classes c k at).fields of).type) refl);
    }

  stack_is : (q : Place) (m : Method) (inits : List Instr) →
      constructor_stack inits ≡ max (depth_of_all p m (Then (Eval q (sized q inits)) NoStmt)) 0
  stack_is q m [] = refl
  stack_is q m (i ∷ more) = refl

  module _ (c : ℕ) (k : Class) (at : slice_get p.classes c ≡ Some k) (t : ℕ) (has : k.typestate ≡ Some t) where
    abbrev lies : LinkedClass p os 0 p.classes all c k
    lies = linked_class_at p os 0 p.classes all made.classes c k at

    compiled_class : IsCompiledClass p c k lies.methods
    compiled_class = let same : 0 + c ≡ c = omega arith in subst (λ y. IsCompiledClass p y k lies.methods) same lies.compiled

    first_is : lies.methods ≡ constructor p c k ∷ compiled_class.methods
    first_is = compiled_class.all_are ∙ ap (λ y. constructors p c k y ++ compiled_class.methods) has

    abbrev init : Reference
    init = init_of (class_name p c)

    init_found : member_args os 183 init ≡ Some (linked.Method c 0)
    init_found =
        ap (named_args os 183 init) (not_183 init (plain_class p core plain all made.classes c k at))
        ∙ ap (loaded_member os 183 init.member) (named_class p core plain all made.classes c k at)
        ∙ ap (args_by (linked.Method c)) (ap (method_of_class init.member false) lies.outline
        ∙ ap (λ xs. position (is_member init.member false) (map declared_method xs)) first_is
        ∙ at_once (is_member init.member false) (declared_method (constructor p c k)) (map declared_method compiled_class.methods) refl)

    abbrev init_at : MethodAt os lies.methods (class_file p k lies.methods).methods 0 (constructor p c k)
    init_at = method_at os lies.methods _ 0 (constructor p c k) (ap (λ xs. slice_get xs 0) first_is)

    pub constructor_stands : (me : ℕ) → ConstructorStands p os (linked_program p all) me c k
    constructor_stands me = record {
      is = linked_method os (constructor p c k) (method_in_file (constructor p c k) init_at.pool).0;
      there = ap (λ o. slice_get (linked.methods_in o) 0) lies.linked ∙ init_at.at;
      static = refl;
      locals = refl;
      descriptor = refl;
      makes = ap (λ o. action 187 (or_nothing (args_by linked.Class o))) (named_class p core plain all made.classes c k at);
      called = ap (λ o. action 183 (or_nothing o)) init_found;
      runs = λ r e f.
          let h = compiled_runs p core plain all made me c 0 lies.methods lies.class_is (constructor p c k)
          (ap (λ xs. slice_get xs 0) first_is) r e f in
          record {
            method = h.method;
            at = h.at;
            stack = h.stack ∙ stack_is k.place (constructor_method p c k) (all_initialised p c 0 k.fields);
            locals = h.locals;
            descriptor = h.descriptor;
            does = h.does;
          };
    }

  pub linkage : (me : ℕ) → Linkage p os (linked_program p all) me
  linkage me = record {
    class_named = class_named;
    method = λ number k of. method_stands number k of me;
    field = field_stands;
    fields_are = λ c k at. ap linked.fields_in (linked_class_at p os 0 p.classes all made.classes c k at).linked;
    constructor = λ c k at t has. constructor_stands c k at t has me;
  }
