-- The descriptors of a program's fields and methods are read as their types, whose classes are all known.
use Rattle.std.proofs.Common.{◌≡◌, ◌≢◌, ℕ, zero, suc, Bool, true, false, ◌||◌, not, List, [], ◌∷◌, ◌++◌, map}
use Rattle.std.proofs.Common.{take, Option, Some, None, option_map, slice_get, refl, sym}
use Rattle.std.proofs.Common.{ap, ap₂, ◌∙◌, subst, is_some, arith, if◌then◌else◌, codes}
use Rattle.std.specs.List.{AllByRecursion}
use Rattle.std.specs.Str.{bytes_eq}
use Rattle.mg_text.specs.Call.{Name}
use Rattle.vm_model.specs.Types.{FieldType, Named, Texts, Signature, IsPlain, IsPlainResult, type_text, signature_text}
use Rattle.vm_model.specs.Types.{main_signature, result_types, types_of_signature, signature_of}
use Rattle.vm_model.specs.Types.{type_of, is_main_alone, IsFieldDescriptor, IsMethodDescriptor}
use Rattle.vm_model.specs.Types as descriptors
use Rattle.vm_model.specs.Linked.{is_built_in}
use Rattle.vm_model.specs.Links.{Flaw, Outline, loaded, is_known, unknown_in}
use Rattle.vm_model.specs.Links.{field_types, method_types, descriptor_flaw, UnknownClass}
use Rattle.vm_model.proofs.Spelled.{method_exact, field_exact, one_signature}
use Rattle.jv_core.specs.declared.program.CoreType.{CoreType}
use Rattle.jv_core.specs.declared.program.CoreType.TheVariants as types
use Rattle.jv_core.specs.declared.program.MethodKind.{MethodKind}
use Rattle.jv_core.specs.declared.program.MethodKind.TheVariants as kinds
use Rattle.jv_core.specs.Tree.{Class, Slot, Method, Program}
use Rattle.jv_core.specs.Lookup.{text_at, param_types, is_main}
use Rattle.jv_core.specs.Members.{IsUsable, IsResult}
use Rattle.jv_core.specs.Conditions.{IsCore, IsMethod, IsSlot, IsOfKind}
use Rattle.gen_rules.specs.Members.{class_name, type_in, result_in, field_descriptor}
use Rattle.gen_rules.specs.Members.{descriptor_of, method_descriptor, init_name, init_descriptor}
use Rattle.gen_rules.specs.Classes.{Compiled, AreCompiledClasses}
use Rattle.gen_links.specs.Files.{IsPlainName, HasPlainNames}
use Rattle.gen_links.proofs.Apart.{os, plain_at, differ, class_loaded}

or_true : (b : Bool) → (b || true) ≡ true
or_true true = refl
or_true false = refl

-- no semicolon stands in a plain name
no_semicolon : (name : Name) → IsPlainName name → AllByRecursion (λ b. b ≢ 59) name
no_semicolon [] h = tt
no_semicolon (b ∷ name) h = ((h.0).1, no_semicolon name h.1)

module _ (p : Program) (core : IsCore p) (plain : HasPlainNames p) (all : List (List Compiled))
    (compiled : AreCompiledClasses p 0 p.classes all) where
  abbrev here : List Outline
  here = os p core plain all compiled

  pub class_name_is : (c : ℕ) (k : Class) → slice_get p.classes c ≡ Some k → class_name p c ≡ text_at p k.name
  class_name_is c k at = rw at refl

  pub class_known : (c : ℕ) (k : Class) → slice_get p.classes c ≡ Some k → is_known here (class_name p c) ≡ true
  class_known c k at =
      let name = class_name p c in
      let found : loaded here name ≡ Some c = ap (loaded here) (class_name_is c k at) ∙ class_loaded p core plain all compiled c k at in
      ap (λ x. is_built_in name || is_some x) found ∙ or_true (is_built_in name)

  plain_class : (c : ℕ) (k : Class) → slice_get p.classes c ≡ Some k → IsPlain (type_in p (types.Object c))
  plain_class c k at =
      subst (AllByRecursion (λ b. b ≢ 59)) (sym (class_name_is c k at)) (no_semicolon (text_at p k.name) (plain_at p.names plain k.name))

  string_plain : IsPlain (type_in p types.Text)
  string_plain = omega arith

  pub type_plain : (t : CoreType) → IsUsable p t → IsPlain (type_in p t)
  type_plain types.Void h = absurd h
  type_plain types.Int h = tt
  type_plain types.Boolean h = tt
  type_plain types.Text h = string_plain
  type_plain (types.Object c) h = plain_class c h.class h.at
  type_plain (types.Enum e) h = tt

  type_known : (t : CoreType) → IsUsable p t → (ts : List FieldType) → unknown_in here (type_in p t ∷ ts) ≡ unknown_in here ts
  type_known types.Void h ts = absurd h
  type_known types.Int h ts = refl
  type_known types.Boolean h ts = refl
  type_known types.Text h ts = refl
  type_known (types.Object c) h ts = ap (λ b. if b then unknown_in here ts else Some (class_name p c)) (class_known c h.class h.at)
  type_known (types.Enum e) h ts = refl

  types_known : (ts : List CoreType) → AllByRecursion (IsUsable p) ts → (more : List FieldType) →
      unknown_in here (map (type_in p) ts ++ more) ≡ unknown_in here more
  types_known [] h more = refl
  types_known (t ∷ ts) h more = type_known t h.0 (map (type_in p) ts ++ more) ∙ types_known ts h.1 more

  result_known : (t : CoreType) → IsResult p t → unknown_in here (result_types (result_in p t)) ≡ None
  result_known types.Void h = refl
  result_known types.Int h = refl
  result_known types.Boolean h = refl
  result_known types.Text h = refl
  result_known (types.Object c) h = type_known (types.Object c) h []
  result_known (types.Enum e) h = refl

  types_plain : (ts : List CoreType) → AllByRecursion (IsUsable p) ts → AllByRecursion IsPlain (map (type_in p) ts)
  types_plain [] h = tt
  types_plain (t ∷ ts) h = (type_plain t h.0, types_plain ts h.1)

  result_plain : (t : CoreType) → IsResult p t → IsPlainResult (result_in p t)
  result_plain types.Void h = tt
  result_plain types.Int h = tt
  result_plain types.Boolean h = tt
  result_plain types.Text h = string_plain
  result_plain (types.Object c) h = plain_class c h.class h.at
  result_plain (types.Enum e) h = tt

  -- Fields.

  pub field_types_are : (t : CoreType) → IsUsable p t → field_types (field_descriptor p t) ≡ Some (type_in p t ∷ [])
  field_types_are t h =
      let read : type_of (field_descriptor p t) ≡ Some (type_in p t)
      = (field_exact (field_descriptor p t) (type_in p t)).1 (descriptors.plain (type_plain t h) refl) in
      ap (λ x. elim x [ None ↦ None | Some y ↦ Some (y ∷ []) ]) read

  pub field_described : (flaw : Option Flaw) (t : CoreType) → IsUsable p t →
      descriptor_flaw here flaw (field_types (field_descriptor p t)) ≡ None
  field_described flaw t h = ap (descriptor_flaw here flaw) (field_types_are t h) ∙ ap (option_map UnknownClass) (type_known t h [])

  -- Methods.

  abbrev pub signature : List CoreType → CoreType → Signature
  signature params result = record { params = map (type_in p) params; result = result_in p result }

  pub signature_plain : (params : List CoreType) (result : CoreType) → AllByRecursion (IsUsable p) params → IsResult p result →
      IsMethodDescriptor (descriptor_of p params result) (signature params result)
  signature_plain params result h r = descriptors.plain (types_plain params h) (result_plain result r) refl

  not_texts : (ts us : List FieldType) → AllByRecursion IsPlain ts → ts ≡ Texts ∷ us → ⊥
  not_texts ts us h e = (subst (AllByRecursion IsPlain) e h).0

  not_main : (params : List CoreType) (result : CoreType) → AllByRecursion (IsUsable p) params → IsResult p result →
      bytes_eq (descriptor_of p params result) (codes "([Ljava/lang/String;)V") ≡ false
  not_main params result h r =
      let d = descriptor_of p params result in
      differ d (codes "([Ljava/lang/String;)V") (λ e.
      not_texts (map (type_in p) params) [] (types_plain params h)
      (ap (λ s. s.params) (one_signature d (signature params result) main_signature (signature_plain params result h r)
      (descriptors.main refl e))))

  -- the types in the descriptor of a method that isn't `main`
  pub method_types_are : (name : Name) (params : List CoreType) (result : CoreType) → AllByRecursion (IsUsable p) params →
      IsResult p result →
      method_types name (descriptor_of p params result) ≡ Some (map (type_in p) params ++ result_types (result_in p result))
  method_types_are name params result h r =
      let d = descriptor_of p params result in
      let read : signature_of d ≡ Some (signature params result)
      = (method_exact d (signature params result)).1 (signature_plain params result h r) in
      ap (λ b. if not b || bytes_eq name (codes "main") then elim (signature_of d) [
        | None ↦ None
        | Some s ↦ Some
            (types_of_signature s)
      ] else None)
      (not_main params result h r)
      ∙ ap (λ x. elim x [ None ↦ None | Some s ↦ Some (types_of_signature s) ]) read

  pub method_described : (flaw : Option Flaw) (name : Name) (params : List CoreType) (result : CoreType) →
      AllByRecursion (IsUsable p) params →
      IsResult p result → descriptor_flaw here flaw (method_types name (descriptor_of p params result)) ≡ None
  method_described flaw name params result h r =
      ap (descriptor_flaw here flaw) (method_types_are name params result h r)
      ∙ ap (option_map UnknownClass) (types_known params h (result_types (result_in p result)) ∙ result_known result r)

  usable_params : (n : ℕ) (ss : List Slot) → AllByRecursion (IsSlot p) ss → AllByRecursion (IsUsable p) (map (λ s. s.ty) (take n ss))
  usable_params zero ss h = tt
  usable_params (suc n) [] h = tt
  usable_params (suc n) (s ∷ ss) h = ((h.0).type, usable_params n ss h.1)

  pub params_usable : (m : Method) → IsMethod p m → AllByRecursion (IsUsable p) (param_types m)
  params_usable m h = usable_params m.params m.slots h.slots

  main_described : (flaw : Option Flaw) → descriptor_flaw here flaw (method_types (codes "main") (signature_text main_signature)) ≡ None
  unfolding signature_of
  main_described flaw = refl

  pub init_described : (flaw : Option Flaw) → descriptor_flaw here flaw (method_types init_name init_descriptor) ≡ None
  unfolding signature_of
  init_described flaw = refl

  described : (flaw : Option Flaw) (m : Method) → IsMethod p m → (kind : MethodKind) → m.kind ≡ kind → IsOfKind p m kind →
      descriptor_flaw here flaw (method_types (text_at p m.name) (method_descriptor p m)) ≡ None
  described flaw m h kinds.Main e k =
      ap₂ (λ x y. descriptor_flaw here flaw (method_types x (if is_main y
      then signature_text main_signature else descriptor_of p (param_types m) m.result))) k.name e
      ∙ main_described flaw
  described flaw m h kinds.Static e k =
      ap (λ y. descriptor_flaw here flaw (method_types (text_at p m.name) (if is_main y
      then signature_text main_signature else descriptor_of p (param_types m) m.result))) e
      ∙ method_described flaw (text_at p m.name) (param_types m) m.result (params_usable m h) h.result
  described flaw m h kinds.Helper e k =
      ap (λ y. descriptor_flaw here flaw (method_types (text_at p m.name) (if is_main y
      then signature_text main_signature else descriptor_of p (param_types m) m.result))) e
      ∙ method_described flaw (text_at p m.name) (param_types m) m.result (params_usable m h) h.result
  described flaw m h kinds.Protocol e k =
      ap (λ y. descriptor_flaw here flaw (method_types (text_at p m.name) (if is_main y
      then signature_text main_signature else descriptor_of p (param_types m) m.result))) e
      ∙ method_described flaw (text_at p m.name) (param_types m) m.result (params_usable m h) h.result

  -- the descriptor of each method of a core
  pub descriptor_good : (flaw : Option Flaw) (m : Method) → IsMethod p m →
      descriptor_flaw here flaw (method_types (text_at p m.name) (method_descriptor p m)) ≡ None
  descriptor_good flaw m h = described flaw m h m.kind refl h.kind
