-- A class of a core keeps to its typestate, or is plain.
use Rattle.std.proofs.Common.{◌≡◌, ◌≢◌, ◌⊎◌, inl, inr, ℕ, Bool, true, false, true≢false, List, [], map, Contains, slice_get}
use Rattle.std.proofs.Common.{option_and_then, Option, Some, None, refl, sym, ap, ◌∙◌, subst}
use Rattle.mg_text.specs.Call.{Name}
use Rattle.mg_read.specs.Culprit.{culprit}
use Rattle.ts_tree.specs.Typestate as protocols
use Rattle.ts_tree.specs.declared.parts.TypeName.{TypeName}
use Rattle.jv_tree.specs.declared.tree.Param.{Param}
use Rattle.jv_tree.specs.Source
use Rattle.jv_meaning.specs.Program.{classes_of, enum_named, class_named, method_named, typestate_named}
use Rattle.jv_rules.specs.Program.{Program, typestate_of, offers_in}
use Rattle.jv_rules.specs.Members.{OfField, OfMethod, members_of}
use Rattle.jv_rules.specs.Declarations as declared
use Rattle.jv_rules.specs.Declarations.{MissingMethod, SignatureDiffers, LabelsDiffer, InstanceInPlain, demands_on, owned_methods}
use Rattle.jv_rules.specs.Declarations.{same_members, AreConstants, AreLabelsOf}
use Rattle.jv_rules.specs.Faults.{standing_in}
use Rattle.jv_rules.proofs.Tests.{in_first}
use Rattle.jv_core.specs.declared.program.CoreType.{CoreType}
use Rattle.jv_core.specs.Tree as Core
use Rattle.jv_core.specs.Lookup.{text_at, param_types, IsInstance, IsOf}
use Rattle.jv_core.specs.Members.{IsMeant, AreMeant, AnswersFit, Performs, IsPlain, KeepsTo}
use Rattle.jv_names.specs.Resolves.{Aligned, none, more, Numbered, Owned, IsType, IsProtocol, ClassIs, MethodIs, FieldIs, kind_of}
use Rattle.jv_names.specs.Resolves.{methods_of, Resolves}
use Rattle.jv_names.specs.Resolves as is
use Rattle.jv_names.proofs.Tables.{some_is, text_is, aligned_at, owner_at, class_name, enum_name, method_name}
use Rattle.jv_names.proofs.Lookups.{owned_by}
use Rattle.jv_names.proofs.Declared.{NoFault, got_in, in_map, clean_in, position_of}
use Rattle.jv_names.proofs.Apart.{field_stands, method_stands}
use Rattle.jv_names.proofs.Mentioned.{found_in, no_class_and_enum}
use Rattle.jv_names.proofs.Enums.{texts_same}
use Rattle.jv_names.proofs.Decided.{same_type, same_types, contained}
use Rattle.jv_names.proofs.Owned.{aligned_behind, method_at, number_of}
use Rattle.jv_names.proofs.Params.{IsParam, params_aligned}
use Rattle.jv_names.proofs.MethodKinds.{offered_among, runs_on_object, is_no_static}

-- an instance method that isn't missing
found_instance : (o : Option Source.Method) → ((declared.IsInstance o → ⊥) → ⊥) → (m : Source.Method) × (o ≡ Some m) × (m.is_static ≡ false)
found_instance None n = absurd (n (λ x. x))
found_instance (Some m) n = go m.is_static refl
  where
    go : (b : Bool) → m.is_static ≡ b → (k : Source.Method) × (Some m ≡ Some k) × (k.is_static ≡ false)
    go true e = absurd (n (λ f. true≢false (sym e ∙ f)))
    go false e = (m, refl, e)

-- labels that can't differ from the constants of an enum
members_same : (xs ys : List Name) → ((same_members xs ys → ⊥) → ⊥) → same_members xs ys
members_same xs ys n name = (
  (λ has. contained ys name (λ lacks. n (λ s. lacks ((s name).0 has)))),
  (λ has. contained xs name (λ lacks. n (λ s. lacks ((s name).1 has)))),
)

module _ (program : Program) (origins : List ℕ) (clean : NoFault program origins) (core : Core.Program) (res : Resolves program core) where
  -- a written type and what it is resolved to
  type_meant : (ty : TypeName) (t : CoreType) → IsType program core ty t → IsMeant core ty t
  type_meant _ _ is.void_type = refl
  type_meant _ _ is.int_type = refl
  type_meant _ _ is.boolean_type = refl
  type_meant _ _ is.text_type = refl
  type_meant _ _ (is.class_type {name = name} {c = c} i) =
      let m = aligned_at res.classes c i.class i.at in
      ap (λ (o : Option Core.Class). elim o as (λ _. Option Name) [ None ↦ None | Some k ↦ Some (text_at core k.name) ]) m.at
      ∙ ap Some (text_is program core res m.item.name i.class.name m.is.name ∙ class_name program.files name i.class i.named)
  type_meant _ _ (is.enum_type {name = name} {e = e} {k = k} away i) =
      let m = aligned_at res.enums e k i.at in
      (m.item, m.at, text_is program core res m.item.name k.name m.is.name ∙ enum_name program.files name k i.named)

  types_meant : {ps : List Param} {slots : List Core.Slot} → Aligned (IsParam program core) ps slots →
      AreMeant core (map (λ p. p.ty) ps) (map (λ s. s.ty) slots)
  types_meant none = tt
  types_meant (more {a = p} {b = s} i rest) = (type_meant p.ty s.ty i.type, types_meant rest)

  no_labels : (name : Name) (c : Source.Class) (labels : List Name) → class_named program.files name ≡ Some c →
      AreConstants (enum_named program.files name) labels → ⊥
  no_labels name c labels named are = go (enum_named program.files name) refl are
    where
      go : (o : Option Source.Enum) → enum_named program.files name ≡ o → AreConstants o labels → ⊥
      go None e are = are
      go (Some k) e are = no_class_and_enum program origins clean name c k named e

  answers_fit : (branches : protocols.Target) (ty : TypeName) (t : CoreType) → IsType program core ty t →
      ((labels : List Name) → declared.AnswersBy branches labels → (AreLabelsOf program ty labels → ⊥) → ⊥) → AnswersFit core branches t
  answers_fit (protocols.One to) ty t type n = tt
  answers_fit (protocols.ByAnswer bs) _ _ is.void_type n = n (map (λ b. b.label) bs) refl (λ x. x)
  answers_fit (protocols.ByAnswer bs) _ _ is.int_type n = n (map (λ b. b.label) bs) refl (λ x. x)
  answers_fit (protocols.ByAnswer bs) _ _ is.boolean_type n = n (map (λ b. b.label) bs) refl (λ x. x)
  answers_fit (protocols.ByAnswer bs) _ _ is.text_type n = n (map (λ b. b.label) bs) refl (λ x. x)
  answers_fit (protocols.ByAnswer bs) _ _ (is.class_type {name = name} i) n =
      n (map (λ b. b.label) bs) refl (no_labels name i.class (map (λ b. b.label) bs) i.named)
  answers_fit (protocols.ByAnswer bs) _ _ (is.enum_type {name = name} {e = e} {k = k} away i) n =
      let m = aligned_at res.enums e k i.at in (
        m.item,
        m.at,
        subst (same_members (map (λ b. b.label) bs)) (sym (texts_same program origins clean core res m.is.constants))
            (members_same (map (λ b. b.label) bs) k.constants
            (λ differ. n (map (λ b. b.label) bs) refl (λ are. differ (subst (λ o. AreConstants o (map (λ b. b.label) bs)) i.named are)))),
      )

  module _ (class : Source.Class) (c : ℕ) (at : slice_get (classes_of program.files) c ≡ Some class) where
    has_class : Contains (classes_of program.files) class
    has_class = got_in (classes_of program.files) c class at

    module _ (t : protocols.Typestate) (of : typestate_of program class ≡ Some t) (offered : protocols.Method)
        (has : Contains (offers_in t.states) offered) where
      is_demanded : Contains {X = Source.Class × protocols.Method} (demands_on program class) (class, offered)
      is_demanded = subst (λ (o : Option protocols.Typestate). Contains {X = Source.Class × protocols.Method}
          (elim o as (λ _. List (Source.Class × protocols.Method)) [ None ↦ [] | Some t ↦ map (λ m. (class, m)) (offers_in t.states) ])
          (class, offered)) (sym of)
          (in_map {B = Source.Class × protocols.Method} (λ m. (class, m)) (offers_in t.states) offered has)

      performed_by : (m : Source.Method) × (method_named class offered.name ≡ Some m) × (m.is_static ≡ false)
      performed_by = found_instance (method_named class offered.name)
          (λ missing. clean_in MissingMethod (demands_on program) (classes_of program.files) clean.methods class has_class (class, offered)
          is_demanded
          (culprit class.place offered.name) (refl, missing))

      module _ (m : Source.Method) (named : method_named class offered.name ≡ Some m) (instance : m.is_static ≡ false) where
        has_method : Contains class.methods m
        has_method = found_in _ class.methods m named

        is_owned : Contains (owned_methods class) (record { owner = class; method = m })
        is_owned = in_map (λ (m : Source.Method). record { owner = class; method = m }) class.methods m has_method

        name_is : m.name ≡ offered.name
        name_is = method_name class offered.name m named

        differs : (offered.result ≢ m.result) ⊎ (offered.params ≢ map (λ p. p.ty) m.params) → ⊥
        differs d =
            clean_in (SignatureDiffers program) owned_methods (classes_of program.files) clean.signatures class has_class
            (record { owner = class; method = m }) is_owned (culprit m.place m.name)
            (refl, instance, offered, (t, of, has), sym name_is, d)

        result_is : offered.result ≡ m.result
        result_is = same_type offered.result m.result (λ d. differs (inl d))

        params_are : offered.params ≡ map (λ p. p.ty) m.params
        params_are = same_types offered.params (map (λ p. p.ty) m.params) (λ d. differs (inr d))

        labels_are : (labels : List Name) → declared.AnswersBy offered.target labels → (AreLabelsOf program m.result labels → ⊥) → ⊥
        labels_are labels by n =
            clean_in (LabelsDiffer program) owned_methods (classes_of program.files) clean.labels class has_class
            (record { owner = class; method = m }) is_owned (culprit m.place m.name)
            (refl, instance, offered, labels, (t, of, has), sym name_is, by, n)

        performs_with : Performs core c offered
        performs_with =
            let j = position_of class.methods m has_method in
            let n = number_of program c j.0 class m at j.1 in
            let k = aligned_at res.methods n.0 (owned_by c class m) n.1 in
            record {
              method = k.item;
              of = (n.0, k.at, k.is.class);
              instance = subst IsInstance (sym k.is.kind) (runs_on_object program core class m instance);
              name = text_is program core res k.item.name m.name k.is.name ∙ name_is;
              result = subst (λ ty. IsMeant core ty k.item.result) (sym result_is) (type_meant m.result k.item.result k.is.result);
              params = subst (λ tys. AreMeant core tys (param_types k.item)) (sym params_are)
                  (types_meant (params_aligned program core k.item m.params k.is.count k.is.params));
              answers = answers_fit offered.target m.result k.item.result k.is.result labels_are;
            }

      performs : Performs core c offered
      performs = let w = performed_by in performs_with w.0 w.1 w.2

    -- without a typestate

    module _ (plain : class.typestate ≡ None) where
      no_field : (f : Source.Field) → Contains class.fields f → ⊥
      no_field f has =
          clean_in InstanceInPlain standing_in (classes_of program.files) clean.plain class has_class
          (record { typestate = class.typestate; member = OfField f })
          (in_map (λ m. record { typestate = class.typestate; member = m }) (members_of class) (OfField f)
          (field_stands class.fields class.methods f has))
          (culprit f.place []) (refl, plain)

      no_instance : (m : Source.Method) → Contains class.methods m → m.is_static ≡ false → ⊥
      no_instance m has e =
          clean_in InstanceInPlain standing_in (classes_of program.files) clean.plain class has_class
          (record { typestate = class.typestate; member = OfMethod m })
          (in_map (λ m. record { typestate = class.typestate; member = m }) (members_of class) (OfMethod m)
          (method_stands class.fields class.methods m has))
          (culprit m.place []) (refl, plain, e)

      no_fields : (fs : List Source.Field) (ks : List Core.Field) → ((f : Source.Field) → Contains fs f → ⊥) →
          Aligned (FieldIs program core) fs ks → ks ≡ []
      no_fields _ _ n none = refl
      no_fields _ _ n (more {a = f} {as' = fs} i rest) = absurd (n f (in_first fs f))

      no_instance_of : (m : Core.Method) → IsOf core c m → IsInstance m.kind → ⊥
      no_instance_of m of instance =
          let b = aligned_behind res.methods of.0 m of.1 in
          let number : b.item.owner.number ≡ c = sym b.is.class ∙ of.2 in
          let same : b.item.owner.class ≡ class =
          some_is (sym (owner_at program.files of.0 b.item b.at) ∙ ap (slice_get (classes_of program.files)) number ∙ at) in
          let j = method_at program of.0 b.item b.at in
          no_instance b.item.method
          (subst (λ (k : Source.Class). Contains k.methods b.item.method) same (got_in b.item.owner.class.methods j.0 b.item.method j.1))
          (is_no_static program core b.item.owner.class b.item.method (subst IsInstance b.is.kind instance))

      is_plain : (k : Core.Class) → Aligned (FieldIs program core) class.fields k.fields → IsPlain core c k
      is_plain k fields = record { fields = no_fields class.fields k.fields no_field fields; methods = no_instance_of }

    keeps_by : (k : Core.Class) → Aligned (FieldIs program core) class.fields k.fields → (name : Option Name) (n : Option ℕ) →
        IsProtocol program core name n → class.typestate ≡ name → KeepsTo core c k n
    keeps_by k fields _ _ is.no_protocol e = is_plain e k fields
    keeps_by k fields _ _ (is.protocol_named {name = name} {t = number} {typestate = t} there named) e = record {
      typestate = t;
      at = subst (λ ts. slice_get ts number ≡ Some t) (sym res.typestates) there;
      performs = λ offered is_offered. performs t (ap (option_and_then (typestate_named program.typestates)) e ∙ named) offered
          (offered_among t.states offered is_offered);
    }

    pub keeps_to : (k : Core.Class) → ClassIs program core class k → KeepsTo core c k k.typestate
    keeps_to k i = keeps_by k i.fields class.typestate k.typestate i.typestate refl
