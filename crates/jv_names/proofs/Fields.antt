-- The fields of a core's class.
use Rattle.std.proofs.Common.{◌≡◌, ℕ, ◌<◌, Bool, true, false, true≢false, List, Contains, slice_get, Option, Some, None, refl, sym, ◌∙◌}
use Rattle.std.proofs.Common.{subst}
use Rattle.std.specs.List.{AllByRecursion}
use Rattle.std.specs.Str.{bytes_eq}
use Rattle.std.proofs.lemmas.Option.{slice_get_within}
use Rattle.std.proofs.lemmas.Slice.Eq.{bytes_eq-Decides}
use Rattle.mg_text.specs.Call.{Name}
use Rattle.mg_read.specs.Culprit.{culprit}
use Rattle.ts_tree.specs.declared.parts.TypeName.{TypeName}
use Rattle.jv_tree.specs.Source
use Rattle.jv_meaning.specs.Program.{classes_of, enum_named, class_named}
use Rattle.jv_rules.specs.Program.{Program}
use Rattle.jv_rules.specs.Shape.{IsOfValues}
use Rattle.jv_rules.specs.Declarations as declared
use Rattle.jv_rules.specs.Declarations.{FieldNeedsValue, LacksConstant, HasConstant}
use Rattle.jv_rules.proofs.Tests.{in_first, in_later}
use Rattle.jv_core.specs.declared.program.CoreType.{CoreType}
use Rattle.jv_core.specs.Tree as Core
use Rattle.jv_core.specs.Members.{IsConstantOf, MayBeginWith, IsField}
use Rattle.jv_names.specs.Resolves.{Aligned, none, more, IsClass, IsEnum, IsType, IsInitial, FieldIs, Resolves}
use Rattle.jv_names.specs.Resolves as is
use Rattle.jv_names.proofs.Tables.{aligned_at}
use Rattle.jv_names.proofs.Declared.{NoFault, clean_in}
use Rattle.jv_names.proofs.Mentioned.{no_class_and_enum, field_mentions, usable}
use Rattle.jv_names.proofs.NamedApart.{type_names_apart}
use Rattle.jv_names.proofs.OneNumber.{one_enum}
use Rattle.jv_names.proofs.Labels.{position_in, constants_same}

-- names that can't differ are the same
pub same_name : (a b : Name) → ((a ≡ b → ⊥) → ⊥) → a ≡ b
same_name a b n = go (bytes_eq a b) refl
  where
    go : (t : Bool) → bytes_eq a b ≡ t → a ≡ b
    go true e = (bytes_eq-Decides a b).0 e
    go false e = absurd (n (λ same. true≢false (sym ((bytes_eq-Decides a b).1 same) ∙ e)))

module _ (program : Program) (origins : List ℕ) (clean : NoFault program origins) (core : Core.Program) (res : Resolves program core) where
  no_constant : (name : Name) (c : Source.Class) (constant : Name) → class_named program.files name ≡ Some c →
      HasConstant (enum_named program.files name) constant → ⊥
  no_constant name c constant named has = go (enum_named program.files name) refl has
    where
      go : (o : Option Source.Enum) → enum_named program.files name ≡ o → HasConstant o constant → ⊥
      go None e has = has
      go (Some k) e has = no_class_and_enum program origins clean name c k named e

  -- an initialiser
  is_constant : (ty : TypeName) (t : CoreType) (e : Source.Expr) (e' : Core.Expr) → ((declared.IsConstantOf program ty e → ⊥) → ⊥) →
      IsType program core ty t → IsInitial program core (Some e) (Some e') → IsConstantOf core t e'
  is_constant _ _ _ _ n is.void_type is.initial_int = n (λ x. x)
  is_constant _ _ _ _ n is.void_type is.initial_truth = n (λ x. x)
  is_constant _ _ _ _ n is.void_type is.initial_text = n (λ x. x)
  is_constant _ _ _ _ n is.void_type is.initial_null = n (λ x. x)
  is_constant _ _ _ _ n is.void_type (is.initial_constant i at) = n (λ x. x)
  is_constant _ _ _ _ n is.int_type is.initial_int = tt
  is_constant _ _ _ _ n is.int_type is.initial_truth = n (λ x. x)
  is_constant _ _ _ _ n is.int_type is.initial_text = n (λ x. x)
  is_constant _ _ _ _ n is.int_type is.initial_null = n (λ x. x)
  is_constant _ _ _ _ n is.int_type (is.initial_constant i at) = n (λ x. x)
  is_constant _ _ _ _ n is.boolean_type is.initial_int = n (λ x. x)
  is_constant _ _ _ _ n is.boolean_type is.initial_truth = tt
  is_constant _ _ _ _ n is.boolean_type is.initial_text = n (λ x. x)
  is_constant _ _ _ _ n is.boolean_type is.initial_null = n (λ x. x)
  is_constant _ _ _ _ n is.boolean_type (is.initial_constant i at) = n (λ x. x)
  is_constant _ _ _ _ n is.text_type is.initial_int = n (λ x. x)
  is_constant _ _ _ _ n is.text_type is.initial_truth = n (λ x. x)
  is_constant _ _ _ _ n is.text_type is.initial_text = tt
  is_constant _ _ _ _ n is.text_type is.initial_null = n (λ x. x)
  is_constant _ _ _ _ n is.text_type (is.initial_constant i at) = n (λ x. x)
  is_constant _ _ _ _ n (is.class_type c) is.initial_int = n (λ x. x)
  is_constant _ _ _ _ n (is.class_type c) is.initial_truth = n (λ x. x)
  is_constant _ _ _ _ n (is.class_type c) is.initial_text = n (λ x. x)
  is_constant _ _ _ _ n (is.class_type c) is.initial_null = tt
  is_constant _ _ _ _ n (is.class_type {name = name} c) (is.initial_constant {a = a} i at) =
      n (λ q. no_constant name c.class a c.named q.1)
  is_constant _ _ _ _ n (is.enum_type away c) is.initial_int = n (λ x. x)
  is_constant _ _ _ _ n (is.enum_type away c) is.initial_truth = n (λ x. x)
  is_constant _ _ _ _ n (is.enum_type away c) is.initial_text = n (λ x. x)
  is_constant _ _ _ _ n (is.enum_type away c) is.initial_null = absurd (n (λ some. some away))
  is_constant _ _ _ _ n (is.enum_type {name = name} {e = e'} {k = l} away c) (is.initial_constant {e = e} {a = a} {k = k} {n = m} {i = i} of
      at) =
      let same : e ≡ name = same_name e name (λ differ. n (λ q. differ q.0)) in
      let number : m ≡ e' = one_enum program core res (type_names_apart program core origins clean res) name m e' k l
      (subst (λ e. IsEnum program core e m k) same of) c in
      let d = aligned_at res.enums m k of.at in (
        number,
        d.item,
        subst (λ m. slice_get core.enums m ≡ Some d.item) number d.at,
        subst (λ count. i < count) (constants_same k.constants d.item.constants d.is.constants) (position_in (bytes_eq a) k.constants i at),
      )

  begins : (ty : TypeName) (t : CoreType) (v : Option Source.Expr) (v' : Option Core.Expr) → (LacksConstant program ty v → ⊥) →
      IsType program core ty t → IsInitial program core v v' → MayBeginWith core t v'
  begins _ _ None None n is.void_type i = tt
  begins _ _ None None n is.int_type i = tt
  begins _ _ None None n is.boolean_type i = tt
  begins _ _ None None n is.text_type i = n tt
  begins _ _ None None n (is.class_type c) i = tt
  begins _ _ None None n (is.enum_type {k = k} away c) i = n (λ e. let no : ⊥ = lacking k (sym c.named ∙ e) in no)
    where
      lacking : (k : Source.Enum) → Some k ≡ None → ⊥
      lacking k e = cc
  begins ty t (Some e) (Some e') n type i = is_constant ty t e e' n type i
  begins ty t None (Some e') n type i = elim i [ ]
  begins ty t (Some e) None n type i = elim i [ ]

  field_is : (class : Source.Class) (f : Source.Field) (k : Core.Field) → Contains (classes_of program.files) class →
      Contains class.fields f →
      IsOfValues f.ty → FieldIs program core f k → IsField core k
  field_is class f k of has values i = record {
    name = slice_get_within core.names k.name f.name i.name;
    type = usable program origins clean core res f.place f.ty k.ty (field_mentions program origins clean class f of has).0 values i.type;
    begins = begins f.ty k.ty f.value k.value
        (λ lacks. clean_in (FieldNeedsValue program) (λ (c : Source.Class). c.fields) (classes_of program.files) clean.values class of f has
        (culprit f.place f.name) (refl, lacks)) i.type i.value;
  }

  fields_from : (class : Source.Class) → Contains (classes_of program.files) class → (fs : List Source.Field) (ks : List Core.Field) →
      ((f : Source.Field) → Contains fs f → Contains class.fields f) → AllByRecursion (λ f. IsOfValues f.ty) fs →
      Aligned (FieldIs program core) fs ks → AllByRecursion (IsField core) ks
  fields_from class of _ _ within values none = tt
  fields_from class of _ _ within values (more {a = f} {b = k} {as' = fs} {bs = ks} i rest) = (
    field_is class f k of (within f (in_first fs f)) values.0 i,
    fields_from class of fs ks (λ g has. within g (in_later fs f g has)) values.1 rest,
  )

  -- each field of a core's class is as it must be
  pub fields_kept : (class : Source.Class) (ks : List Core.Field) → Contains (classes_of program.files) class →
      AllByRecursion (λ f. IsOfValues f.ty) class.fields → Aligned (FieldIs program core) class.fields ks → AllByRecursion (IsField core) ks
  fields_kept class ks of values i = fields_from class of class.fields ks (λ f has. has) values i
