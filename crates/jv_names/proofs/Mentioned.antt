-- The types that are named in a program whose declarations have no fault.
use Rattle.std.proofs.Common.{◌≡◌, ◌≢◌, ⊎_elim, ℕ, Bool, true, false, cond, List, [], ◌∷◌, ◌++◌, map, Contains, find, slice_get, Option}
use Rattle.std.proofs.Common.{Some, None, refl, sym, subst}
use Rattle.std.proofs.lemmas.Option.{slice_get_within}
use Rattle.std.proofs.lemmas.List.Elements.{Contains-append_right}
use Rattle.mg_text.specs.Call.{Name}
use Rattle.mg_text.specs.declared.place.Place.{Place}
use Rattle.mg_read.specs.Culprit.{Culprit, culprit}
use Rattle.mg_read.specs.First.{Clean}
use Rattle.ts_tree.specs.Proper.{AreDistinct}
use Rattle.ts_tree.specs.declared.parts.TypeName.{TypeName}
use Rattle.jv_tree.specs.Source
use Rattle.jv_meaning.specs.Program.{classes_of, enums_of, class_named, enum_named}
use Rattle.jv_rules.specs.Program.{Program}
use Rattle.jv_rules.specs.Shape.{IsOfValues}
use Rattle.jv_rules.specs.Members.{Written, Made, OfField, OfMethod, members_of, mentions_in_member, mentions_in_class, mentions_in_stmts}
use Rattle.jv_rules.specs.Members.{param_mention}
use Rattle.jv_rules.specs.Declarations.{UnknownClass, IsUsableClass}
use Rattle.jv_rules.specs.Faults.{IsWellTyped}
use Rattle.jv_rules.proofs.Tests.{nothing_in, in_cases, in_first, in_later}
use Rattle.jv_core.specs.declared.program.CoreType.{CoreType}
use Rattle.jv_core.specs.Tree as Core
use Rattle.jv_core.specs.Types.{HasTypestate}
use Rattle.jv_core.specs.Members.{IsUsable, IsResult}
use Rattle.jv_names.specs.Resolves.{IsClass, IsEnum, IsType, IsProtocol, Resolves}
use Rattle.jv_names.specs.Resolves as is
use Rattle.jv_names.proofs.Tables.{some_is, aligned_at, class_name, enum_name}
use Rattle.jv_names.proofs.Apart.{field_stands, method_stands}
use Rattle.jv_names.proofs.NamedApart.{types_apart}
use Rattle.jv_names.proofs.Declared.{NoFault, no_fault, got_in, in_map, clean_part, clean_left, clean_right}

pub found_in : {A : Type 0} (test : A → Bool) (xs : List A) (a : A) → find test xs ≡ Some a → Contains xs a
found_in test [] a e = absurd (cc)
found_in test (x ∷ xs) a e = go (test x) (found_in test xs a) e
  where
    go : (b : Bool) → (find test xs ≡ Some a → Contains xs a) → cond b (Some x) (find test xs) ≡ Some a → Contains (x ∷ xs) a
    go true later e = subst (λ z. Contains (z ∷ xs) a) (sym (some_is e)) (in_first xs a)
    go false later e = in_later xs x a (later e)

pub apart_lists : (xs ys : List Name) (name : Name) → AreDistinct (xs ++ ys) → Contains xs name → Contains ys name → ⊥
apart_lists [] ys name h a b = nothing_in name a
apart_lists (x ∷ xs) ys name h a b =
    ⊎_elim (λ same. h.0 (Contains-append_right xs ys x (subst (Contains ys) (sym same) b)))
    (λ more. apart_lists xs ys name h.1 more b) (in_cases xs x name a)

usable_class : (o : Option Source.Class) → ((IsUsableClass o → ⊥) → ⊥) → IsUsableClass o
usable_class None n = n (λ x. x)
usable_class (Some c) n = λ e. n (λ f. f e)

module _ (program : Program) (origins : List ℕ) (clean : NoFault program origins) where
  -- no class has the name of an enum
  pub no_class_and_enum : (name : Name) (c : Source.Class) (e : Source.Enum) → class_named program.files name ≡ Some c →
      enum_named program.files name ≡ Some e → ⊥
  no_class_and_enum name c e named also =
      apart_lists (map (λ c. c.name) (classes_of program.files)) (map (λ e. e.name) (enums_of program.files)) name
      (types_apart program origins clean)
      (subst (Contains (map (λ c. c.name) (classes_of program.files))) (class_name program.files name c named)
      (in_map (λ (c : Source.Class). c.name) (classes_of program.files) c (found_in _ (classes_of program.files) c named)))
      (subst (Contains (map (λ e. e.name) (enums_of program.files))) (enum_name program.files name e also)
      (in_map (λ (e : Source.Enum). e.name) (enums_of program.files) e (found_in _ (enums_of program.files) e also)))

  no_enum : (name : Name) (c : Source.Class) → class_named program.files name ≡ Some c → enum_named program.files name ≢ None → ⊥
  no_enum name c named some = go (enum_named program.files name) refl
    where
      go : (o : Option Source.Enum) → enum_named program.files name ≡ o → ⊥
      go None e = some e
      go (Some e) also = no_class_and_enum name c e named also

  -- what is mentioned in a member
  pub method_mentions : (class : Source.Class) (m : Source.Method) → Contains (classes_of program.files) class → Contains class.methods m →
      Clean (UnknownClass program) (mentions_in_member (OfMethod m))
  method_mentions class m of has =
      clean_part (UnknownClass program) mentions_in_member (members_of class)
      (clean_part (UnknownClass program) mentions_in_class (classes_of program.files) clean.classes class of)
      (OfMethod m) (method_stands class.fields class.methods m has)

  pub field_mentions : (class : Source.Class) (f : Source.Field) → Contains (classes_of program.files) class → Contains class.fields f →
      Clean (UnknownClass program) (mentions_in_member (OfField f))
  field_mentions class f of has =
      clean_part (UnknownClass program) mentions_in_member (members_of class)
      (clean_part (UnknownClass program) mentions_in_class (classes_of program.files) clean.classes class of)
      (OfField f) (field_stands class.fields class.methods f has)

  pub param_mentions : (class : Source.Class) (m : Source.Method) → Contains (classes_of program.files) class → Contains class.methods m →
      Clean (UnknownClass program) (map param_mention m.params)
  param_mentions class m of has =
      clean_left (UnknownClass program) (map param_mention m.params) (mentions_in_stmts m.body) (method_mentions class m of has).1

  pub body_mentions_of : (class : Source.Class) (m : Source.Method) → Contains (classes_of program.files) class → Contains class.methods m →
      Clean (UnknownClass program) (mentions_in_stmts m.body)
  body_mentions_of class m of has =
      clean_right (UnknownClass program) (map param_mention m.params) (mentions_in_stmts m.body) (method_mentions class m of has).1

  module _ (core : Core.Program) (res : Resolves program core) where
    typestate_number : {name : Option Name} {t : Option ℕ} → IsProtocol program core name t → name ≢ None → (n : ℕ) × (t ≡ Some n)
    typestate_number is.no_protocol n = absurd (n refl)
    typestate_number (is.protocol_named {t = t} at named) n = (t, refl)

    usable_has_typestate : (name : Name) (c : ℕ) → IsClass program core name c → IsUsableClass (class_named program.files name) →
        HasTypestate core c
    usable_has_typestate name c i usable =
        let m = aligned_at res.classes c i.class i.at in
        let t = typestate_number m.is.typestate (subst IsUsableClass i.named usable) in
        record { class = m.item; at = m.at; typestate = t.0; is = t.1 }

    pub made_has_typestate : (p : Place) (name : Name) (c : ℕ) → ((q : Culprit) → UnknownClass program (Made p name) q → ⊥) →
        IsClass program core name c → HasTypestate core c
    made_has_typestate p name c fine i =
        usable_has_typestate name c i (usable_class (class_named program.files name) (λ n. fine (culprit p name) (refl, n)))

    -- the type of a field, parameter or local
    pub usable : (p : Place) (ty : TypeName) (t : CoreType) → ((q : Culprit) → UnknownClass program (Written p ty) q → ⊥) → IsOfValues ty →
        IsType program core ty t → IsUsable core t
    usable p _ _ fine values is.void_type = absurd (values refl)
    usable p _ _ fine values is.int_type = tt
    usable p _ _ fine values is.boolean_type = tt
    usable p _ _ fine values is.text_type = tt
    usable p _ _ fine values (is.class_type {name = name} {c = c} i) =
        usable_has_typestate name c i (usable_class (class_named program.files name)
        (λ n. fine (culprit p name) (refl, λ u. ⊎_elim (λ some. no_enum name i.class i.named some) n u)))
    usable p _ _ fine values (is.enum_type {name = name} {e = e} {k = k} none i) =
        let m = aligned_at res.enums e k i.at in
        slice_get_within core.enums e m.item m.at

    -- the type of a result
    pub usable_result : (p : Place) (ty : TypeName) (t : CoreType) → ((q : Culprit) → UnknownClass program (Written p ty) q → ⊥) →
        IsType program core ty t → IsResult core t
    usable_result p _ _ fine is.void_type = tt
    usable_result p _ _ fine is.int_type = tt
    usable_result p _ _ fine is.boolean_type = tt
    usable_result p _ _ fine is.text_type = tt
    usable_result p ty t fine (is.class_type i) = usable p ty t fine (λ e. let no : ⊥ = cc in no) (is.class_type i)
    usable_result p ty t fine (is.enum_type none i) = usable p ty t fine (λ e. let no : ⊥ = cc in no) (is.enum_type none i)

-- What is mentioned in the body of a method of a well typed program.
pub body_mentions : (program : Program) → IsWellTyped program → (i j : ℕ) (class : Source.Class) (m : Source.Method) →
    slice_get (classes_of program.files) i ≡ Some class → slice_get class.methods j ≡ Some m →
    Clean (UnknownClass program) (mentions_in_stmts m.body)
body_mentions program well i j class m e f =
    body_mentions_of program well.origins (no_fault program well.origins well.declarations) class m
    (got_in (classes_of program.files) i class e) (got_in class.methods j m f)
