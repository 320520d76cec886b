-- What stands at a number in a core is what has the name in its source.
use Rattle.std.proofs.Common.{◌≡◌, ℕ, zero, suc, Bool, true, false, List, [], ◌∷◌, ◌++◌, ◌+◌, get_or, map, Option, Some, None, option_map}
use Rattle.std.proofs.Common.{option_and_then, slice_get, refl, sym, ap, ◌∙◌, subst, ⊎_elim, inl, inr, ◌⊎◌, arith}
use Rattle.std.specs.Prelude.{find, if◌then◌else◌}
use Rattle.std.proofs.lemmas.Slice.Eq.{bytes_eq-Decides}
use Rattle.mg_text.specs.Call.{Name}
use Rattle.ts_tree.specs.declared.parts.TypeName.{TypeName}
use Rattle.jv_tree.specs.Source
use Rattle.jv_values.specs.Values.{Value, Row}
use Rattle.jv_values.specs.Values as values
use Rattle.jv_meaning.specs.Program.{Sources, classes_of, enums_of, class_named, enum_named, method_named, constant_position}
use Rattle.jv_meaning.specs.Names as meant
use Rattle.jv_rules.specs.Program.{Program}
use Rattle.jv_core.specs.Tree as Core
use Rattle.jv_core.specs.Lookup.{text_at, class_text, enum_text}
use Rattle.jv_core.specs.Meaning as core_meaning
use Rattle.jv_core.specs.declared.program.CoreType.{CoreType}
use Rattle.jv_names.specs.Resolves.{Aligned, none, more, Numbered, Owned, methods_of, methods_in, numbered_from, IsEnum, IsMethod, IsType}
use Rattle.jv_names.specs.Resolves.{IsInitial, FieldIs, ClassIs, EnumIs, MethodIs, Resolves}
use Rattle.jv_names.specs.Resolves as resolves

pub some_is : {A : Type 0} {a b : A} → Some a ≡ Some b → a ≡ b
some_is e = cc

pub none_some : {A : Type 0} {a : A} → None ≡ Some a → ⊥
none_some e = cc

-- Aligned lists.

pub record Met {A B : Type 0} (Is : A → B → Type 0) (a : A) (bs : List B) (n : ℕ) : Type 0 where
  pub item : B
  pub at : slice_get bs n ≡ Some item
  pub is : Is a item

pub aligned_at : {A B : Type 0} {Is : A → B → Type 0} {xs : List A} {ys : List B} → Aligned Is xs ys → (n : ℕ) (a : A) →
    slice_get xs n ≡ Some a → Met Is a ys n
aligned_at none n a e = absurd (none_some e)
aligned_at {Is = Is} (more {b = b} i is) zero a e = record { item = b; at = refl; is = subst (λ a. Is a b) (some_is e) i }
aligned_at (more i is) (suc n) a e =
    let m = aligned_at is n a e in
    record { item = m.item; at = m.at; is = m.is }

-- what a search finds passes its test
pub found_passes : {A : Type 0} (test : A → Bool) (xs : List A) (a : A) → find test xs ≡ Some a → test a ≡ true
found_passes test [] a e = absurd (none_some e)
found_passes {A} test (x ∷ xs) a e = go (test x) refl (found_passes test xs a) e
  where
    go : (t : Bool) → test x ≡ t → (find test xs ≡ Some a → test a ≡ true) → (if t then Some x else find test xs) ≡ Some a → test a ≡ true
    go true p later e = subst (λ a. test a ≡ true) (some_is e) p
    go false p later e = later e

named_text : (ns : List Name) (n : ℕ) (name : Name) → slice_get ns n ≡ Some name → get_or ns n [] ≡ name
named_text [] n name e = absurd (none_some e)
named_text (x ∷ ns) zero name e = some_is e
named_text (x ∷ ns) (suc n) name e = named_text ns n name e

pub class_name : (j : Sources) (name : Name) (c : Source.Class) → class_named j name ≡ Some c → c.name ≡ name
class_name j name c e = (bytes_eq-Decides c.name name).0 (found_passes _ (classes_of j) c e)

pub method_name : (c : Source.Class) (f : Name) (m : Source.Method) → method_named c f ≡ Some m → m.name ≡ f
method_name c f m e = (bytes_eq-Decides m.name f).0 (found_passes _ c.methods m e)

pub enum_name : (j : Sources) (name : Name) (k : Source.Enum) → enum_named j name ≡ Some k → k.name ≡ name
enum_name j name k e = (bytes_eq-Decides k.name name).0 (found_passes _ (enums_of j) k e)

default_same : (program : Program) (core : Core.Program) (ty : TypeName) (cty : CoreType) → IsType program core ty cty →
    meant.default_of ty ≡ core_meaning.default_of cty
default_same program core ty cty resolves.void_type = refl
default_same program core ty cty resolves.int_type = refl
default_same program core ty cty resolves.boolean_type = refl
default_same program core ty cty resolves.text_type = refl
default_same program core ty cty (resolves.class_type is) = refl
default_same program core ty cty (resolves.enum_type away is) = refl

-- The owner of a method has the class of its number.

in_front : (g : Source.Method → Owned) (ms : List Source.Method) (rest : List Owned) (m : ℕ) (o : Owned) → slice_get
    (map g ms ++ rest) m ≡ Some o →
    ((x : Source.Method) × (o ≡ g x)) ⊎ ((i : ℕ) × (slice_get rest i ≡ Some o))
in_front g [] rest m o e = inr (m, e)
in_front g (x ∷ ms) rest zero o e = inl (x, sym (some_is e))
in_front g (x ∷ ms) rest (suc m) o e = in_front g ms rest m o e

owner_from : (n : ℕ) (cs : List Source.Class) (m : ℕ) (o : Owned) → slice_get (methods_in (numbered_from n cs)) m ≡ Some o →
    (i : ℕ) × (o.owner.number ≡ n + i) × (slice_get cs i ≡ Some o.owner.class)
owner_from n [] m o e = absurd (none_some e)
owner_from n (c ∷ cs) m o e =
    ⊎_elim
    (λ q. (0, ap (λ (o : Owned). o.owner.number) q.1 ∙ omega arith, ap (λ (o : Owned). Some o.owner.class) (sym q.1)))
    (λ q. let w = owner_from (suc n) cs q.0 o q.1 in (suc w.0, w.1 ∙ omega arith, w.2))
    (in_front _ c.methods _ m o e)

pub owner_at : (j : Sources) (m : ℕ) (o : Owned) → slice_get (methods_in (numbered_from 0 (classes_of j))) m ≡ Some o → slice_get
    (classes_of j) o.owner.number ≡ Some o.owner.class
owner_at j m o e =
    let w = owner_from 0 (classes_of j) m o e in
    let same : o.owner.number ≡ w.0 = w.1 ∙ omega arith in
    subst (λ i. slice_get (classes_of j) i ≡ Some o.owner.class) (sym same) w.2

module _ (program : Program) (core : Core.Program) (res : Resolves program core) where
  pub text_is : (n : ℕ) (name : Name) → slice_get core.names n ≡ Some name → text_at core n ≡ name
  text_is n name e = named_text core.names n name e

  -- the enum of a number has its name
  pub enum_text_is : (name : Name) (e : ℕ) (enum : Source.Enum) → IsEnum program core name e enum → enum_text core e ≡ Some name
  enum_text_is name e enum is =
      let m = aligned_at res.enums e enum is.at in
      ap (option_map (λ d. text_at core d.name)) m.at ∙ ap Some
      (text_is m.item.name enum.name m.is.name ∙ enum_name program.files name enum is.named)

  pub constant_is : (name a : Name) (n i : ℕ) (enum : Source.Enum) → IsEnum program core name n enum → constant_position enum a ≡ Some i →
      meant.constant_named program.files name a ≡ Some (values.Constant name i)
  constant_is name a n i enum is at =
      ap (option_and_then (λ k. option_map (values.Constant name) (constant_position k a))) is.named ∙ ap
      (option_map (values.Constant name)) at

  -- what fields begin with
  initial_same : (ty : TypeName) (cty : CoreType) (v : Option Source.Expr) (w : Option Core.Expr) → IsType program core ty cty →
      IsInitial program core v w →
      meant.begins_with program.files ty v ≡ core_meaning.begins_with core cty w
  initial_same ty cty v w t resolves.unwritten = ap Some (default_same program core ty cty t)
  initial_same ty cty v w t resolves.initial_int = refl
  initial_same ty cty v w t resolves.initial_truth = refl
  initial_same ty cty v w t resolves.initial_text = refl
  initial_same ty cty v w t resolves.initial_null = refl
  initial_same ty cty v w t (resolves.initial_constant {e = e} {a = a} {k = k} {n = n} {i = i} is at) =
      constant_is e a n i k is at ∙ sym (ap (option_map (λ name. values.Constant name i)) (enum_text_is e n k is))

  pub fields_same : {fs : List Source.Field} {ks : List Core.Field} → Aligned (FieldIs program core) fs ks →
      meant.new_fields program.files fs ≡ core_meaning.new_fields core ks
  fields_same none = refl
  fields_same (more {a = f} {b = k} {as' = fs} {bs = ks} is rest) =
      ap (option_and_then (λ v. option_map (λ row. (f.name, v) ∷ row) (meant.new_fields program.files fs)))
      (initial_same f.ty k.ty f.value k.value is.type is.value)
      ∙ ap (λ rows. option_and_then (λ v. option_map (λ row. (f.name, v) ∷ row) rows) (core_meaning.begins_with core k.ty k.value))
      (fields_same rest)
      ∙ ap (λ name. option_and_then (λ v. option_map (λ row. (name, v) ∷ row) (core_meaning.new_fields core ks))
      (core_meaning.begins_with core k.ty k.value)) (sym (text_is k.name f.name is.name))

  -- Methods.

  pub record Method (class f : Name) (m : ℕ) (method : Source.Method) : Type 0 where
    pub owner : Numbered
    pub core_method : Core.Method
    pub is : MethodIs program core (record { owner = owner; method = method }) core_method
    pub here : slice_get core.methods m ≡ Some core_method
    pub owner_named : class_named program.files class ≡ Some owner.class
    pub owner_class : Core.Class
    pub owner_here : slice_get core.classes core_method.class ≡ Some owner_class
    pub owner_is : ClassIs program core owner.class owner_class
    pub class_text : class_text core core_method.class ≡ Some class
    pub name : text_at core core_method.name ≡ f
    pub by_number : core_meaning.method_of core m ≡ Some (core_meaning.as_run core m core_method)
    pub by_name : meant.method_of program.files (class, f) ≡ Some (meant.method_in class method)

  pub method_is : (class f : Name) (m : ℕ) (method : Source.Method) → IsMethod program core class f m method → Method class f m method
  method_is class f m method is =
      let met = aligned_at res.methods m (record { owner = is.owner; method = method }) is.at in
      let k = aligned_at res.classes is.owner.number is.owner.class
      (owner_at program.files m (record { owner = is.owner; method = method }) is.at) in
      let there : slice_get core.classes met.item.class ≡ Some k.item = ap (slice_get core.classes) met.is.class ∙ k.at in
      record {
        owner_class = k.item;
        owner_here = there;
        owner_is = k.is;
        class_text =
            ap (option_map (λ k. text_at core k.name)) there
            ∙ ap Some (text_is k.item.name is.owner.class.name k.is.name ∙ class_name program.files class is.owner.class is.owner_named);
        name = text_is met.item.name method.name met.is.name ∙ method_name is.owner.class f method is.named;
        owner = is.owner;
        core_method = met.item;
        is = met.is;
        here = met.at;
        owner_named = is.owner_named;
        by_number = ap (option_map (core_meaning.as_run core m)) met.at;
        by_name =
            ap (λ o. option_map (meant.method_in class) (option_and_then (λ c. method_named c f) o)) is.owner_named
            ∙ ap (option_map (meant.method_in class)) is.named;
      }
