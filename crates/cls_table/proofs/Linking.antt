-- The types of a linked program are known where its names are.
use Rattle.std.proofs.Common.{◌≡◌, ℕ, zero, suc, ◌<◌, Bool, true, ◌&&◌, List, [], ◌∷◌, length, map, get_or, Option, Some, None, option_map}
use Rattle.std.proofs.Common.{refl, sym, subst, ◌∙◌, arith}
use Rattle.std.specs.List.{list_any, list_all}
use Rattle.std.specs.Str.{bytes_eq}
use Rattle.std.proofs.lemmas.Bool.{and_parts, or_left, or_right, false≢true}
use Rattle.std.proofs.lemmas.List.Folds.{list_all-append, list_all-map}
use Rattle.std.proofs.lemmas.Slice.Eq.{bytes_eq-Decides}
use Rattle.mg_text.specs.Call.{Name}
use Rattle.vm_model.specs.declared.linked.LinkedField.{LinkedField}
use Rattle.vm_model.specs.declared.linked.LinkedMethod.{LinkedMethod}
use Rattle.vm_model.specs.declared.linked.LinkedClass.{LinkedClass}
use Rattle.vm_model.specs.Program.{Program}
use Rattle.vm_model.specs.Types.{FieldType, Signature, signature_of, type_of, result_types, is_main_alone}
use Rattle.vm_model.specs.Types as types
use Rattle.vm_model.specs.Kept.{kept_type, kept_params, kept_result}
use Rattle.vm_model.specs.Linked.{is_built_in, is_type, is_field_type, is_method_type, class_names, links_field, links_instr, links_method}
use Rattle.vm_model.specs.Linked.{links_class, is_linked, IsLinked}
use Rattle.vm_model.specs.View.{field_of, method_of, class_of, classes_of}
use Rattle.cls_table.specs.Known.{IsKnown, KnowsNames, KnowsType, KnowsOption, KnowsTypes, KnowsMethod, KnowsClass, KnowsClasses}

-- what holds of all holds at each place
all_get : {X : Type 0} (test : X → Bool) (xs : List X) → list_all test xs ≡ true → (i : ℕ) (d : X) → i < length xs → test (get_or xs i d)
    ≡ true
all_get test [] e i d l = absurd (omega (arith, l))
all_get test (x ∷ xs) e zero d l = (and_parts (test x) (list_all test xs) e).0
all_get test (x ∷ xs) e (suc i) d l = all_get test xs (and_parts (test x) (list_all test xs) e).1 i d (omega (arith, l))

all_mapped : {X Y : Type 0} (test : Y → Bool) (f : X → Y) (xs : List X) → list_all test (map f xs) ≡ true → (i : ℕ) (d : X) → i < length xs
    →
    test (f (get_or xs i d)) ≡ true
all_mapped test f xs e i d l = all_get (λ x. test (f x)) xs (sym (list_all-map test f xs) ∙ e) i d l

-- the name of a class of a program is one of a class
any_class : (cs : List LinkedClass) (i : ℕ) (d : LinkedClass) → i < length cs → list_any (bytes_eq (get_or cs i d).name)
    (class_names (classes_of cs)) ≡ true
any_class [] i d l = absurd (omega (arith, l))
any_class (c ∷ cs) zero d l = or_left (bytes_eq c.name c.name) (list_any (bytes_eq c.name) (class_names (classes_of cs)))
    ((bytes_eq-Decides c.name c.name).1 refl)
any_class (c ∷ cs) (suc i) d l = or_right (bytes_eq (get_or cs i d).name c.name)
    (list_any (bytes_eq (get_or cs i d).name) (class_names (classes_of cs)))
    (any_class cs i d (omega (arith, l)))

module _ (names : List Name) (p : Program) (k : KnowsNames names p) where
  type_known : (t : FieldType) → is_type (class_names p) t ≡ true → KnowsType names (kept_type t)
  type_known (types.Named name) e = k.known name e
  type_known types.Int e = tt
  type_known types.Truth e = tt
  type_known types.Texts e = tt

  option_known : (o : Option FieldType) → is_field_type (class_names p) o ≡ true → KnowsOption names (option_map kept_type o)
  option_known None e = absurd (false≢true e)
  option_known (Some t) e = type_known t e

  types_known : (ts : List FieldType) → list_all (is_type (class_names p)) ts ≡ true → KnowsTypes names (map kept_type ts)
  types_known [] e i d l = absurd (omega (arith, l))
  types_known (t ∷ ts) e zero d l = type_known t (and_parts (is_type (class_names p) t) (list_all (is_type (class_names p)) ts) e).0
  types_known (t ∷ ts) e (suc i) d l = types_known ts (and_parts (is_type (class_names p) t) (list_all (is_type (class_names p)) ts) e).1 i
      d (omega (arith, l))

  result_known : (o : Option FieldType) → list_all (is_type (class_names p)) (result_types o) ≡ true →
      KnowsOption names (option_map kept_type o)
  result_known None e = tt
  result_known (Some t) e = type_known t (and_parts (is_type (class_names p) t) true e).0

  signature_known : (s : Option Signature) → is_method_type (class_names p) s ≡ true → KnowsTypes names (kept_params s) × KnowsOption names
      (kept_result s)
  signature_known None e = absurd (false≢true e)
  signature_known (Some s) e =
      let both = and_parts (list_all (is_type (class_names p)) s.params) (list_all (is_type (class_names p)) (result_types s.result))
      (sym (list_all-append (is_type (class_names p)) s.params (result_types s.result)) ∙ e) in
      (types_known s.params both.0, result_known s.result both.1)

  method_known : (m : LinkedMethod) → links_method p (method_of m) ≡ true → KnowsMethod names m
  method_known m e =
      let head = and_parts (is_main_alone m.name m.descriptor && is_method_type (class_names p) (signature_of m.descriptor))
      (list_all (links_instr p (length (method_of m).code)) (method_of m).code) e in
      let typed = and_parts (is_main_alone m.name m.descriptor) (is_method_type (class_names p) (signature_of m.descriptor)) head.0 in
      let h = signature_known (signature_of m.descriptor) typed.1 in record {
        params = subst (λ ts. KnowsTypes names ts) (sym m.takes) h.0;
        result = subst (λ o. KnowsOption names o) (sym m.gives) h.1;
      }

  field_known : (f : LinkedField) → links_field p (field_of f) ≡ true → KnowsOption names f.field_type
  field_known f e = subst (λ o. KnowsOption names o) (sym f.holds) (option_known (type_of f.descriptor) e)

  class_known : (c : LinkedClass) → IsKnown names c.name → links_class p (class_of c) ≡ true → KnowsClass names c
  class_known c n e =
      let both = and_parts (list_all (links_field p) (class_of c).fields) (list_all (links_method p) (class_of c).methods) e in record {
        name = n;
        fields = λ i d l. field_known (get_or c.fields.items i d) (all_mapped (links_field p) field_of c.fields.items both.0 i d l);
        methods = λ i d l. method_known (get_or c.methods.items i d) (all_mapped (links_method p) method_of c.methods.items both.1 i d l);
      }

pub classes_known : (names : List Name) (cs : List LinkedClass) → KnowsNames names (classes_of cs) → IsLinked (classes_of cs) →
    KnowsClasses names cs
unfolding is_linked
classes_known names cs k e i d l =
    class_known names (classes_of cs) k (get_or cs i d)
    (k.known (get_or cs i d).name (or_right (is_built_in (get_or cs i d).name)
    (list_any (bytes_eq (get_or cs i d).name) (class_names (classes_of cs))) (any_class cs i d l)))
    (all_mapped (links_class (classes_of cs)) class_of cs e i d l)
