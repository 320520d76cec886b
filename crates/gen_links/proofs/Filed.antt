-- A class file, as linking reads it: its outline, and its linked class.
use Rattle.std.proofs.Common.{◌≡◌, ℕ, List, [], ◌∷◌, ◌++◌, map, Some}
use Rattle.std.proofs.Common.{None, Ok, refl, sym, ap, ap₂, ◌∙◌, filter, flat_map}
use Rattle.std.specs.List.{AllByRecursion}
use Rattle.mg_text.specs.Call.{Name}
use Rattle.cls_tree.specs.declared.class.Const.{Const}
use Rattle.cls_tree.specs.Tree as file
use Rattle.cls_tree.specs.Pool.{text_at, class_at}
use Rattle.cls_tree.specs.Emitted.{code_of}
use Rattle.vm_model.specs.Links as links
use Rattle.vm_model.specs.Links.{Flaw, Outline, Declared, or_empty, declared, outline, is_dynamic, is_static, right_in}
use Rattle.vm_model.specs.Links.{wrong_in, some_in, code_among, method_made, method_of_member}
use Rattle.vm_model.specs.Links.{method_flaws, code_flaws, super_flaw, field_made, judged_code}
use Rattle.vm_model.specs.BuiltIns.{object_class}
use Rattle.jv_core.specs.Tree.{Field, Class, Program}
use Rattle.jv_core.specs.Lookup as core
use Rattle.gen_rules.specs.Members.{field_descriptor}
use Rattle.gen_rules.specs.Classes.{Compiled, parts, class_file}
use Rattle.gen_rules.specs.Linked.{declared_field, declared_method, outline_of, linked_code, linked_method, linked_methods, linked_class}
use Rattle.gen_rules.proofs.Pool.{grows_none}
use Rattle.gen_rules.proofs.Found.{text_found, class_found}
use Rattle.gen_links.specs.Right.{AreRight}
use Rattle.gen_links.proofs.Parts.{FieldStands, MethodStands, AllStand, PartsStand, parts-gives}

-- Fields and methods, by what their constants say.

declared_as : (pool : List Const) (m : file.Member) (name descriptor : Name) (access : ℕ) → text_at pool m.name ≡ Some name →
    text_at pool m.descriptor ≡ Some descriptor → m.access ≡ access →
    declared pool m ≡ record { name = name; descriptor = descriptor; is_static = is_static access }
declared_as pool m name descriptor access n d a = λ i. record {
  name = or_empty (n i);
  descriptor = or_empty (d i);
  is_static
      = is_static (a i);
}

field_declared : (p : Program) (pool : List Const) (d : Field) (m : file.Member) → FieldStands p d pool m →
    declared pool m ≡ declared_field p d
field_declared p pool d m h =
    declared_as pool m (core.text_at p d.name) (field_descriptor p d.ty) 2 (text_found pool m.name (core.text_at p d.name) h.name)
    (text_found pool m.descriptor (field_descriptor p d.ty) h.descriptor) h.access

method_declared : (pool : List Const) (c : Compiled) (m : file.Member) → MethodStands c pool m → declared pool m ≡ declared_method c
method_declared pool c m h =
    declared_as pool m c.name c.descriptor c.access (text_found pool m.name c.name h.name)
    (text_found pool m.descriptor c.descriptor h.descriptor) h.access

fields_declared : (p : Program) (pool : List Const) (ds : List Field) (ms : List file.Member) → AllStand (FieldStands p) pool ds ms →
    map (declared pool) ms ≡ map (declared_field p) ds
fields_declared p pool [] [] h = refl
fields_declared p pool [] (m ∷ ms) h = absurd h
fields_declared p pool (d ∷ ds) [] h = absurd h
fields_declared p pool (d ∷ ds) (m ∷ ms) h = ap₂ (λ x xs. x ∷ xs) (field_declared p pool d m h.0) (fields_declared p pool ds ms h.1)

methods_declared : (pool : List Const) (cs : List Compiled) (ms : List file.Member) → AllStand MethodStands pool cs ms →
    map (declared pool) ms ≡ map declared_method cs
methods_declared pool [] [] h = refl
methods_declared pool [] (m ∷ ms) h = absurd h
methods_declared pool (c ∷ cs) [] h = absurd h
methods_declared pool (c ∷ cs) (m ∷ ms) h = ap₂ (λ x xs. x ∷ xs) (method_declared pool c m h.0) (methods_declared pool cs ms h.1)

-- no field is static
own_fields : (p : Program) (ds : List Field) → filter is_dynamic (map (declared_field p) ds) ≡ map (declared_field p) ds
own_fields p [] = refl
own_fields p (d ∷ ds) = ap (λ xs. declared_field p d ∷ xs) (own_fields p ds)

-- Judged lists in which nothing is wrong.

all_right : {A : Type 0} (xs : List A) → right_in (map Ok xs) ≡ xs
all_right [] = refl
all_right (x ∷ xs) = ap (λ ys. x ∷ ys) (all_right xs)

none_wrong : {A : Type 0} (xs : List A) → wrong_in (map Ok xs) ≡ []
none_wrong [] = refl
none_wrong (x ∷ xs) = none_wrong xs

module _ (os : List Outline) (pool : List Const) where
  code_is : (c : Compiled) (m : file.Member) → MethodStands c pool m → (code : file.Code) → m.attributes ≡ file.Coded code ∷ [] →
      code_of (m ∷ []) ≡ code.instrs
  code_is c m h code e = ap (λ x. elim x [ [] ↦ [] | a ∷ more ↦ elim a [ file.Coded k ↦ k.instrs | file.Other name bytes ↦ [] ] ]) e

  judged_all : (c : Compiled) (m : file.Member) (h : MethodStands c pool m) → AreRight os c.code →
      judged_code os pool h.code.instrs ≡ map Ok (linked_code os c.code h.code.instrs)
  judged_all c m h r = h.stands.judges os pool r (grows_none pool)

  made_as : (c : Compiled) (m : file.Member) → MethodStands c pool m → AreRight os c.code →
      method_of_member os pool m ≡ linked_method os c m ∷ []
  made_as c m h r =
      let attributes : code_among m.attributes ≡ Some h.code = ap code_among h.attributes in
      let right : right_in (judged_code os pool h.code.instrs) ≡ linked_code os c.code h.code.instrs
      = ap right_in (judged_all c m h r) ∙ all_right (linked_code os c.code h.code.instrs) in
      let instrs : h.code.instrs ≡ code_of (m ∷ []) = sym (code_is c m h h.code h.attributes) in
      let made : method_made os pool (declared_method c) (Some h.code) ≡ record {
        name = c.name;
        descriptor = c.descriptor;
        is_static = is_static c.access;
        max_stack = c.max_stack;
        max_locals = c.max_locals;
        code = linked_code os c.code h.code.instrs;
      } ∷ []
      = λ i. record {
        name = c.name;
        descriptor = c.descriptor;
        is_static = is_static c.access;
        max_stack = h.stands.max_stack i;
        max_locals = h.stands.max_locals i;
        code = right i;
      } ∷ [] in
      ap₂ (method_made os pool) (method_declared pool c m h) attributes ∙ made
      ∙ ap (λ x. record {
        name = c.name;
        descriptor = c.descriptor;
        is_static = is_static c.access;
        max_stack = c.max_stack;
        max_locals = c.max_locals;
        code = linked_code os c.code x;
      } ∷ []) instrs

  all_made : (cs : List Compiled) (ms : List file.Member) → AllStand MethodStands pool cs ms →
      AllByRecursion (λ c. AreRight os c.code) cs →
      flat_map (method_of_member os pool) ms ≡ linked_methods os cs ms
  all_made [] [] h r = refl
  all_made [] (m ∷ ms) h r = absurd h
  all_made (c ∷ cs) [] h r = absurd h
  all_made (c ∷ cs) (m ∷ ms) h r = ap₂ (λ x xs. x ++ xs) (made_as c m h.0 r.0) (all_made cs ms h.1 r.1)

  no_code_flaws : (c : Compiled) (m : file.Member) → MethodStands c pool m → AreRight os c.code → method_flaws os pool m ≡ []
  no_code_flaws c m h r =
      ap (code_flaws os pool (declared pool m).name) (ap code_among h.attributes)
      ∙ ap wrong_in (judged_all c m h r) ∙ none_wrong (linked_code os c.code h.code.instrs)

  no_flaws_in_code : (cs : List Compiled) (ms : List file.Member) → AllStand MethodStands pool cs ms →
      AllByRecursion (λ c. AreRight os c.code) cs →
      flat_map (method_flaws os pool) ms ≡ []
  no_flaws_in_code [] [] h r = refl
  no_flaws_in_code [] (m ∷ ms) h r = absurd h
  no_flaws_in_code (c ∷ cs) [] h r = absurd h
  no_flaws_in_code (c ∷ cs) (m ∷ ms) h r = ap₂ (λ x xs. x ++ xs) (no_code_flaws c m h.0 r.0) (no_flaws_in_code cs ms h.1 r.1)

-- Classes.

module _ (p : Program) (k : Class) (cs : List Compiled) where
  abbrev made : PartsStand p k cs (class_file p k cs).pool (parts p k cs []).0
  made = (parts-gives p k cs []).holds

  pub outline_is : outline (class_file p k cs) ≡ outline_of p k cs
  outline_is =
      let pool = (class_file p k cs).pool in
      let fields : map (declared pool) (class_file p k cs).fields ≡ map (declared_field p) k.fields
      = fields_declared p pool k.fields (class_file p k cs).fields made.fields in
      λ i. record {
        name = or_empty (class_found pool (class_file p k cs).this_class (core.text_at p k.name) made.this_class i);
        fields = fields i;
        own = (ap (filter is_dynamic) fields ∙ own_fields p k.fields) i;
        methods = methods_declared pool cs (class_file p k cs).methods made.methods_stand i;
      }

  pub class_is : (os : List Outline) → AllByRecursion (λ c. AreRight os c.code) cs →
      links.linked_class os (class_file p k cs) ≡ linked_class p os k cs
  class_is os r = λ i. record {
    name = (outline_is i).name;
    fields = map field_made (outline_is i).own;
    methods = all_made os (class_file p k cs).pool cs (class_file p k cs).methods made.methods_stand r i;
  }

  pub code_flaws_none : (os : List Outline) → AllByRecursion (λ c. AreRight os c.code) cs →
      flat_map (method_flaws os (class_file p k cs).pool) (class_file p k cs).methods ≡ []
  code_flaws_none os r = no_flaws_in_code os (class_file p k cs).pool cs (class_file p k cs).methods made.methods_stand r

  pub super_is : super_flaw (or_empty (class_at (class_file p k cs).pool (class_file p k cs).super_class)) ≡ None
  super_is = ap (λ x. super_flaw (or_empty x)) (class_found (class_file p k cs).pool
      (class_file p k cs).super_class object_class made.super_class)
