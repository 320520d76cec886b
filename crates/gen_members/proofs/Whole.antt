-- A class file of its parts.
use Rattle.std.proofs.Common.{◌≡◌, ℕ, List, [], ◌++◌, map, option_map, None, sym, ap, ◌∙◌}
use Rattle.std.proofs.lemmas.List.{append-nil}
use Rattle.cls_tree.specs.declared.class.Const.{Const}
use Rattle.cls_tree.specs.Tree as file
use Rattle.jv_core.specs.Tree.{Class, Program}
use Rattle.gen_rules.specs.Classes.{Compiled, Header, header, field_in_file, method_in_file, each, class_file}
use Rattle.gen_rules.specs.Limits.{Part, Names, OfField, OfMethod, parts_in, or_else, told, exceeded_by, first_in_parts}
use Rattle.gen_pool.specs.Made.{IsMade}
use Rattle.gen_members.specs.declared.faults.GenFault.{GenFault}
use Rattle.gen_members.specs.Told.{Tells}
use Rattle.gen_members.proofs.Filing.{told_on}

abbrev pub file_with : List Const → (this_class super_class : ℕ) → (fields methods : List file.Member) → file.Class
file_with pool t s fs ms = record {
  pool = pool;
  access = 33;
  this_class = t;
  super_class = s;
  fields = fs;
  methods = ms;
  attributes = [];
}

module _ (p : Program) (k : Class) (all : List Compiled) (p1 p2 p3 : List Const) where
  abbrev fields_part : List Part
  fields_part = map OfField k.fields

  abbrev methods_part : List Part
  methods_part = map OfMethod all

  module _ (t s : ℕ) (fs ms : List file.Member) (head : IsMade {A = Header} (record { this_class = t; super_class = s }) p1 (header p k []))
      (fields : IsMade fs p2 (each (field_in_file p) k.fields p1)) (methods : IsMade ms p3 (each method_in_file all p2)) where
    second : p2 ≡ (each (field_in_file p) k.fields (header p k []).1).1
    second = fields.left ∙ ap (λ q. (each (field_in_file p) k.fields q).1) head.left

    pub class_made : file_with p3 t s fs ms ≡ class_file p k all
    class_made =
        ap (λ (h : Header). file_with p3 h.this_class h.super_class fs ms) head.value
        ∙ ap (λ x. file_with p3 (header p k []).0.this_class (header p k []).0.super_class x ms)
        (fields.value ∙ ap (λ q. (each (field_in_file p) k.fields q).0) head.left)
        ∙ ap (λ x. file_with p3 (header p k []).0.this_class (header p k []).0.super_class
        (each (field_in_file p) k.fields (header p k []).1).0 x) (methods.value ∙ ap (λ q. (each method_in_file all q).0) second)
        ∙ ap (λ x. file_with x (header p k []).0.this_class (header p k []).0.super_class
        (each (field_in_file p) k.fields (header p k []).1).0
        (each method_in_file all (each (field_in_file p) k.fields (header p k []).1).1).0)
        (methods.left ∙ ap (λ q. (each method_in_file all q).1) second)

  -- nothing is too large in the header, in the fields, in the methods
  module _ (left : p1 ≡ (header p k []).1) (head : exceeded_by p k Names [] ≡ None) where
    pub behind_header : first_in_parts p k (parts_in k all) [] ≡ first_in_parts p k (fields_part ++ methods_part) p1
    behind_header =
        ap (λ r. or_else (option_map (told p k Names) r) (first_in_parts p k (fields_part ++ methods_part) (header p k []).1)) head
        ∙ ap (first_in_parts p k (fields_part ++ methods_part)) (sym left)

    module _ (fields : (more : List Part) → first_in_parts p k (fields_part ++ more) p1 ≡ first_in_parts p k more p2) where
      pub behind_fields : first_in_parts p k (parts_in k all) [] ≡ first_in_parts p k (methods_part ++ []) p2
      behind_fields = behind_header ∙ fields methods_part ∙ ap (λ ps. first_in_parts p k ps p2) (sym (append-nil methods_part))

      pub class_fine : ((class : Class) (more : List Part) → first_in_parts p class (methods_part ++ more) p2 ≡ first_in_parts p class more
          p3) →
          first_in_parts p k (parts_in k all) [] ≡ None
      class_fine methods = behind_fields ∙ methods k []

      pub methods_fail : (e : GenFault) → ((class : Class) (more : List Part) → Tells (first_in_parts p class (methods_part ++ more) p2) e)
          →
          Tells (first_in_parts p k (parts_in k all) []) e
      methods_fail e tells = told_on (first_in_parts p k (methods_part ++ []) p2) (first_in_parts p k (parts_in k all) []) e
          (λ excess is. behind_fields ∙ is) (tells k [])

    pub fields_fail : (e : GenFault) → ((more : List Part) → Tells (first_in_parts p k (fields_part ++ more) p1) e) →
        Tells (first_in_parts p k (parts_in k all) []) e
    fields_fail e tells = told_on (first_in_parts p k (fields_part ++ methods_part) p1) (first_in_parts p k (parts_in k all) []) e
        (λ excess is. behind_header ∙ is) (tells methods_part)
