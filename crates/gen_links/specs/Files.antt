-- When the class files of a program link.
use Rattle.std.specs.Prelude.{◌≡◌, ◌≢◌, ℕ, List, [], map, None}
use Rattle.std.specs.List.{AllByRecursion}
use Rattle.mg_text.specs.Call.{Name}
use Rattle.cls_tree.specs.declared.class.Const.{Const}
use Rattle.cls_tree.specs.Jumps.{first_outside}
use Rattle.vm_model.specs.Links.{Links, Outline, field_flaw, method_flaw, duplicates}
use Rattle.jv_core.specs.Tree.{Program}
use Rattle.jv_core.specs.Conditions.{IsCore}
use Rattle.gen_rules.specs.Assembled.{assembled}
use Rattle.gen_rules.specs.Classes.{Compiled, IsCompiled, class_files}
use Rattle.gen_rules.specs.Linked.{outlines_of, linked_program, AllLink}
use Rattle.gen_links.specs.Known.{Knows}

-- the descriptors of a class link
pub record HasGoodDescriptors (os : List Outline) (o : Outline) : Type 0 where
  pub fields : AllByRecursion (λ d. field_flaw os d ≡ None) o.fields
  pub methods : AllByRecursion (λ d. method_flaw os d ≡ None) o.methods

-- what linking finds in the classes of a program
pub record IsFound (p : Program) (os : List Outline) : Type 0 where
  pub knows : (count : ℕ) → Knows os p count
  pub descriptors : AllByRecursion (HasGoodDescriptors os) os
  pub apart : duplicates [] (map (λ o. o.name) os) ≡ []

-- where this is found, the class files of a core link to the program that is expected
pub record FilesLink : Type 0 where
  pub links : (p : Program) → IsCore p → (all : List (List Compiled)) → IsCompiled p all → IsFound p (outlines_of p p.classes all) →
      Links (class_files p p.classes all) (linked_program p all)

-- the names of a program are no names of built-in classes or of constructors, and stand in descriptors: `/`, `;` and `<` aren't in them
abbrev pub IsPlainName : Name → Type 0
IsPlainName name = AllByRecursion (λ b. (b ≢ 47) × (b ≢ 59) × (b ≢ 60)) name

abbrev pub HasPlainNames : Program → Type 0
HasPlainNames p = AllByRecursion IsPlainName p.names

-- the class files of each core whose names are plain link to the program that is expected
pub record CoresLink : Type 0 where
  pub link : (p : Program) → IsCore p → HasPlainNames p → AllLink p

-- each jump of a code reaches the start of an instruction, whatever stood in the pool before
abbrev pub JumpsInside : Compiled → Type 0
JumpsInside c = (pool : List Const) → first_outside (assembled c.code pool).0 ≡ None

-- so it is in each method of a core whose names are plain
pub record CoresJump : Type 0 where
  pub inside : (p : Program) → IsCore p → HasPlainNames p → (all : List (List Compiled)) → IsCompiled p all →
      AllByRecursion (AllByRecursion JumpsInside) all
