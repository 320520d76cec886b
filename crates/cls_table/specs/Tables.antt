-- What a program's classes, fields and methods are in kinds.
use Rattle.std.specs.Prelude.{◌≡◌, ℕ, ◌<◌, List, [], ◌∷◌, ◌++◌, length, map, get_or, true, not, ◌&&◌, ◌==◌, Option, Some, option_map}
use Rattle.std.specs.Prelude.{position, if◌then◌else◌}
use Rattle.std.specs.Str.{bytes_eq}
use Rattle.mg_text.specs.Call.{Name}
use Rattle.vm_model.specs.Program.{Program, FieldOf, MethodOf, ClassOf}
use Rattle.vm_model.specs.Types.{signature_of, type_of}
use Rattle.vm_model.specs.Linked.{is_built_in}
use Rattle.vm_model.specs.Tests.{params_in, result_in}
use Rattle.cls_verify.specs.Kinds.{Kind, Instance, kind_of_type}
use Rattle.cls_verify.specs.Rows.{IsOwn}
use Rattle.cls_kinds.specs.Named.{AreNames, kind_of, kinds_of}
use Rattle.cls_table.specs.declared.classes.MethodKinds.{MethodKinds}
use Rattle.cls_table.specs.declared.classes.ClassKinds.{ClassKinds}
use Rattle.cls_table.specs.declared.classes.ProgramKinds.{ProgramKinds}

abbrev pub field_kind : FieldOf → Option Kind
field_kind f = option_map kind_of_type (type_of f.descriptor)

-- what a method of a class of this name takes, the object first
abbrev pub taken_kinds : Name → MethodOf → List Kind
taken_kinds class m = (if m.is_static then [] else Instance class ∷ []) ++ map kind_of_type (params_in (signature_of m.descriptor))

pub record IsMethod (names : List Name) (class : Name) (m : MethodOf) (x : MethodKinds) : Type 0 where
  pub takes : kinds_of names x.takes.items ≡ taken_kinds class m
  pub result : option_map (kind_of names) x.result ≡ option_map kind_of_type (result_in (signature_of m.descriptor))
  pub is_static : x.is_static ≡ m.is_static
  pub max_locals : x.max_locals ≡ m.max_locals

-- methods by their numbers
abbrev pub AreMethods : List Name → Name → List MethodOf → List MethodKinds → Type 0
AreMethods names class [] [] = Unit {0}
AreMethods names class (m ∷ ms) (x ∷ xs) = IsMethod names class m x × AreMethods names class ms xs
AreMethods names class _ _ = ⊥

pub record IsClass (names : List Name) (c : ClassOf) (x : ClassKinds) : Type 0 where
  pub kind : kind_of names x.kind ≡ Instance c.name
  pub built_in : x.is_built_in ≡ is_built_in c.name
  pub fields : map (option_map (kind_of names)) x.fields.items ≡ map field_kind c.fields
  pub methods : AreMethods names c.name c.methods x.methods.items

-- it is the program's own where its name is counted once and no built-in class has it
pub record IsCountedOne (names : List Name) (counts : List ℕ) (c : ClassOf) (x : ClassKinds) : Type 0 where
  pub is : (number : ℕ) → position (bytes_eq c.name) names ≡ Some number →
      x.is_own ≡ ((get_or counts number 0 == 1) && not (is_built_in c.name))

-- classes by their numbers
abbrev pub AreClasses : List Name → (counts : List ℕ) → List ClassOf → List ClassKinds → Type 0
AreClasses names counts [] [] = Unit {0}
AreClasses names counts (c ∷ cs) (x ∷ xs) = IsClass names c x × (IsCountedOne names counts c x × AreClasses names counts cs xs)
AreClasses names counts _ _ = ⊥

pub record AreKinds (p : Program) (k : ProgramKinds) : Type 0 where
  pub names : AreNames k.names
  pub classes : length k.classes.items ≡ length p
  pub each_class : (i : ℕ) (c : ClassOf) (d : ClassKinds) → i < length p → IsClass k.names (get_or p i c) (get_or k.classes.items i d)
  pub own : (i : ℕ) (d : ClassKinds) → i < length p → (get_or k.classes.items i d).is_own ≡ true → IsOwn p i
  pub not_own : (i : ℕ) (d : ClassKinds) → IsOwn p i → (get_or k.classes.items i d).is_own ≡ true
