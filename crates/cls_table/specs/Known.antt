-- Names that have numbers, and of which classes all names have some.
use Rattle.std.specs.Prelude.{◌≡◌, ℕ, ◌<◌, List, length, get_or, true, Option, Some, None, position}
use Rattle.std.specs.Str.{bytes_eq}
use Rattle.mg_text.specs.Call.{Name}
use Rattle.vm_model.specs.declared.linked_type.LinkedType.{LinkedType}
use Rattle.vm_model.specs.declared.linked_type.LinkedType.TheVariants as kept
use Rattle.vm_model.specs.declared.linked.LinkedField.{LinkedField}
use Rattle.vm_model.specs.declared.linked.LinkedMethod.{LinkedMethod}
use Rattle.vm_model.specs.declared.linked.LinkedClass.{LinkedClass}
use Rattle.vm_model.specs.Program.{Program}
use Rattle.vm_model.specs.Linked.{is_class, class_names}
use Rattle.cls_kinds.specs.Named.{AreNames}

-- a name has a number, to which 4 may be added
pub record IsKnown (names : List Name) (name : Name) : Type 0 where
  pub number : ℕ
  pub found : position (bytes_eq name) names ≡ Some number
  pub few : number < 4294967281

-- all names that a program's types may have are known
pub record KnowsNames (names : List Name) (p : Program) : Type 0 where
  pub are : AreNames names
  pub known : (name : Name) → is_class (class_names p) name ≡ true → IsKnown names name

abbrev pub KnowsType : List Name → LinkedType → Type 0
KnowsType names (kept.Named name) = IsKnown names name
KnowsType names _ = Unit {0}

abbrev pub KnowsOption : List Name → Option LinkedType → Type 0
KnowsOption names None = Unit {0}
KnowsOption names (Some t) = KnowsType names t

abbrev pub KnowsTypes : List Name → List LinkedType → Type 0
KnowsTypes names ts = (i : ℕ) (d : LinkedType) → i < length ts → KnowsType names (get_or ts i d)

abbrev pub KnowsFields : List Name → List LinkedField → Type 0
KnowsFields names fs = (i : ℕ) (d : LinkedField) → i < length fs → KnowsOption names (get_or fs i d).field_type

pub record KnowsMethod (names : List Name) (m : LinkedMethod) : Type 0 where
  pub params : KnowsTypes names m.params.items
  pub result : KnowsOption names m.result

abbrev pub KnowsMethods : List Name → List LinkedMethod → Type 0
KnowsMethods names ms = (i : ℕ) (d : LinkedMethod) → i < length ms → KnowsMethod names (get_or ms i d)

pub record KnowsClass (names : List Name) (c : LinkedClass) : Type 0 where
  pub name : IsKnown names c.name
  pub fields : KnowsFields names c.fields.items
  pub methods : KnowsMethods names c.methods.items

abbrev pub KnowsClasses : List Name → List LinkedClass → Type 0
KnowsClasses names cs = (i : ℕ) (d : LinkedClass) → i < length cs → KnowsClass names (get_or cs i d)
