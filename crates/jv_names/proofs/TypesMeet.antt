-- The types of sources, and those of what is resolved of them.
use Rattle.std.proofs.Common.{◌≡◌, ℕ, Option, Some, None, sym, ap, subst}
use Rattle.std.specs.Prelude.{option_map}
use Rattle.mg_text.specs.Call.{Name}
use Rattle.ts_tree.specs.declared.parts.TypeName.{TypeName}
use Rattle.jv_tree.specs.Source
use Rattle.jv_meaning.specs.Program.{class_named}
use Rattle.jv_rules.specs.Program.{Program}
use Rattle.jv_rules.specs.Types.{ValueType, NoValue, IntType, BooleanType, TextType, EnumType, ClassType, NullType, meant}
use Rattle.jv_rules.specs.Scope.{Declared}
use Rattle.jv_core.specs.declared.program.CoreType.{CoreType}
use Rattle.jv_core.specs.declared.program.CoreType.TheVariants as types
use Rattle.jv_core.specs.Tree as Core
use Rattle.jv_core.specs.Lookup.{slot_type}
use Rattle.jv_names.specs.Resolves.{IsClass, IsEnum, IsType, IsSlot, HasSlot, Aligned}
use Rattle.jv_names.specs.Resolves as is
use Rattle.jv_names.proofs.Locals.{IsLocal}

module _ (program : Program) (core : Core.Program) where
  -- a type of the source, and that of the core; `null` has each type of a class
  pub data Meets : ValueType → CoreType → Type 0 where
    no_value : Meets NoValue types.Void
    int : Meets IntType types.Int
    boolean : Meets BooleanType types.Boolean
    text : Meets TextType types.Text
    class : {name : Name} {c : ℕ} → IsClass program core name c → Meets (ClassType name) (types.Object c)
    enum : {name : Name} {e : ℕ} {k : Source.Enum} → IsEnum program core name e k → Meets (EnumType name) (types.Enum e)
    null : {c : ℕ} → Meets NullType (types.Object c)

  named_class : (name : Name) (c : ℕ) (found : Option Source.Class) (k : Source.Class) → found ≡ Some k → IsClass program core name c →
      Meets (elim found [ None ↦ EnumType name | Some c ↦ ClassType name ]) (types.Object c)
  named_class name c None k e i = absurd (cc)
  named_class name c (Some k) _ e i = class i

  named_enum : (name : Name) (n : ℕ) (k : Source.Enum) (found : Option Source.Class) → found ≡ None → IsEnum program core name n k →
      Meets (elim found [ None ↦ EnumType name | Some c ↦ ClassType name ]) (types.Enum n)
  named_enum name n k None e i = enum i
  named_enum name n k (Some c) e i = absurd (cc)

  -- a written type and what it is resolved to
  pub meant_meets : (ty : TypeName) (t : CoreType) → IsType program core ty t → Meets (meant program ty) t
  meant_meets _ _ is.void_type = no_value
  meant_meets _ _ is.int_type = int
  meant_meets _ _ is.boolean_type = boolean
  meant_meets _ _ is.text_type = text
  meant_meets _ _ (is.class_type {name = name} {c = c} i) = named_class name c (class_named program.files name) i.class i.named i
  meant_meets _ _ (is.enum_type {name = name} {e = e} {k = k} none i) = named_enum name e k (class_named program.files name) none i

  module _ (method : Core.Method) where
    -- the type of a local, and that of its slot
    pub record SlotMeets (d : Declared) (k : ℕ) : Type 0 where
      pub type : CoreType
      pub at : slot_type method k ≡ Some type
      pub meets : Meets d.type type

    pub local_meets : (d : Declared) (k : ℕ) → IsLocal program core method d k → SlotMeets d k
    local_meets d k i = record {
      type = i.slot.slot.ty;
      at = ap (option_map (λ (s : Core.Slot). s.ty)) i.slot.at;
      meets = subst (λ t. Meets t i.slot.slot.ty) (sym i.type) (meant_meets i.ty i.slot.slot.ty i.slot.type);
    }
