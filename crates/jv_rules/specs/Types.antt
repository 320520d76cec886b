-- The types of values, and what fits where.
use Rattle.std.specs.Prelude.{List, map, Some, None}
use Rattle.mg_text.specs.Call.{Name}
use Rattle.ts_tree.specs.declared.parts.TypeName.{TypeName}
use Rattle.ts_tree.specs.declared.parts.TypeName.TheVariants as written
use Rattle.jv_tree.specs.Source.{Method}
use Rattle.jv_meaning.specs.Program.{class_named}
use Rattle.jv_rules.specs.Program.{Program}

pub data ValueType : Type 0 where
  -- what a call of a method without a result gives
  NoValue : ValueType
  IntType : ValueType
  BooleanType : ValueType
  -- Java's String
  TextType : ValueType
  EnumType : Name → ValueType
  ClassType : Name → ValueType
  -- the type of `null`
  NullType : ValueType

-- the type that a written one means
abbrev pub meant : Program → TypeName → ValueType
meant program written.Void = NoValue
meant program written.Int = IntType
meant program written.Boolean = BooleanType
meant program written.Text = TextType
meant program (written.Named name) = elim (class_named program.files name) [ None ↦ EnumType name | Some c ↦ ClassType name ]

-- The types of a value and of what takes it are equal; `null` fits each class.
pub data Fits : (taken given : ValueType) → Type 0 where
  same : {t : ValueType} → Fits t t
  null : {name : Name} → Fits (ClassType name) NullType

-- what a call takes and gives
pub record Signature : Type 0 where
  pub params : List ValueType
  pub result : ValueType

abbrev pub signature_of : Program → Method → Signature
signature_of program m = record { params = map (λ p. meant program p.ty) m.params; result = meant program m.result }
