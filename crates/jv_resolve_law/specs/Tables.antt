-- The tables by which the names of a program are resolved: classes, enums and what is declared in them, by their places.
use Rattle.std.specs.Prelude.{ℕ, suc, ◌+◌, List, [], ◌∷◌, map, length, Option, Some, None, option_map, slice_get, position, Bool, true}
use Rattle.std.specs.Prelude.{false}
use Rattle.std.specs.List.{list_any}
use Rattle.std.specs.Str.{bytes_eq}
use Rattle.mg_text.specs.Call.{Name}
use Rattle.mg_text.specs.Interned.{with_text}
use Rattle.ts_tree.specs.Typestate.{Typestate}
use Rattle.ts_tree.specs.declared.parts.TypeName.{TypeName}
use Rattle.ts_tree.specs.declared.parts.TypeName.TheVariants as written
use Rattle.jv_tree.specs.Source
use Rattle.jv_meaning.specs.Program.{classes_of, enums_of}
use Rattle.jv_rules.specs.Program.{Program, offers_in}
use Rattle.jv_core.specs.declared.program.CoreType.{CoreType}
use Rattle.jv_core.specs.declared.program.CoreType.TheVariants as types
use Rattle.jv_core.specs.declared.program.MethodKind.{MethodKind}
use Rattle.jv_core.specs.declared.program.MethodKind.TheVariants as kinds

infixl 10 ◌>>=◌
-- None where the first is, else what the second makes of it
abbrev pub ◌>>=◌ : {A B : Type 0} → Option A → (A → Option B) → Option B
◌>>=◌ None f = None
◌>>=◌ (Some a) f = f a

-- a class, its number, that of its first method, and that of the typestate that it names
pub record Entry : Type 0 where
  pub class : Source.Class
  pub number : ℕ
  pub first_method : ℕ
  pub typestate : Option ℕ

pub record Tables : Type 0 where
  pub classes : List Entry
  pub enums : List Source.Enum
  pub typestates : List Typestate

-- a method and its number
pub record Callee : Type 0 where
  pub method : Source.Method
  pub number : ℕ

-- a field and its place in its class
pub record Placed : Type 0 where
  pub field : Source.Field
  pub place : ℕ

-- an enum and its number
pub record Numbered : Type 0 where
  pub number : ℕ
  pub enum : Source.Enum

abbrev pub class_names : Tables → List Name
class_names tables = map (λ e. e.class.name) tables.classes

abbrev pub enum_names : Tables → List Name
enum_names tables = map (λ e. e.name) tables.enums

-- Each name is that of the first one that has it.

abbrev pub class_called : Tables → Name → Option Entry
class_called tables name = do
  n ← position (bytes_eq name) (class_names tables)
  slice_get tables.classes n

abbrev pub enum_called : Tables → Name → Option Numbered
enum_called tables name = do
  n ← position (bytes_eq name) (enum_names tables)
  e ← slice_get tables.enums n
  Some (record { number = n; enum = e })

abbrev pub method_called : Entry → Name → Option Callee
method_called entry name = do
  n ← position (bytes_eq name) (map (λ m. m.name) entry.class.methods)
  m ← slice_get entry.class.methods n
  Some (record { method = m; number = entry.first_method + n })

abbrev pub field_called : Entry → Name → Option Placed
field_called entry name = do
  n ← position (bytes_eq name) (map (λ f. f.name) entry.class.fields)
  f ← slice_get entry.class.fields n
  Some (record { field = f; place = n })

-- the class of a name, or else the enum
abbrev pub type_called : Tables → Name → Option CoreType
type_called tables name = elim (position (bytes_eq name) (class_names tables)) [
  | Some c ↦ Some (types.Object c)
  | None ↦ option_map types.Enum (position (bytes_eq name) (enum_names tables))
]

-- what a written type is
abbrev pub type_meant : Tables → TypeName → Option CoreType
type_meant tables written.Void = Some types.Void
type_meant tables written.Int = Some types.Int
type_meant tables written.Boolean = Some types.Boolean
type_meant tables written.Text = Some types.Text
type_meant tables (written.Named name) = type_called tables name

-- whether the typestate of a class offers a method of this name
abbrev pub is_offered : Tables → Entry → Name → Bool
is_offered tables entry name = elim (entry.typestate >>= slice_get tables.typestates) [
  | None ↦ false
  | Some t ↦ list_any (λ m. bytes_eq m.name name) (offers_in t.states)
]

-- what a method is
abbrev pub kind_meant : Tables → Entry → Source.Method → MethodKind
kind_meant tables entry m = elim m.is_static [
  | true ↦ elim m.takes_args [ true ↦ kinds.Main | false ↦ kinds.Static ]
  | false ↦ elim (is_offered tables entry m.name) [ true ↦ kinds.Protocol | false ↦ kinds.Helper ]
]

-- the number of the typestate that a class names
abbrev pub followed : List Typestate → Option Name → Option (Option ℕ)
followed typestates None = Some None
followed typestates (Some name) = do
  t ← position (bytes_eq name) (map (λ t. t.name) typestates)
  Some (Some t)

-- classes from this number on, whose methods are numbered from this one on
abbrev pub entries_from : List Typestate → (number first_method : ℕ) → List Source.Class → Option (List Entry)
entries_from typestates n m [] = Some []
entries_from typestates n m (c ∷ cs) = do
  t ← followed typestates c.typestate
  rest ← entries_from typestates (suc n) (m + length c.methods) cs
  Some (record { class = c; number = n; first_method = m; typestate = t } ∷ rest)

-- the tables of a program
abbrev pub tables_of : Program → Option Tables
tables_of program = do
  classes ← entries_from program.typestates 0 0 (classes_of program.files)
  Some (record { classes = classes; enums = enums_of program.files; typestates = program.typestates })

-- a name's number, and the names with it
pub record Interned : Type 0 where
  pub number : ℕ
  pub names : List Name

abbrev pub interned : List Name → Name → Option Interned
interned names name = do
  n ← position (bytes_eq name) (with_text names name)
  Some (record { number = n; names = with_text names name })
