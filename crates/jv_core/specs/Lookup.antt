-- What numbers and names stand for in a program.
use Rattle.std.specs.Prelude.{◌≡◌, ℕ, List, [], get_or, map, take, Option, Some, slice_get, option_map, option_and_then, position, Bool}
use Rattle.std.specs.Prelude.{true, false}
use Rattle.std.specs.Str.{bytes_eq}
use Rattle.mg_text.specs.Call.{Name}
use Rattle.jv_core.specs.declared.tree.Var.{Var}
use Rattle.jv_core.specs.declared.tree.Var.TheVariants as vars
use Rattle.jv_core.specs.declared.program.CoreType.{CoreType}
use Rattle.jv_core.specs.declared.program.MethodKind.{MethodKind}
use Rattle.jv_core.specs.declared.program.MethodKind.TheVariants as kinds
use Rattle.jv_core.specs.Tree.{Method, Program}

-- the text of a name
abbrev pub text_at : Program → (name : ℕ) → Name
text_at p n = get_or p.names n []

-- the name of a class, as a text
abbrev pub class_text : Program → (class : ℕ) → Option Name
class_text p c = option_map (λ k. text_at p k.name) (slice_get p.classes c)

-- the name of an enum
abbrev pub enum_text : Program → (enum : ℕ) → Option Name
enum_text p e = option_map (λ d. text_at p d.name) (slice_get p.enums e)

-- the number of the first class of a name
abbrev pub class_numbered : Program → Name → Option ℕ
class_numbered p name = position (λ c. bytes_eq (text_at p c.name) name) p.classes

abbrev pub slot_type : Method → (slot : ℕ) → Option CoreType
slot_type m k = option_map (λ s. s.ty) (slice_get m.slots k)

abbrev pub slot_text : Program → Method → (slot : ℕ) → Option Name
slot_text p m k = option_map (λ s. text_at p s.name) (slice_get m.slots k)

abbrev pub field_type : Program → (class field : ℕ) → Option CoreType
field_type p c f = option_and_then (λ k. option_map (λ d. d.ty) (slice_get k.fields f)) (slice_get p.classes c)

-- the type of a slot of a method, or of a field of its class
abbrev pub variable_type : Program → Method → Var → Option CoreType
variable_type p m (vars.Slot k) = slot_type m k
variable_type p m (vars.Field f) = field_type p m.class f

abbrev pub param_types : Method → List CoreType
param_types m = map (λ s. s.ty) (take m.params m.slots)

-- it runs on an object of its class
abbrev pub IsInstance : MethodKind → Type 0
IsInstance kinds.Protocol = Unit {0}
IsInstance kinds.Helper = Unit {0}
IsInstance _ = ⊥

-- methods of a class
abbrev pub IsOf : Program → (class : ℕ) → Method → Type 0
IsOf p c m = (n : ℕ) × (slice_get p.methods n ≡ Some m) × (m.class ≡ c)

abbrev pub is_main : MethodKind → Bool
is_main kinds.Main = true
is_main _ = false
