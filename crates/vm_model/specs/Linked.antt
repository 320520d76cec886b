-- What every linked program meets: its instructions have the arguments of their opcodes, their numbers are in range, and its descriptors
-- link.
use Rattle.std.specs.Prelude.{◌≡◌, ℕ, List, map, Bool, true, false, Option, Some, None, ◌&&◌, ◌||◌, is_some, nat_lt, length}
use Rattle.std.specs.List.{list_all, list_any}
use Rattle.std.specs.Str.{bytes_eq}
use Rattle.mg_text.specs.Call.{Name}
use Rattle.vm_model.specs.BuiltIns.{object_class, string_class, system_class, print_stream_class, session_class}
use Rattle.vm_model.specs.Program.{Args, Jump, Table, Class, Field, Method, Instr, FieldOf, MethodOf, ClassOf, Program, field_at, method_at}
use Rattle.vm_model.specs.Types.{FieldType, Named, Signature, is_main_alone, signature_of, type_of, types_of_signature}
use Rattle.vm_model.specs.Actions.{action}

-- the names of the built-in classes
abbrev pub is_built_in : Name → Bool
is_built_in name =
    bytes_eq name object_class || bytes_eq name string_class || bytes_eq name system_class || bytes_eq name print_stream_class
    || bytes_eq name session_class

abbrev pub class_names : Program → List Name
class_names p = map (λ c. c.name) p

-- a class that a descriptor may name
abbrev pub is_class : List Name → Name → Bool
is_class names name = is_built_in name || list_any (bytes_eq name) names

abbrev pub is_type : List Name → FieldType → Bool
is_type names (Named name) = is_class names name
is_type names type = true

abbrev pub is_field_type : List Name → Option FieldType → Bool
is_field_type names None = false
is_field_type names (Some type) = is_type names type

abbrev pub is_method_type : List Name → Option Signature → Bool
is_method_type names None = false
is_method_type names (Some s) = list_all (is_type names) (types_of_signature s)

-- jumps lead to instructions of a code of so many
abbrev pub leads_within : ℕ → Args → Bool
leads_within count (Jump target) = nat_lt target count
leads_within count (Table default low targets) = nat_lt default count && list_all (λ target. nat_lt target count) targets
leads_within count args = true

-- these are arguments of the opcode in a code of so many instructions
abbrev pub fits_code : (count op : ℕ) → Args → Bool
fits_code count op args = is_some (action op args) && leads_within count args

-- the class, the field and the method of these numbers are there
abbrev pub names_part : Program → Args → Bool
names_part p (Class class) = nat_lt class (length p)
names_part p (Field class field) = is_some (field_at p class field)
names_part p (Method class method) = is_some (method_at p class method)
names_part p args = true

abbrev pub links_instr : Program → ℕ → Instr → Bool
links_instr p count i = fits_code count i.op i.args && names_part p i.args

abbrev pub links_field : Program → FieldOf → Bool
links_field p f = is_field_type (class_names p) (type_of f.descriptor)

abbrev pub links_method : Program → MethodOf → Bool
links_method p m =
    (is_main_alone m.name m.descriptor && is_method_type (class_names p) (signature_of m.descriptor))
    && list_all (links_instr p (length m.code)) m.code

abbrev pub links_class : Program → ClassOf → Bool
links_class p c = list_all (links_field p) c.fields && list_all (links_method p) c.methods

unfoldable pub is_linked : Program → Bool
is_linked p = list_all (links_class p) p

abbrev pub IsLinked : Program → Type 0
IsLinked p = is_linked p ≡ true
