-- Linked programs, as definitions speak of them.
use Rattle.std.specs.Prelude.{ℕ, ℤ, List, [], Bool, Option, Some, None, slice_get}
use Rattle.mg_text.specs.Call.{Name}
use Rattle.vm_model.specs.declared.linked.Built.{Built as BuiltIn}

-- what an instruction works with
pub data Args : Type 0 where
  Nothing : Args
  Int : ℤ → Args
  Text : List ℕ → Args
  Local : ℕ → Args
  Add : ℕ → ℤ → Args
  Jump : ℕ → Args
  Table : (default : ℕ) (low : ℤ) (targets : List ℕ) → Args
  Class : ℕ → Args
  Field : (class field : ℕ) → Args
  Method : (class method : ℕ) → Args
  Built : BuiltIn → Args

pub record Instr : Type 0 where
  pub op : ℕ
  pub args : Args

pub record FieldOf : Type 0 where
  pub name : Name
  pub descriptor : Name

pub record MethodOf : Type 0 where
  pub name : Name
  pub descriptor : Name
  pub is_static : Bool
  pub max_stack : ℕ
  pub max_locals : ℕ
  pub code : List Instr

pub record ClassOf : Type 0 where
  pub name : Name
  pub fields : List FieldOf
  pub methods : List MethodOf

abbrev pub Program : Type 0
Program = List ClassOf

abbrev pub fields_in : Option ClassOf → List FieldOf
fields_in None = []
fields_in (Some c) = c.fields

abbrev pub methods_in : Option ClassOf → List MethodOf
methods_in None = []
methods_in (Some c) = c.methods

abbrev pub name_in : Option ClassOf → Name
name_in None = []
name_in (Some c) = c.name

-- the class, the field, the method of these numbers
abbrev pub class_at : Program → ℕ → Option ClassOf
class_at p c = slice_get p c

abbrev pub field_at : Program → ℕ → ℕ → Option FieldOf
field_at p c f = slice_get (fields_in (class_at p c)) f

abbrev pub method_at : Program → ℕ → ℕ → Option MethodOf
method_at p c m = slice_get (methods_in (class_at p c)) m

-- the name of the class of this number
abbrev pub class_name : Program → ℕ → Name
class_name p c = name_in (class_at p c)
