-- How many bytes stand behind an opcode of a form, or behind none.
use Rattle.std.specs.Prelude.{ℕ, ◌+◌, ◌*◌, length, nat_lt, if◌then◌else◌, Option, Some}
use Rattle.gen_rules.specs.Symbolic.{Operand, Nothing, Number, Constant, Local, Jump, Table, Class, Field, Method}
use Rattle.cls_tree.specs.declared.instr.Form.{Form}
use Rattle.cls_tree.specs.declared.instr.Form.TheVariants as forms
use Rattle.cls_tree.specs.Layout.{pad}

-- a number
abbrev pub number_size : Option Form → ℕ
number_size (Some forms.Byte) = 1
number_size (Some forms.Short) = 2
number_size _ = 0

-- a local
abbrev pub local_size : Option Form → ℕ
local_size (Some forms.Local) = 1
local_size _ = 0

-- a jump
abbrev pub jump_size : Option Form → ℕ
jump_size (Some forms.Jump) = 2
jump_size _ = 0

-- a table of so many offsets
abbrev pub table_size : Option Form → (place count : ℕ) → ℕ
table_size (Some forms.Table) place count = pad place + 12 + 4 * count
table_size _ place count = 0

-- the number of a constant
abbrev pub pool_size : Option Form → ℕ
pool_size (Some forms.NearConstant) = 1
pool_size (Some forms.Constant) = 2
pool_size (Some forms.Field) = 2
pool_size (Some forms.Method) = 2
pool_size (Some forms.Class) = 2
pool_size _ = 0

-- what an instruction works with, where its constant has this number
abbrev pub sized : Option Form → (place number : ℕ) → Operand → ℕ
sized form place k Nothing = 0
sized form place k (Number n) = number_size form
sized form place k (Constant c) = if nat_lt k 256 then 1 else 2
sized form place k (Local n) = local_size form
sized form place k (Jump target) = jump_size form
sized form place k (Table default targets) = table_size form place (length targets)
sized form place k (Class name) = pool_size form
sized form place k (Field r) = pool_size form
sized form place k (Method r) = pool_size form
