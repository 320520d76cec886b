-- How many bytes an instruction takes at a place of the code.
use Rattle.std.specs.Prelude.{ℕ, suc, ◌+◌, ◌*◌, length, Option, Some, None}
use Rattle.cls_tree.specs.declared.instr.Form.{Form}
use Rattle.cls_tree.specs.declared.instr.Form.TheVariants as forms
use Rattle.cls_tree.specs.Opcodes.{form_of}
use Rattle.cls_tree.specs.Layout.{pad}
use Rattle.cls_tree.specs.Tree.{Args, Number, Local, Pool, Jump, Add, Table, Instr}

abbrev pub form_width : ℕ → Form → Args → ℕ
form_width place forms.Byte (Number n) = 1
form_width place forms.Short (Number n) = 2
form_width place forms.Local (Local n) = 1
form_width place forms.Increment (Add local n) = 2
form_width place forms.Jump (Jump distance) = 2
form_width place forms.Table (Table default low offsets) = pad place + (12 + 4 * length offsets)
form_width place forms.NearConstant (Pool n) = 1
form_width place forms.Constant (Pool n) = 2
form_width place forms.Field (Pool n) = 2
form_width place forms.Method (Pool n) = 2
form_width place forms.Class (Pool n) = 2
form_width place form args = 0

abbrev pub args_width : ℕ → Option Form → Args → ℕ
args_width place (Some form) args = form_width place form args
args_width place None args = 0

abbrev pub width : ℕ → Instr → ℕ
width place i = suc (args_width place (form_of i.op) i.args)
