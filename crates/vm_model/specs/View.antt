-- What the program's linked classes say.
use Rattle.std.specs.Prelude.{List, map}
use Rattle.vm_model.specs.declared.built.BuiltMember.{BuiltMember as KeptMember}
use Rattle.vm_model.specs.declared.linked.LinkedArgs.{LinkedArgs}
use Rattle.vm_model.specs.declared.linked.LinkedArgs.TheVariants as kept
use Rattle.vm_model.specs.declared.linked.LinkedInstr.{LinkedInstr}
use Rattle.vm_model.specs.declared.linked.LinkedMethod.{LinkedMethod}
use Rattle.vm_model.specs.declared.linked.LinkedField.{LinkedField}
use Rattle.vm_model.specs.declared.linked.LinkedClass.{LinkedClass}
use Rattle.vm_model.specs.Program.{Args, Nothing, Int, Text, Local, Add, Jump, Table, Class, Field, Method, Built, Instr, FieldOf, MethodOf}
use Rattle.vm_model.specs.Program.{ClassOf, Program}
use Rattle.vm_model.specs.BuiltIns.{BuiltMember}

abbrev pub built_view : KeptMember → BuiltMember
built_view m = record { class = m.class.now; name = m.name.now; descriptor = m.descriptor.now; op = m.op }

abbrev pub args_of : LinkedArgs → Args
args_of kept.None = Nothing
args_of (kept.Int value) = Int value
args_of (kept.Text text) = Text text.value
args_of (kept.Local local) = Local local
args_of (kept.Add local value) = Add local value
args_of (kept.Jump target) = Jump target
args_of (kept.Table default low targets) = Table default low targets.items
args_of (kept.Class class) = Class class
args_of (kept.Field class field) = Field class field
args_of (kept.Method class method) = Method class method
args_of (kept.Built built) = Built built

abbrev pub instr_of : LinkedInstr → Instr
instr_of i = record { op = i.op; args = args_of i.args }

abbrev pub field_of : LinkedField → FieldOf
field_of f = record { name = f.name; descriptor = f.descriptor }

abbrev pub method_of : LinkedMethod → MethodOf
method_of m = record {
  name = m.name;
  descriptor = m.descriptor;
  is_static = m.is_static;
  max_stack = m.max_stack;
  max_locals = m.max_locals;
  code = map instr_of m.code.items;
}

abbrev pub class_of : LinkedClass → ClassOf
class_of c = record { name = c.name; fields = map field_of c.fields.items; methods = map method_of c.methods.items }

abbrev pub classes_of : List LinkedClass → Program
classes_of classes = map class_of classes
