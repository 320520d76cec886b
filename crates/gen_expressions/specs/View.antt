-- The instructions that the program's values say, in a program.
use Rattle.std.specs.Prelude.{List, map, if◌then◌else◌, ◌==◌}
use Rattle.cls_tree.specs.declared.opcodes.TheConstants.{GETSTATIC}
use Rattle.cls_tree.specs.Pool.{Int, Letters}
use Rattle.jv_core.specs.Tree.{Program}
use Rattle.vm_model.specs.declared.linked.Built.{Built}
use Rattle.vm_model.specs.BuiltIns.{built_member, reference_of}
use Rattle.gen_rules.specs.Symbolic.{Operand, Nothing, Number, Constant, Local, Jump, Table, Class, Field, Method, Instr}
use Rattle.gen_rules.specs.Members.{class_name, field_reference, method_reference, init_of}
use Rattle.gen_expressions.specs.declared.symbolic.Operand.{Operand as KeptOperand}
use Rattle.gen_expressions.specs.declared.symbolic.Operand.TheVariants as kept
use Rattle.gen_expressions.specs.declared.symbolic.Symbolic.{Symbolic}

-- a member of a built-in class: a field, where it is read
abbrev pub built_in_of : Built → Operand
built_in_of b = if (built_member b).op == GETSTATIC then Field (reference_of b) else Method (reference_of b)

abbrev pub operand_of : Program → KeptOperand → Operand
operand_of p kept.Nothing = Nothing
operand_of p (kept.Number n) = Number n
operand_of p (kept.Int n) = Constant (Int n)
operand_of p (kept.Text text) = Constant (Letters text.now)
operand_of p (kept.Local n) = Local n
operand_of p (kept.Jump target) = Jump target
operand_of p (kept.Table default targets) = Table default targets.items
operand_of p (kept.Class c) = Class (class_name p c)
operand_of p (kept.Field c f) = Field (field_reference p c f)
operand_of p (kept.Method n) = Method (method_reference p n)
operand_of p (kept.Constructor c) = Method (init_of (class_name p c))
operand_of p (kept.BuiltIn b) = built_in_of b

abbrev pub instr_of : Program → Symbolic → Instr
instr_of p i = record { op = i.op; operand = operand_of p i.operand }

abbrev pub instrs_of : Program → List Symbolic → List Instr
instrs_of p is = map (instr_of p) is
