-- What instructions do. Opcodes (JVMS chapter 6) are mapped to actions by one table, a row for each.
use Rattle.std.specs.Prelude.{ℕ, ◌-◌, ℤ, pos, negsuc, List, Option, Some, None, Bool, true, false, if◌then◌else◌, ◌==◌, ◌&&◌, nat_le}
use Rattle.cls_tree.specs.declared.opcodes.TheConstants as opcodes
use Rattle.vm_model.specs.declared.value.Value.{Value}
use Rattle.vm_model.specs.declared.value.Value.TheVariants as values
use Rattle.vm_model.specs.declared.linked.Built.{Built as BuiltIn}
use Rattle.vm_model.specs.BuiltIns.{built_member}
use Rattle.vm_model.specs.Program.{Args, Nothing, Int, Text, Local, Add, Jump, Table, Class, Field, Method, Built}

-- ints, and everything else
pub data Sort : Type 0 where
  Number : Sort
  Reference : Sort

pub data Operation : Type 0 where
  Plus : Operation
  Minus : Operation
  Times : Operation
  Divide : Operation
  Remain : Operation

pub data Comparison : Type 0 where
  Equal : Comparison
  Unequal : Comparison
  Less : Comparison
  AtLeast : Comparison
  Greater : Comparison
  AtMost : Comparison

-- how a method is called: on an object that tells of it, on an object that doesn't, or on none
pub data Calling : Type 0 where
  Telling : Calling
  Silent : Calling
  Static : Calling

pub data Action : Type 0 where
  Push : Value → Action
  Load : Sort → (local : ℕ) → Action
  Store : Sort → (local : ℕ) → Action
  Pop : Action
  Double : Action
  Swap : Action
  Compute : Operation → Action
  Negate : Action
  Increase : (local : ℕ) → ℤ → Action
  -- a jump where the int on top compares so with 0
  IfZero : Comparison → (target : ℕ) → Action
  -- a jump where the two ints on top compare so
  IfBoth : Comparison → (target : ℕ) → Action
  -- a jump where the reference on top is null, or where it isn't
  IfNull : Bool → (target : ℕ) → Action
  Go : (target : ℕ) → Action
  Switch : (default : ℕ) (low : ℤ) (targets : List ℕ) → Action
  -- a return, of a value of this sort or of none
  Return : Option Sort → Action
  Read : (class field : ℕ) → Action
  Write : (class field : ℕ) → Action
  Make : (class : ℕ) → Action
  Call : Calling → (class method : ℕ) → Action
  Use : BuiltIn → Action

-- opcodes without arguments
abbrev pub plain_action : ℕ → Option Action
plain_action op =
    if op == opcodes.ACONST_NULL then Some (Push values.Null)
    else if op == opcodes.ICONST_M1 then Some (Push (values.Int (negsuc 0)))
    else if nat_le opcodes.ICONST_0 op && nat_le op opcodes.ICONST_5 then Some (Push (values.Int (pos (op - opcodes.ICONST_0))))
    else if nat_le opcodes.ILOAD_0 op && nat_le op opcodes.ILOAD_3 then Some (Load Number (op - opcodes.ILOAD_0))
    else if nat_le opcodes.ALOAD_0 op && nat_le op opcodes.ALOAD_3 then Some (Load Reference (op - opcodes.ALOAD_0))
    else if nat_le opcodes.ISTORE_0 op && nat_le op opcodes.ISTORE_3 then Some (Store Number (op - opcodes.ISTORE_0))
    else if nat_le opcodes.ASTORE_0 op && nat_le op opcodes.ASTORE_3 then Some (Store Reference (op - opcodes.ASTORE_0))
    else if op == opcodes.POP then Some Pop
    else if op == opcodes.DUP then Some Double
    else if op == opcodes.SWAP then Some Swap
    else if op == opcodes.IADD then Some (Compute Plus)
    else if op == opcodes.ISUB then Some (Compute Minus)
    else if op == opcodes.IMUL then Some (Compute Times)
    else if op == opcodes.IDIV then Some (Compute Divide)
    else if op == opcodes.IREM then Some (Compute Remain)
    else if op == opcodes.INEG then Some Negate
    else if op == opcodes.IRETURN then Some (Return (Some Number))
    else if op == opcodes.ARETURN then Some (Return (Some Reference))
    else if op == opcodes.RETURN then Some (Return None)
    else None

-- bipush, sipush, ldc and ldc_w of an int
abbrev pub int_action : ℕ → ℤ → Option Action
int_action op value =
    if op == opcodes.BIPUSH then Some (Push (values.Int value))
    else if op == opcodes.SIPUSH then Some (Push (values.Int value))
    else if op == opcodes.LDC then Some (Push (values.Int value))
    else if op == opcodes.LDC_W then Some (Push (values.Int value))
    else None

-- ldc and ldc_w of a text
abbrev pub text_action : ℕ → List ℕ → Option Action
text_action op text =
    if op == opcodes.LDC then Some (Push (values.Text text))
    else if op == opcodes.LDC_W then Some (Push (values.Text text))
    else None

abbrev pub local_action : ℕ → ℕ → Option Action
local_action op local =
    if op == opcodes.ILOAD then Some (Load Number local)
    else if op == opcodes.ALOAD then Some (Load Reference local)
    else if op == opcodes.ISTORE then Some (Store Number local)
    else if op == opcodes.ASTORE then Some (Store Reference local)
    else None

abbrev pub jump_action : ℕ → ℕ → Option Action
jump_action op target =
    if op == opcodes.IFEQ then Some (IfZero Equal target)
    else if op == opcodes.IFNE then Some (IfZero Unequal target)
    else if op == opcodes.IFLT then Some (IfZero Less target)
    else if op == opcodes.IFGE then Some (IfZero AtLeast target)
    else if op == opcodes.IFGT then Some (IfZero Greater target)
    else if op == opcodes.IFLE then Some (IfZero AtMost target)
    else if op == opcodes.IF_ICMPEQ then Some (IfBoth Equal target)
    else if op == opcodes.IF_ICMPNE then Some (IfBoth Unequal target)
    else if op == opcodes.IF_ICMPLT then Some (IfBoth Less target)
    else if op == opcodes.IF_ICMPGE then Some (IfBoth AtLeast target)
    else if op == opcodes.IF_ICMPGT then Some (IfBoth Greater target)
    else if op == opcodes.IF_ICMPLE then Some (IfBoth AtMost target)
    else if op == opcodes.GOTO then Some (Go target)
    else if op == opcodes.IFNULL then Some (IfNull true target)
    else if op == opcodes.IFNONNULL then Some (IfNull false target)
    else None

abbrev pub field_action : ℕ → ℕ → ℕ → Option Action
field_action op class field =
    if op == opcodes.GETFIELD then Some (Read class field)
    else if op == opcodes.PUTFIELD then Some (Write class field)
    else None

-- a protocol method is called by invokevirtual, one that no protocol names by invokespecial
abbrev pub method_action : ℕ → ℕ → ℕ → Option Action
method_action op class method =
    if op == opcodes.INVOKEVIRTUAL then Some (Call Telling class method)
    else if op == opcodes.INVOKESPECIAL then Some (Call Silent class method)
    else if op == opcodes.INVOKESTATIC then Some (Call Static class method)
    else None

-- the opcode by which a member of a built-in class is used
abbrev pub built_op : BuiltIn → ℕ
built_op b = (built_member b).op

-- what an opcode does with these arguments; an opcode with arguments of another form does nothing
abbrev pub action : ℕ → Args → Option Action
action op Nothing = plain_action op
action op (Int value) = int_action op value
action op (Text text) = text_action op text
action op (Local local) = local_action op local
action op (Add local value) = if op == opcodes.IINC then Some (Increase local value) else None
action op (Jump target) = jump_action op target
action op (Table default low targets) = if op == opcodes.TABLESWITCH then Some (Switch default low targets) else None
action op (Class class) = if op == opcodes.NEW then Some (Make class) else None
action op (Field class field) = field_action op class field
action op (Method class method) = method_action op class method
action op (Built b) = if op == built_op b then Some (Use b) else None
