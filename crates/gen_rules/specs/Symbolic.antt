-- Instructions before they are laid out in a class file: constants stand as values, members by their names,
-- and a jump leads to an instruction by its number in the code. Each is named after its opcode (JVMS 6.5).
use Rattle.std.specs.Prelude.{ℕ, ◌+◌, ℤ, pos, negsuc, List, Bool, true, false, ◌&&◌, if◌then◌else◌, nat_le, int_le}
use Rattle.mg_text.specs.Call.{Name}
use Rattle.jv_tree.specs.declared.tree.Op.{Op}
use Rattle.jv_tree.specs.declared.tree.Op.TheVariants as ops
use Rattle.jv_core.specs.declared.program.CoreType.{CoreType}
use Rattle.jv_core.specs.declared.program.CoreType.TheVariants as types
use Rattle.cls_tree.specs.declared.opcodes.TheConstants as opcodes
use Rattle.cls_tree.specs.Pool.{Pushed, Int, Letters, Reference}

-- what an instruction works with
pub data Operand : Type 0 where
  Nothing : Operand
  -- of bipush and sipush
  Number : ℤ → Operand
  -- of ldc: an int or a text
  Constant : Pushed → Operand
  Local : ℕ → Operand
  -- the number of the instruction to which a jump leads
  Jump : (target : ℕ) → Operand
  -- of tableswitch, whose lowest number is 0: where other numbers lead, and where 0, 1 and so on lead
  Table : (default : ℕ) (targets : List ℕ) → Operand
  Class : Name → Operand
  Field : Reference → Operand
  Method : Reference → Operand

pub record Instr : Type 0 where
  pub op : ℕ
  pub operand : Operand

abbrev pub plain : ℕ → Instr
plain op = record { op = op; operand = Nothing }

abbrev pub jump : ℕ → (target : ℕ) → Instr
jump op target = record { op = op; operand = Jump target }

-- Constants.

abbrev pub aconst_null : Instr
aconst_null = plain opcodes.ACONST_NULL

-- the opcode that pushes an int from -1 to 5
abbrev pub iconst : ℤ → ℕ
iconst (pos n) = opcodes.ICONST_0 + n
iconst (negsuc n) = opcodes.ICONST_M1

abbrev pub lies_within : (low high n : ℤ) → Bool
lies_within low high n = int_le low n && int_le n high

-- an int: iconst for -1 to 5, bipush and sipush for what fits one and two bytes, else ldc
abbrev pub push : ℤ → Instr
push n =
    if lies_within (negsuc 0) (pos 5) n then plain (iconst n)
    else if lies_within (negsuc 127) (pos 127) n then record { op = opcodes.BIPUSH; operand = Number n }
    else if lies_within (negsuc 32767) (pos 32767) n then record { op = opcodes.SIPUSH; operand = Number n }
    else record { op = opcodes.LDC; operand = Constant (Int n) }

-- a truth value is 1 or 0
abbrev pub push_truth : Bool → Instr
push_truth true = push (pos 1)
push_truth false = push (pos 0)

abbrev pub push_text : List ℕ → Instr
push_text text = record { op = opcodes.LDC; operand = Constant (Letters text) }

-- Locals. Those of 0 to 3 have short forms.

abbrev pub with_local : (short long local : ℕ) → Instr
with_local short long local = if nat_le local 3 then plain (short + local) else record { op = long; operand = Local local }

abbrev pub iload : ℕ → Instr
iload local = with_local opcodes.ILOAD_0 opcodes.ILOAD local

abbrev pub aload : ℕ → Instr
aload local = with_local opcodes.ALOAD_0 opcodes.ALOAD local

abbrev pub istore : ℕ → Instr
istore local = with_local opcodes.ISTORE_0 opcodes.ISTORE local

abbrev pub astore : ℕ → Instr
astore local = with_local opcodes.ASTORE_0 opcodes.ASTORE local

-- Strings and objects are references; ints, truth values and the constants of enums are ints.
abbrev pub is_reference : CoreType → Bool
is_reference types.Text = true
is_reference (types.Object c) = true
is_reference _ = false

abbrev pub load : CoreType → ℕ → Instr
load type local = if is_reference type then aload local else iload local

abbrev pub store : CoreType → ℕ → Instr
store type local = if is_reference type then astore local else istore local

-- Operands.

abbrev pub pop : Instr
pop = plain opcodes.POP

abbrev pub dup : Instr
dup = plain opcodes.DUP

abbrev pub iadd : Instr
iadd = plain opcodes.IADD

abbrev pub isub : Instr
isub = plain opcodes.ISUB

abbrev pub imul : Instr
imul = plain opcodes.IMUL

abbrev pub idiv : Instr
idiv = plain opcodes.IDIV

abbrev pub irem : Instr
irem = plain opcodes.IREM

abbrev pub ineg : Instr
ineg = plain opcodes.INEG

-- Jumps.

abbrev pub ifeq : (target : ℕ) → Instr
ifeq target = jump opcodes.IFEQ target

abbrev pub ifne : (target : ℕ) → Instr
ifne target = jump opcodes.IFNE target

abbrev pub ifnull : (target : ℕ) → Instr
ifnull target = jump opcodes.IFNULL target

abbrev pub ifnonnull : (target : ℕ) → Instr
ifnonnull target = jump opcodes.IFNONNULL target

-- the jump where two ints compare so
abbrev pub if_icmp : Op → (target : ℕ) → Instr
if_icmp ops.Eq target = jump opcodes.IF_ICMPEQ target
if_icmp ops.Ne target = jump opcodes.IF_ICMPNE target
if_icmp ops.Lt target = jump opcodes.IF_ICMPLT target
if_icmp ops.Ge target = jump opcodes.IF_ICMPGE target
if_icmp ops.Gt target = jump opcodes.IF_ICMPGT target
if_icmp ops.Le target = jump opcodes.IF_ICMPLE target
if_icmp _ target = jump opcodes.IF_ICMPEQ target

-- the comparison that holds where the other doesn't
abbrev pub opposite : Op → Op
opposite ops.Eq = ops.Ne
opposite ops.Ne = ops.Eq
opposite ops.Lt = ops.Ge
opposite ops.Ge = ops.Lt
opposite ops.Gt = ops.Le
opposite ops.Le = ops.Gt
opposite o = o

abbrev pub goto : (target : ℕ) → Instr
goto target = jump opcodes.GOTO target

abbrev pub tableswitch : (default : ℕ) → (targets : List ℕ) → Instr
tableswitch default targets = record { op = opcodes.TABLESWITCH; operand = Table default targets }

-- Returns.

abbrev pub ireturn : Instr
ireturn = plain opcodes.IRETURN

abbrev pub areturn : Instr
areturn = plain opcodes.ARETURN

abbrev pub return : Instr
return = plain opcodes.RETURN

-- the return of a value of this type
abbrev pub return_value : CoreType → Instr
return_value type = if is_reference type then areturn else ireturn

-- Classes and members.

abbrev pub getstatic : Reference → Instr
getstatic r = record { op = opcodes.GETSTATIC; operand = Field r }

abbrev pub getfield : Reference → Instr
getfield r = record { op = opcodes.GETFIELD; operand = Field r }

abbrev pub putfield : Reference → Instr
putfield r = record { op = opcodes.PUTFIELD; operand = Field r }

abbrev pub invokevirtual : Reference → Instr
invokevirtual r = record { op = opcodes.INVOKEVIRTUAL; operand = Method r }

abbrev pub invokespecial : Reference → Instr
invokespecial r = record { op = opcodes.INVOKESPECIAL; operand = Method r }

abbrev pub invokestatic : Reference → Instr
invokestatic r = record { op = opcodes.INVOKESTATIC; operand = Method r }

abbrev pub new : Name → Instr
new class = record { op = opcodes.NEW; operand = Class class }
