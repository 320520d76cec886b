-- When an instruction links: its jumps lead to instructions of the code, what it names is there, and its operand is one of its opcode.
use Rattle.std.specs.Prelude.{◌≡◌, ◌++◌, ◌⊎◌, ◌<◌, ℕ, pos, List, map, length, true, Option, Some, Ok}
use Rattle.std.specs.List.{AllByRecursion}
use Rattle.cls_tree.specs.declared.opcodes.TheConstants.{GETSTATIC, GETFIELD, PUTFIELD, INVOKEVIRTUAL, INVOKESPECIAL, INVOKESTATIC}
use Rattle.cls_tree.specs.declared.opcodes.TheConstants.{LDC, NEW}
use Rattle.cls_tree.specs.declared.class.Const.{Const}
use Rattle.cls_tree.specs.Pool.{Reference}
use Rattle.vm_model.specs.Program.{Args}
use Rattle.vm_model.specs.Program as machine
use Rattle.vm_model.specs.Types.{FieldType}
use Rattle.vm_model.specs.Linked.{fits_code}
use Rattle.vm_model.specs.Links.{Outline, loaded, member_args, field_types, method_types, judged_reference, judged_code}
use Rattle.gen_rules.specs.Symbolic.{Operand, Nothing, Number, Constant, Local, Jump, Table, Class, Field, Method, Instr}
use Rattle.gen_rules.specs.Assembled.{assembled}
use Rattle.gen_rules.specs.Linked.{linked_code}

-- the member that a reference names where these are the classes
pub record Names (os : List Outline) (count op : ℕ) (r : Reference) (types : Option (List FieldType)) : Type 0 where
  pub args : Args
  pub judged : judged_reference os op r types ≡ Ok args
  pub found : member_args os op r ≡ Some args
  pub fits : fits_code count op args ≡ true

abbrev pub IsFieldOpcode : ℕ → Type 0
IsFieldOpcode op = (op ≡ GETSTATIC) ⊎ ((op ≡ GETFIELD) ⊎ (op ≡ PUTFIELD))

abbrev pub IsMethodOpcode : ℕ → Type 0
IsMethodOpcode op = (op ≡ INVOKEVIRTUAL) ⊎ ((op ≡ INVOKESPECIAL) ⊎ (op ≡ INVOKESTATIC))

-- an instruction of a code of so many, where these are the classes
abbrev pub IsRightWith : List Outline → (count op : ℕ) → Operand → Type 0
IsRightWith os count op Nothing = fits_code count op machine.Nothing ≡ true
IsRightWith os count op (Number n) = fits_code count op (machine.Int n) ≡ true
IsRightWith os count op (Constant c) = op ≡ LDC
IsRightWith os count op (Local n) = fits_code count op (machine.Local n) ≡ true
IsRightWith os count op (Jump target) = (target < count) × (fits_code count op (machine.Jump target) ≡ true)
IsRightWith os count op (Table default targets) =
    (default < count) × AllByRecursion (λ t. t < count) targets × (fits_code count op (machine.Table default (pos 0) targets) ≡ true)
IsRightWith os count op (Class name) = (op ≡ NEW) × (c : ℕ) × (loaded os name ≡ Some c)
IsRightWith os count op (Field r) = IsFieldOpcode op × Names os count op r (field_types r.member.descriptor)
IsRightWith os count op (Method r) = IsMethodOpcode op × Names os count op r (method_types r.member.name r.member.descriptor)

abbrev pub IsRight : List Outline → (count : ℕ) → Instr → Type 0
IsRight os count i = IsRightWith os count i.op i.operand

abbrev pub AreRight : List Outline → List Instr → Type 0
AreRight os is = AllByRecursion (IsRight os (length is)) is

-- Code that is assembled of such instructions is judged right in each pool that grew of its own, and links as expected.
pub record AssembledLinks : Type 0 where
  pub links : (os : List Outline) (is : List Instr) (pool more : List Const) → AreRight os is →
      judged_code os ((assembled is pool).1 ++ more) (assembled is pool).0 ≡ map Ok (linked_code os is (assembled is pool).0)
