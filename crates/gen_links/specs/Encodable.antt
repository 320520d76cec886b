-- When the operand of an instruction can stand behind its opcode in a class file: it is one of the opcode's form, its numbers fit,
-- and its texts are UTF-8.
use Rattle.std.specs.Prelude.{◌≡◌, ◌⊎◌, ◌<◌, ◌≤◌, ◌^◌, ℕ, List, length, Some}
use Rattle.std.specs.List.{AllByRecursion}
use Rattle.std.specs.Str.{IsUtf8}
use Rattle.std.specs.Int.RustNames.{FitsSigned}
use mir.Syntax.{w8, w16, w32}
use Rattle.cls_tree.specs.declared.instr.Form.{Form}
use Rattle.cls_tree.specs.declared.instr.Form.TheVariants as forms
use Rattle.cls_tree.specs.Opcodes.{form_of}
use Rattle.cls_tree.specs.Pool.{Reference, Int, Letters}
use Rattle.cls_tree.specs.Fits.{IsU1}
use Rattle.gen_rules.specs.Symbolic.{Operand, Nothing, Number, Constant, Local, Jump, Table, Class, Field, Method, Instr}
use Rattle.gen_rules.specs.Classes.{Compiled}

-- the opcode takes an operand of this form
abbrev pub Takes : (op : ℕ) → Form → Type 0
Takes op form = form_of op ≡ Some form

pub record IsWritten (r : Reference) : Type 0 where
  pub class : IsUtf8 r.class
  pub name : IsUtf8 r.member.name
  pub descriptor : IsUtf8 r.member.descriptor

abbrev pub IsEncodableBy : (op : ℕ) → Operand → Type 0
IsEncodableBy op Nothing = Takes op forms.Nothing
IsEncodableBy op (Number n) = (Takes op forms.Byte × FitsSigned w8 n) ⊎ (Takes op forms.Short × FitsSigned w16 n)
IsEncodableBy op (Constant (Int n)) = FitsSigned w32 n
IsEncodableBy op (Constant (Letters text)) = IsUtf8 text
IsEncodableBy op (Local n) = Takes op forms.Local × IsU1 n
IsEncodableBy op (Jump target) = Takes op forms.Jump
IsEncodableBy op (Table default targets) = Takes op forms.Table × (0 < length targets)
IsEncodableBy op (Class name) = Takes op forms.Class × IsUtf8 name
IsEncodableBy op (Field r) = Takes op forms.Field × IsWritten r
IsEncodableBy op (Method r) = Takes op forms.Method × IsWritten r

abbrev pub IsEncodable : Instr → Type 0
IsEncodable i = IsEncodableBy i.op i.operand

abbrev pub AreEncodable : List Instr → Type 0
AreEncodable is = AllByRecursion IsEncodable is

-- a method: so is its code, which isn't empty, its names are UTF-8, and no more operands than instructions stand on the stack at once
pub record CanStand (c : Compiled) : Type 0 where
  pub name : IsUtf8 c.name
  pub descriptor : IsUtf8 c.descriptor
  pub code : AreEncodable c.code
  pub some : 0 < length c.code
  pub max_stack : c.max_stack ≤ length c.code
  pub access : c.access < 2 ^ 16
