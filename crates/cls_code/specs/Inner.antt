-- What the parts of encoding and decoding promise one another.
use Rattle.std.specs.Prelude.{◌≡◌, ◌≤◌, ◌<◌, ◌⊎◌, ℕ, ℤ, zero, suc, ◌+◌, ◌*◌, List, [], ◌∷◌, ◌++◌, length, drop, take, get_or, Option, Some}
use Rattle.std.specs.Prelude.{None, Bool, true, false, ◌==◌, Result, Ok, Err}
use Rattle.std.specs.List.{AllByRecursion, list_any}
use Rattle.std.specs.Int.{cast_signed}
use mir.Syntax.{w8, w16, w32}
use Rattle.byteorder.specs.Endian.{big_number}
use Rattle.mg_text.specs.Row.{Row}
use Rattle.cls_tree.specs.declared.instr.Form.{Form}
use Rattle.cls_tree.specs.declared.instr.Form.TheVariants as forms
use Rattle.cls_tree.specs.declared.instr.Instr.{Instr as Kept}
use Rattle.cls_tree.specs.Tree.{Args, Number, Local, Pool, Jump, Add, Table, Instr}
use Rattle.cls_tree.specs.Tree as tree
use Rattle.cls_tree.specs.View.{instrs_of}
use Rattle.cls_tree.specs.Layout.{pad, code_bytes}
use Rattle.cls_tree.specs.Fits.{FitsInstr, FitsInstrs}
use Rattle.cls_tree.specs.Jumps.{starts_from}
use Rattle.cls_code.specs.Code.{cases_of, s4_at, unfit, Decodes, Fault}
use Rattle.cls_tree.specs.Opcodes.{form_of}
use Rattle.cls_code.specs.Code.{room}
use Rattle.cls_code.specs.declared.reading.Placed.{Placed}
use Rattle.cls_code.specs.declared.CodeFault.{CodeFault}
use Rattle.cls_code.specs.declared.CodeFault.TheVariants as faults

-- numbers of one, two and four bytes at the front
abbrev pub u1_in : List ℕ → ℕ
u1_in bytes = big_number 1 bytes

abbrev pub u2_in : List ℕ → ℕ
u2_in bytes = big_number 2 bytes

abbrev pub s1_in : List ℕ → ℤ
s1_in bytes = cast_signed w8 (big_number 1 bytes)

abbrev pub s2_in : List ℕ → ℤ
s2_in bytes = cast_signed w16 (big_number 2 bytes)

-- n signed numbers of four bytes one behind the other
unfoldable pub words : ℕ → List ℕ → List ℤ
words zero bytes = []
words (suc n) bytes = s4_at 0 bytes ∷ words n (drop 4 bytes)

-- the arguments of this form behind an opcode at this place
abbrev pub args_in : ℕ → Form → List ℕ → Args
args_in place forms.Nothing rest = tree.None
args_in place forms.Byte rest = Number (s1_in rest)
args_in place forms.Short rest = Number (s2_in rest)
args_in place forms.Local rest = Local (u1_in rest)
args_in place forms.Increment rest = Add (u1_in rest) (s1_in (drop 1 rest))
args_in place forms.Jump rest = Jump (s2_in rest)
args_in place forms.Table rest =
    Table (s4_at (pad place) rest) (s4_at (pad place + 4) rest) (words (cases_of place rest) (drop (pad place + 12) rest))
args_in place forms.NearConstant rest = Pool (u1_in rest)
args_in place forms.Constant rest = Pool (u2_in rest)
args_in place forms.Field rest = Pool (u2_in rest)
args_in place forms.Method rest = Pool (u2_in rest)
args_in place forms.Class rest = Pool (u2_in rest)

-- marks says at which places instructions start
pub record IsMarked (starts : List ℕ) (marks : List Bool) : Type 0 where
  pub marked : (at : ℕ) → get_or marks at false ≡ list_any (λ s. s == at) starts

-- instructions that were laid out, with their starts
pub record ArePlaced (bytes : List ℕ) (is : List Instr) (starts : List ℕ) : Type 0 where
  pub fit : FitsInstrs is
  pub spelled : bytes ≡ code_bytes is
  pub started : starts ≡ starts_from 0 is

abbrev pub args_at : ℕ → Option Form → List ℕ → Args
args_at place None rest = tree.None
args_at place (Some form) rest = args_in place form rest

-- the instruction at the front of bytes
unfoldable pub instr_in : ℕ → List ℕ → Instr
instr_in place [] = record { op = 0; args = tree.None }
instr_in place (op ∷ rest) = record { op = op; args = args_at place (form_of op) rest }

abbrev pub room_at : ℕ → Option Form → List ℕ → ℕ
room_at place None rest = 0
room_at place (Some form) rest = room place form rest

-- how many bytes it takes
unfoldable pub size_in : ℕ → List ℕ → ℕ
size_in place [] = 0
size_in place (op ∷ rest) = suc (room_at place (form_of op) rest)

-- all instructions were laid out, or none stands behind some, or memory ran out
abbrev pub ArePlacedOr : List ℕ → Result Placed CodeFault → Type 0
ArePlacedOr bytes (Ok p) = ArePlaced bytes (instrs_of p.instrs.items) p.starts.items
ArePlacedOr bytes (Err faults.Memory) = Unit {0}
ArePlacedOr bytes (Err e) = Decodes bytes (Fault e)
