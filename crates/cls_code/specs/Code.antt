-- Codes and their bytes, both ways: what is answered of instructions, and what of bytes (JVMS chapter 6).
use Rattle.std.specs.Prelude.{◌≡◌, ◌≤◌, ◌<◌, ◌⊎◌, ℕ, ℤ, suc, ◌+◌, ◌*◌, ◌-ℤ◌, List, [], ◌∷◌, ◌++◌, length, drop, take, Option, Some, None}
use Rattle.std.specs.Prelude.{Bool, true, false, nat_lt, ◌==◌, ◌||◌, if◌then◌else◌, Result, Ok, Err}
use Rattle.std.specs.List.{AllByRecursion, list_any}
use Rattle.std.specs.Int.{cast_signed}
use Rattle.std.specs.Int.RustNames.{unsigned_abs}
use lib.Signed.{lt_z}
use mir.Syntax.{w32}
use Rattle.byteorder.specs.Endian.{big_number}
use Rattle.mg_text.specs.declared.bytes.Bytes.{Bytes}
use Rattle.mg_text.specs.declared.list.List.{List as Kept}
use Rattle.cls_tree.specs.declared.instr.Form.{Form}
use Rattle.cls_tree.specs.declared.instr.Form.TheVariants as forms
use Rattle.cls_tree.specs.Opcodes.{form_of}
use Rattle.cls_tree.specs.Tree.{Instr}
use Rattle.cls_tree.specs.Layout.{pad, code_bytes}
use Rattle.cls_tree.specs.Fits.{FitsInstr, FitsInstrs}
use Rattle.cls_tree.specs.Jumps.{first_outside, IsSound}
use Rattle.cls_code.specs.declared.CodeFault.{CodeFault}
use Rattle.cls_code.specs.declared.CodeFault.TheVariants as faults

-- the longest code of a method, in bytes
abbrev pub longest : ℕ
longest = 32767

-- a signed number of four bytes, so many bytes behind the front
abbrev pub s4_at : ℕ → List ℕ → ℤ
s4_at n bytes = cast_signed w32 (big_number 4 (drop n bytes))

-- how many numbers there are from the lowest to the highest
abbrev pub cases_between : ℤ → ℤ → ℕ
cases_between low high = if lt_z high low then 0 else suc (unsigned_abs (high -ℤ low))

-- how many offsets a table has whose opcode stands at this place, before these bytes
abbrev pub cases_of : ℕ → List ℕ → ℕ
cases_of place rest = cases_between (s4_at (pad place + 4) rest) (s4_at (pad place + 8) rest)

-- how many bytes are to stand behind an opcode at this place with arguments of this form, but for the offsets of a table
abbrev pub fixed : ℕ → Form → ℕ
fixed place forms.Nothing = 0
fixed place forms.Byte = 1
fixed place forms.Short = 2
fixed place forms.Local = 1
fixed place forms.Increment = 2
fixed place forms.Jump = 2
fixed place forms.Table = pad place + 12
fixed place forms.NearConstant = 1
fixed place forms.Constant = 2
fixed place forms.Field = 2
fixed place forms.Method = 2
fixed place forms.Class = 2

-- how many offsets are to follow, as far as these bytes say
abbrev pub offsets : ℕ → Form → List ℕ → ℕ
offsets place forms.Table rest = cases_of place rest
offsets place form rest = 0

-- how many bytes are to stand behind the opcode in all
abbrev pub room : ℕ → Form → List ℕ → ℕ
room place form rest = fixed place form + 4 * offsets place form rest

-- a table with a pad byte that isn't 0, or whose highest number is below the lowest
abbrev pub is_bad_switch : ℕ → Form → List ℕ → Bool
is_bad_switch place forms.Table rest = list_any (λ b. nat_lt 0 b) (take (pad place) rest) || (cases_of place rest == 0)
is_bad_switch place form rest = false

-- why no arguments of this form stand there, if none do
abbrev pub unfit_args : ℕ → Option Form → List ℕ → Option CodeFault
unfit_args place None rest = Some (faults.UnknownOpcode place)
unfit_args place (Some form) rest =
    if nat_lt (length rest) (room place form rest) then Some (faults.Short place)
    else if is_bad_switch place form rest then Some (faults.BadSwitch place) else None

-- why no instruction stands at this place, where the code goes on with these bytes
unfoldable pub unfit : ℕ → List ℕ → Option CodeFault
unfit place [] = Some (faults.Short place)
unfit place (op ∷ rest) = unfit_args place (form_of op) rest

-- what a code is: instructions, or its fault
pub data Decoding : Type 0 where
  Instrs : List Instr → Decoding
  Fault : CodeFault → Decoding

-- What bytes are as a code: instructions are laid out from the left as far as they stand.
pub data Decodes (bytes : List ℕ) : Decoding → Type 0 where
  -- too many bytes
  long : longest < length bytes → Decodes bytes (Fault (faults.CodeTooLong 0))
  -- behind some instructions stands none; the end of the code is a fault only where there are none
  stuck : {front : List Instr} (rest : List ℕ) {fault : CodeFault} → length bytes ≤ longest → AllByRecursion FitsInstr front
      → bytes ≡ code_bytes front ++ rest → (0 < length rest) ⊎ (front ≡ []) → unfit (length (code_bytes front)) rest ≡ Some fault
      → Decodes bytes (Fault fault)
  -- all are laid out, and one jumps to where none starts
  outside : (is : List Instr) {place : ℕ} → length bytes ≤ longest → FitsInstrs is → bytes ≡ code_bytes is → first_outside is ≡ Some place
      → Decodes bytes (Fault (faults.JumpOutside place))
  -- all are laid out, and each jump reaches the start of one
  whole : {is : List Instr} → FitsInstrs is → IsSound is → bytes ≡ code_bytes is → Decodes bytes (Instrs is)

-- what instructions are as bytes: the bytes, or their fault
pub data Encoding : Type 0 where
  Code : List ℕ → Encoding
  Refused : CodeFault → Encoding

abbrev pub jumped : List ℕ → Option ℕ → Encoding
jumped bytes None = Code bytes
jumped bytes (Some place) = Refused (faults.JumpOutside place)

-- the bytes, unless they are too many or else an instruction jumps to where none starts
abbrev pub encoding : List Instr → Encoding
encoding is = if nat_lt longest (length (code_bytes is)) then Refused (faults.CodeTooLong 0) else jumped (code_bytes is) (first_outside is)
