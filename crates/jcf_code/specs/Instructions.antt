-- The instructions of a code, one behind the other (JVMS chapter 6): where each stands, what it does, and what stands behind its opcode.
use Rattle.std.specs.Prelude.{ℕ, ℤ, zero, suc, ◌+◌, ◌-◌, ◌*◌, ◌%◌, List, [], ◌∷◌, drop, length, get_or, Option, Some, None}
use Rattle.std.specs.Prelude.{Result, Ok, Err, nat_lt, if◌then◌else◌}
use Rattle.std.specs.Int.{cast_signed}
use mir.Syntax.{w8, w16, w32}
use Rattle.jcf_effects.specs.declared.operands.Operands.{Operands}
use Rattle.jcf_effects.specs.declared.operands.Operands.TheVariants as forms
use Rattle.jcf_effects.specs.declared.effect.Effect.{Effect}
use Rattle.jcf_effects.specs.declared.effect.Effect.TheVariants as effects
use Rattle.jcf_effects.specs.declared.Row.{Row}
use Rattle.jcf_effects.specs.Table.{row_of}
use Rattle.jcf_code.specs.declared.fault.CodeFault.{CodeFault}
use Rattle.jcf_code.specs.declared.instruction.Case.{Case}
use Rattle.jcf_code.specs.declared.instruction.Operand.{Operand as KeptOperand}
use Rattle.jcf_code.specs.declared.instruction.Operand.TheVariants as kept
use Rattle.jcf_code.specs.declared.instruction.Instruction.{Instruction as KeptInstruction}
use Rattle.jcf_code.specs.Bytes.{number}
use Rattle.jcf_code.specs.Layout.{pad, table_length, laid}

-- what stands behind an opcode: constants and locals by their numbers, jumps by the places to which they lead
pub data Operand : Type 0 where
  Nothing : Operand
  Number : ℤ → Operand
  Local : ℕ → Operand
  -- a local, and what is added to it
  Increment : ℕ → ℤ → Operand
  Constant : ℕ → Operand
  -- a class, and how many dimensions an array of it gets
  Dimensions : ℕ → ℕ → Operand
  Jump : ℕ → Operand
  -- where all other ints lead, and where some do
  Switch : ℕ → List Case → Operand

-- what an instruction does that stands from a place up to another
pub record Instruction : Type 0 where
  pub place : ℕ
  pub after : ℕ
  pub effect : Effect
  pub operand : Operand

abbrev pub operand_of : KeptOperand → Operand
operand_of kept.Nothing = Nothing
operand_of (kept.Number n) = Number n
operand_of (kept.Local n) = Local n
operand_of (kept.Increment local n) = Increment local n
operand_of (kept.Constant n) = Constant n
operand_of (kept.Dimensions class count) = Dimensions class count
operand_of (kept.Jump target) = Jump target
operand_of (kept.Switch default cases) = Switch default cases.items

abbrev pub instruction_of : KeptInstruction → Instruction
instruction_of i = record { place = i.place; after = i.after; effect = i.effect; operand = operand_of i.operand }

-- To where a jump leads from a place, whose distance is this number, from half on a negative one. It never leads before the code.
abbrev pub landing : ℕ → ℕ → ℕ → ℕ
landing place distance half = if nat_lt distance half then place + distance else place - (2 * half - distance)

-- to where a jump leads whose distance stands in four bytes at the front of these
abbrev pub far_landing : ℕ → List ℕ → ℕ
far_landing place bytes = landing place (number 4 bytes) 2147483648

-- so many ints from one on, whose distances stand in these bytes
unfoldable pub table_cases : ℕ → ℕ → ℕ → List ℕ → List Case
table_cases place low zero bytes = []
table_cases place low (suc n) bytes =
    record { number = cast_signed w32 low; target = far_landing place bytes }
    ∷ table_cases place ((low + 1) % 4294967296) n (drop 4 bytes)

-- so many ints, each with its distance in these bytes
unfoldable pub lookup_cases : ℕ → ℕ → List ℕ → List Case
lookup_cases place zero bytes = []
lookup_cases place (suc n) bytes =
    record { number = cast_signed w32 (number 4 bytes); target = far_landing place (drop 4 bytes) }
    ∷ lookup_cases place n (drop 8 bytes)

abbrev pub count_or_none : Option ℕ → ℕ
count_or_none None = 0
count_or_none (Some count) = count

-- what stands in a tableswitch and in a lookupswitch, behind what pads it
unfoldable pub table_operand : ℕ → List ℕ → Operand
table_operand place front =
    Switch (far_landing place front) (table_cases place (number 4 (drop 4 front)) (count_or_none (table_length (drop 4 front)))
    (drop 12 front))

unfoldable pub lookup_operand : ℕ → List ℕ → Operand
lookup_operand place front = Switch (far_landing place front) (lookup_cases place (number 4 (drop 4 front)) (drop 8 front))

-- what stands behind an opcode of this form at a place, from which on these are the bytes
unfoldable pub operand_at : Operands → ℕ → List ℕ → Operand
operand_at forms.Nothing place rest = Nothing
operand_at forms.Byte place rest = Number (cast_signed w8 (get_or rest 1 0))
operand_at forms.Short place rest = Number (cast_signed w16 (number 2 (drop 1 rest)))
operand_at forms.Local place rest = Local (get_or rest 1 0)
operand_at forms.Increment place rest = Increment (get_or rest 1 0) (cast_signed w8 (get_or rest 2 0))
operand_at forms.Jump place rest = Jump (landing place (number 2 (drop 1 rest)) 32768)
operand_at forms.FarJump place rest = Jump (far_landing place (drop 1 rest))
operand_at (forms.NearConstant kind) place rest = Constant (get_or rest 1 0)
operand_at (forms.Constant kind) place rest = Constant (number 2 (drop 1 rest))
operand_at forms.Interface place rest = Constant (number 2 (drop 1 rest))
operand_at forms.Dynamic place rest = Constant (number 2 (drop 1 rest))
operand_at forms.Dimensions place rest = Dimensions (number 2 (drop 1 rest)) (get_or rest 3 0)
operand_at forms.TableSwitch place rest = table_operand place (drop (1 + pad place) rest)
operand_at forms.LookupSwitch place rest = lookup_operand place (drop (1 + pad place) rest)
operand_at forms.Wide place rest = Nothing

-- what stands behind the opcode behind wide: numbers of two bytes
unfoldable pub wide_operand : Operands → List ℕ → Operand
wide_operand forms.Increment rest = Increment (number 2 (drop 2 rest)) (cast_signed w16 (number 2 (drop 4 rest)))
wide_operand operands rest = Local (number 2 (drop 2 rest))

-- what an instruction does that has this row, and with what; behind wide it is the instruction of the opcode there
abbrev pub widened : Option Row → List ℕ → Effect × Operand
widened None rest = (effects.Wide, Nothing)
widened (Some row) rest = (row.effect, wide_operand row.operands rest)

unfoldable pub meant : Operands → Effect → ℕ → List ℕ → Effect × Operand
meant forms.Wide effect place rest = widened (row_of (get_or rest 1 0)) rest
meant operands effect place rest = (effect, operand_at operands place rest)

unfoldable pub instruction_at : Row → ℕ → ℕ → List ℕ → Instruction
instruction_at row size place rest =
    record {
      place = place;
      after = place + size;
      effect = (meant row.operands row.effect place rest).0;
      operand = (meant row.operands row.effect place rest).1;
    }

abbrev pub followed : ℕ → List ℕ → Result (Row × ℕ) CodeFault → (ℕ → List Instruction) → List Instruction
followed place rest (Err fault) later = []
followed place rest (Ok x) later = instruction_at x.0 x.1 place rest ∷ later x.1

-- The instructions from where this rest of a code stands, as far as they can be laid out. There are no more of them than bytes.
unfoldable pub instructions_from : ℕ → List ℕ → List ℕ → List Instruction
instructions_from zero code rest = []
instructions_from (suc n) code [] = []
instructions_from (suc n) code (op ∷ rest) =
    followed (length code - length (op ∷ rest)) (op ∷ rest) (laid (length code - length (op ∷ rest)) (op ∷ rest))
    (λ size. instructions_from n code (drop size (op ∷ rest)))

-- the instructions of a code
abbrev pub instructions : List ℕ → List Instruction
instructions code = instructions_from (length code) code code
