-- The instructions of a code, one behind the other (JVMS chapter 6): how many bytes each takes, or why there is none.
use Rattle.std.specs.Prelude.{ℕ, ◌+◌, ◌-◌, ◌*◌, ◌%◌, List, drop, length, get_or, Option, Some, None}
use Rattle.std.specs.Prelude.{Result, Ok, Err, Bool, true, false, nat_lt, if◌then◌else◌}
use Rattle.jcf_effects.specs.declared.operands.Operands.{Operands}
use Rattle.jcf_effects.specs.declared.operands.Operands.TheVariants as forms
use Rattle.jcf_effects.specs.declared.effect.Effect.{Effect}
use Rattle.jcf_effects.specs.declared.effect.Effect.TheVariants as effects
use Rattle.jcf_effects.specs.declared.Row.{Row}
use Rattle.jcf_effects.specs.Table.{row_of}
use Rattle.jcf_effects.specs.Words.{fixed_bytes}
use Rattle.jcf_code.specs.declared.fault.CodeFault.{CodeFault}
use Rattle.jcf_code.specs.declared.fault.CodeFault.TheVariants as faults
use Rattle.jcf_code.specs.Bytes.{number}

-- signed numbers of four bytes in their order, from 0 on
abbrev pub biased : ℕ → ℕ
biased bits = if nat_lt bits 2147483648 then bits + 2147483648 else bits - 2147483648

abbrev pub is_unsupported : Effect → Bool
is_unsupported effects.Unsupported = true
is_unsupported effect = false

-- how many bytes stand up to a multiple of four behind an opcode at this place
abbrev pub pad : ℕ → ℕ
pad place = 3 - place % 4

-- an instruction takes so many bytes, if they are there
abbrev pub fits : ℕ → List ℕ → Result ℕ CodeFault
fits size rest = if nat_lt (length rest) size then Err faults.BadOperand else Ok size

abbrev pub length_between : ℕ → ℕ → Option ℕ
length_between low high = if nat_lt high low then None else Some (high - low + 1)

-- how many distances a tableswitch has, whose lowest and highest int stand here
unfoldable pub table_length : List ℕ → Option ℕ
table_length bounds = length_between (biased (number 4 bounds)) (biased (number 4 (drop 4 bounds)))

abbrev pub table_fits : ℕ → List ℕ → Option ℕ → Result ℕ CodeFault
table_fits from rest None = Err faults.BadOperand
table_fits from rest (Some count) = fits (from + 12 + 4 * count) rest

-- a tableswitch: its opcode and what pads it, the distance for all other ints, the lowest and the highest int, and their distances
unfoldable pub table_size : ℕ → List ℕ → Result ℕ CodeFault
table_size place rest = table_fits (1 + pad place) rest (table_length (drop (1 + pad place + 4) rest))

-- a lookupswitch: its opcode and what pads it, the distance for all other ints, the count of pairs, and these
unfoldable pub lookup_size : ℕ → List ℕ → Result ℕ CodeFault
lookup_size place rest = fits (1 + pad place + 8 + 8 * number 4 (drop (1 + pad place + 4) rest)) rest

-- behind wide: an instruction with a local, which then has two bytes, or with a local and what is added to it, of two bytes each
abbrev pub widened_as : Operands → Effect → List ℕ → Result ℕ CodeFault
widened_as forms.Local effect rest = if is_unsupported effect then Err faults.Unsupported else fits 4 rest
widened_as forms.Increment effect rest = fits 6 rest
widened_as operands effect rest = Err faults.BadOperand

abbrev pub widened : Option Row → List ℕ → Result ℕ CodeFault
widened None rest = Err faults.BadOperand
widened (Some row) rest = widened_as row.operands row.effect rest

unfoldable pub wide_size : List ℕ → Result ℕ CodeFault
wide_size rest = widened (row_of (get_or rest 1 0)) rest

abbrev pub fixed_fits : List ℕ → Option ℕ → Result ℕ CodeFault
fixed_fits rest None = Err faults.BadOperand
fixed_fits rest (Some count) = fits (1 + count) rest

-- how many bytes an instruction of this form takes at a place, of which these and those behind them are there
unfoldable pub sized : Operands → ℕ → List ℕ → Result ℕ CodeFault
sized forms.TableSwitch place rest = table_size place rest
sized forms.LookupSwitch place rest = lookup_size place rest
sized forms.Wide place rest = wide_size rest
sized operands place rest = fixed_fits rest (fixed_bytes operands)

abbrev pub with_size : Row → Result ℕ CodeFault → Result (Row × ℕ) CodeFault
with_size row (Err kind) = Err kind
with_size row (Ok size) = Ok (row, size)

abbrev pub laid_as : Option Row → ℕ → List ℕ → Result (Row × ℕ) CodeFault
laid_as None place rest = Err faults.UnknownOpcode
laid_as (Some row) place rest =
    if is_unsupported row.effect then Err faults.Unsupported else with_size row (sized row.operands place rest)

-- the row and the size of the instruction at the front, which stands at this place; or why there is none
unfoldable pub laid : ℕ → List ℕ → Result (Row × ℕ) CodeFault
laid place rest = laid_as (row_of (get_or rest 0 0)) place rest
