-- What is wrong with a code: an instruction that can't be laid out, names a constant that it can't, or jumps to where none begins.
use Rattle.std.specs.Prelude.{ℕ, zero, suc, ◌+◌, ◌-◌, ◌*◌, List, [], ◌∷◌, drop, length, get_or, Option, Some, None, Result, Ok, Err, Bool}
use Rattle.std.specs.Prelude.{true, false, nat_lt, ◌||◌, ◌&&◌, not, if◌then◌else◌}
use Rattle.jcf_tree.specs.declared.kind.Kind.{Kind}
use Rattle.jcf_tree.specs.declared.kind.Kind.TheVariants as needs
use Rattle.jcf_effects.specs.declared.operands.Operands.{Operands}
use Rattle.jcf_effects.specs.declared.operands.Operands.TheVariants as forms
use Rattle.jcf_effects.specs.declared.Row.{Row}
use Rattle.jcf_code.specs.declared.fault.CodeFault.{CodeFault}
use Rattle.jcf_code.specs.declared.fault.CodeFault.TheVariants as faults
use Rattle.jcf_code.specs.Bytes.{number}
use Rattle.jcf_code.specs.Layout.{pad, table_length, laid}
use Rattle.jcf_code.specs.Marks.{marks_from}
use Rattle.jcf_code.specs.Instructions.{count_or_none}
use Rattle.jcf_read.specs.declared.fault.FaultKind.{FaultKind}
use Rattle.jcf_read.specs.declared.fault.FaultKind.TheVariants as kinds
use Rattle.jcf_read.specs.declared.fault.Fault.{Fault}
use Rattle.jcf_read.specs.Answer.{wrong}
use Rattle.jcf_read.specs.Pool.{Pool, is_wrong}

-- whether a place is known to be neither the beginning of an instruction nor the code's end
unfoldable pub misses : List Bool → ℕ → ℕ → Bool
misses marks len place = nat_lt len place || (nat_lt place (length marks) && not (get_or marks place false))

-- whether a jump from a place misses, whose distance is this number, from half on a negative one
unfoldable pub strays : List Bool → ℕ → ℕ → ℕ → ℕ → Bool
strays marks len place distance half =
    if nat_lt distance half then misses marks len (place + distance)
    else if nat_lt place (2 * half - distance) then true
    else misses marks len (place - (2 * half - distance))

-- whether one of so many jumps misses, whose distances stand in these bytes, step bytes apart
unfoldable pub are_straying : List Bool → ℕ → ℕ → ℕ → ℕ → List ℕ → Bool
are_straying marks len place step zero bytes = false
are_straying marks len place step (suc n) bytes =
    strays marks len place (number 4 bytes) 2147483648 || are_straying marks len place step n (drop step bytes)

unfoldable pub table_strays : List Bool → ℕ → ℕ → List ℕ → Bool
table_strays marks len place rest =
    strays marks len place (number 4 (drop (1 + pad place) rest)) 2147483648
    || are_straying marks len place 4 (count_or_none (table_length (drop 4 (drop (1 + pad place) rest))))
    (drop 12 (drop (1 + pad place) rest))

unfoldable pub lookup_strays : List Bool → ℕ → ℕ → List ℕ → Bool
lookup_strays marks len place rest =
    strays marks len place (number 4 (drop (1 + pad place) rest)) 2147483648
    || are_straying marks len place 8 (number 4 (drop 4 (drop (1 + pad place) rest))) (drop 12 (drop (1 + pad place) rest))

-- whether the instruction of this form at a place has a jump that misses
unfoldable pub is_straying : List Bool → ℕ → Operands → ℕ → List ℕ → Bool
is_straying marks len forms.Jump place rest = strays marks len place (number 2 (drop 1 rest)) 32768
is_straying marks len forms.FarJump place rest = strays marks len place (number 4 (drop 1 rest)) 2147483648
is_straying marks len forms.TableSwitch place rest = table_strays marks len place rest
is_straying marks len forms.LookupSwitch place rest = lookup_strays marks len place rest
is_straying marks len operands place rest = false

-- which kind of constant an instruction of this form names, and its number
unfoldable pub named_in : Operands → List ℕ → Option (Kind × ℕ)
named_in (forms.NearConstant kind) rest = Some (kind, get_or rest 1 0)
named_in (forms.Constant kind) rest = Some (kind, number 2 (drop 1 rest))
named_in forms.Interface rest = Some (needs.InterfaceMethod, number 2 (drop 1 rest))
named_in forms.Dynamic rest = Some (needs.DynamicCall, number 2 (drop 1 rest))
named_in forms.Dimensions rest = Some (needs.Class, number 2 (drop 1 rest))
named_in operands rest = None

abbrev pub is_wrong_name : Pool → Option (Kind × ℕ) → Bool
is_wrong_name pool None = false
is_wrong_name pool (Some x) = is_wrong pool x.0 x.1

-- whether an instruction of this form names a constant that it can't
unfoldable pub is_misnaming : Pool → Operands → List ℕ → Bool
is_misnaming pool operands rest = is_wrong_name pool (named_in operands rest)

abbrev pub kind_of : CodeFault → FaultKind
kind_of faults.Unsupported = kinds.Unsupported
kind_of faults.UnknownOpcode = kinds.UnknownOpcode
kind_of faults.BadOperand = kinds.BadOperand

-- at a place of the code, with these bytes from there on; the code ends at the place end of the file
abbrev pub judged_as : Pool → List Bool → List ℕ → ℕ → List ℕ → Result (Row × ℕ) CodeFault → Result ℕ Fault
judged_as pool marks code end rest (Err fault) = wrong (kind_of fault) (end - length rest)
judged_as pool marks code end rest (Ok x) =
    if is_misnaming pool x.0.operands rest then wrong kinds.BadIndex (end - length (drop 1 rest))
    else if is_straying marks (length code) x.0.operands (length code - length rest) rest then wrong kinds.BadJump (end - length rest)
    else Ok x.1

-- how many bytes the instruction at the front of this rest of a code takes, or what is wrong with it
unfoldable pub judged : Pool → List Bool → List ℕ → ℕ → List ℕ → Result ℕ Fault
judged pool marks code end rest = judged_as pool marks code end rest (laid (length code - length rest) rest)

abbrev pub or_later : Result ℕ Fault → (ℕ → Option Fault) → Option Fault
or_later (Err fault) later = Some fault
or_later (Ok size) later = later size

-- The first thing that is wrong in this rest of a code. There are no more instructions than bytes.
unfoldable pub first_fault : Pool → List Bool → List ℕ → ℕ → ℕ → List ℕ → Option Fault
first_fault pool marks code end zero rest = None
first_fault pool marks code end (suc n) [] = None
first_fault pool marks code end (suc n) (op ∷ rest) =
    or_later (judged pool marks code end (op ∷ rest)) (λ size. first_fault pool marks code end n (drop size (op ∷ rest)))

abbrev pub unless_found : List Bool → Option Fault → Result (List Bool) Fault
unless_found marks None = Ok marks
unless_found marks (Some fault) = Err fault

-- the places of a code that are beginnings of instructions, if nothing is wrong with it
unfoldable pub checked : Pool → List ℕ → ℕ → Result (List Bool) Fault
checked pool code end =
    unless_found (marks_from (length code) code code)
    (first_fault pool (marks_from (length code) code code) code end (length code) code)
