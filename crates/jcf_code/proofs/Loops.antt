-- The loops over a code and over a switch: what was read, with what is left to read, is the whole.
use Rattle.std.proofs.Common.{◌≡◌, ℕ, suc, ◌+◌, ◌-◌, ◌<◌, ◌≤◌, List, [], ◌∷◌, ◌++◌, length, drop, replicate, sym, ◌∙◌}
use Rattle.std.proofs.Common.{append_assoc, append-nil, arith, Bool, true, false}
use Rattle.std.specs.Prelude.{Ok, Err, ◌%◌}
use Rattle.std.specs.Int.{cast_signed}
use mir.Syntax.{w32}
use Rattle.jcf_effects.specs.declared.Row.{Row}
use Rattle.jcf_code.specs.declared.fault.CodeFault.{CodeFault}
use Rattle.jcf_code.specs.declared.instruction.Case.{Case}
use Rattle.jcf_code.specs.Bytes.{number}
use Rattle.jcf_code.specs.Layout.{laid}
use Rattle.jcf_code.specs.Marks.{marks_from}
use Rattle.jcf_code.specs.Instructions.{Instruction, far_landing, table_cases, lookup_cases, instruction_at, instructions_from}

one_less : (n i : ℕ) → i < n → n - i ≡ suc (n - (i + 1))
one_less n i lt = omega arith

none_left : (n i : ℕ) → n ≤ i → n - i ≡ 0
none_left n i le = omega arith

-- ---- marks
pub marks_more : (front : List Bool) (n i : ℕ) (code rest : List ℕ) (x : Row × ℕ) (total : List Bool) → i < n → 0 < length rest →
    laid (length code - length rest) rest ≡ Ok x → front ++ marks_from (n - i) code rest ≡ total
    → (front ++ true ∷ replicate (x.1 - 1) false) ++ marks_from (n - (i + 1)) code (drop x.1 rest) ≡ total
unfolding marks_from
marks_more front n i code [] x total lt some h so_far = absurd (omega arith)
marks_more front n i code (op ∷ rest) x total lt some h so_far =
    let more = marks_from (n - (i + 1)) code (drop x.1 (op ∷ rest)) in
    let one : front ++ marks_from (n - i) code (op ∷ rest) ≡ (front ++ true ∷ replicate (x.1 - 1) false) ++ more =
    rw (one_less n i lt, h) (sym (append_assoc front (true ∷ replicate (x.1 - 1) false) more)) in
    sym one ∙ so_far

pub marks_last : (front : List Bool) (n i : ℕ) (code rest : List ℕ) (kind : CodeFault) (total : List Bool) → i < n → 0 < length rest →
    laid (length code - length rest) rest ≡ Err kind → front ++ marks_from (n - i) code rest ≡ total → front ≡ total
unfolding marks_from
marks_last front n i code [] kind total lt some h so_far = absurd (omega arith)
marks_last front n i code (op ∷ rest) kind total lt some h so_far =
    let one : front ++ marks_from (n - i) code (op ∷ rest) ≡ front = rw (one_less n i lt, h) (append-nil front) in
    sym one ∙ so_far

pub marks_over : (front : List Bool) (n i : ℕ) (code rest : List ℕ) (total : List Bool) → i < n → length rest ≡ 0 →
    front ++ marks_from (n - i) code rest ≡ total → front ≡ total
unfolding marks_from
marks_over front n i code [] total lt none so_far =
    let one : front ++ marks_from (n - i) code [] ≡ front = rw (one_less n i lt) (append-nil front) in
    sym one ∙ so_far
marks_over front n i code (op ∷ rest) total lt none so_far = absurd (omega arith)

pub marks_done : (front : List Bool) (n i : ℕ) (code rest : List ℕ) (total : List Bool) → n ≤ i →
    front ++ marks_from (n - i) code rest ≡ total → front ≡ total
unfolding marks_from
marks_done front n i code rest total le so_far =
    let one : front ++ marks_from (n - i) code rest ≡ front = rw (none_left n i le) (append-nil front) in
    sym one ∙ so_far

-- ---- instructions
pub next_more : (front : List Instruction) (n i : ℕ) (code rest : List ℕ) (x : Row × ℕ) (total : List Instruction) → i < n →
    0 < length rest → laid (length code - length rest) rest ≡ Ok x → front ++ instructions_from (n - i) code rest ≡ total
    → (front ++ instruction_at x.0 x.1 (length code - length rest) rest ∷ [])
    ++ instructions_from (n - (i + 1)) code (drop x.1 rest) ≡ total
unfolding instructions_from
next_more front n i code [] x total lt some h so_far = absurd (omega arith)
next_more front n i code (op ∷ rest) x total lt some h so_far =
    let more = instructions_from (n - (i + 1)) code (drop x.1 (op ∷ rest)) in
    let here = instruction_at x.0 x.1 (length code - length (op ∷ rest)) (op ∷ rest) in
    let one : front ++ instructions_from (n - i) code (op ∷ rest) ≡ (front ++ here ∷ []) ++ more =
    rw (one_less n i lt, h) (sym (append_assoc front (here ∷ []) more)) in
    sym one ∙ so_far

pub next_none : (front : List Instruction) (n i : ℕ) (code rest : List ℕ) (fault : CodeFault) (total : List Instruction) → i < n →
    0 < length rest → laid (length code - length rest) rest ≡ Err fault → front ++ instructions_from (n - i) code rest ≡ total
    → front ≡ total
unfolding instructions_from
next_none front n i code [] fault total lt some h so_far = absurd (omega arith)
next_none front n i code (op ∷ rest) fault total lt some h so_far =
    let one : front ++ instructions_from (n - i) code (op ∷ rest) ≡ front = rw (one_less n i lt, h) (append-nil front) in
    sym one ∙ so_far

pub next_over : (front : List Instruction) (n i : ℕ) (code rest : List ℕ) (total : List Instruction) → i < n → length rest ≡ 0 →
    front ++ instructions_from (n - i) code rest ≡ total → front ≡ total
unfolding instructions_from
next_over front n i code [] total lt none so_far =
    let one : front ++ instructions_from (n - i) code [] ≡ front = rw (one_less n i lt) (append-nil front) in
    sym one ∙ so_far
next_over front n i code (op ∷ rest) total lt none so_far = absurd (omega arith)

pub next_done : (front : List Instruction) (n i : ℕ) (code rest : List ℕ) (total : List Instruction) → n ≤ i →
    front ++ instructions_from (n - i) code rest ≡ total → front ≡ total
unfolding instructions_from
next_done front n i code rest total le so_far =
    let one : front ++ instructions_from (n - i) code rest ≡ front = rw (none_left n i le) (append-nil front) in
    sym one ∙ so_far

-- ---- cases of a switch
pub table_more : (front : List Case) (place low n i : ℕ) (bytes : List ℕ) (total : List Case) → i < n →
    front ++ table_cases place low (n - i) bytes ≡ total
    → (front ++ record { number = cast_signed w32 low; target = far_landing place bytes } ∷ [])
    ++ table_cases place ((low + 1) % 4294967296) (n - (i + 1)) (drop 4 bytes) ≡ total
unfolding table_cases
table_more front place low n i bytes total lt so_far =
    let here : Case = record { number = cast_signed w32 low; target = far_landing place bytes } in
    let more = table_cases place ((low + 1) % 4294967296) (n - (i + 1)) (drop 4 bytes) in
    let one : front ++ table_cases place low (n - i) bytes ≡ (front ++ here ∷ []) ++ more =
    rw (one_less n i lt) (sym (append_assoc front (here ∷ []) more)) in
    sym one ∙ so_far

pub table_done : (front : List Case) (place low n i : ℕ) (bytes : List ℕ) (total : List Case) → n ≤ i →
    front ++ table_cases place low (n - i) bytes ≡ total → front ≡ total
unfolding table_cases
table_done front place low n i bytes total le so_far =
    let one : front ++ table_cases place low (n - i) bytes ≡ front = rw (none_left n i le) (append-nil front) in
    sym one ∙ so_far

pub lookup_more : (front : List Case) (place n i : ℕ) (bytes : List ℕ) (total : List Case) → i < n →
    front ++ lookup_cases place (n - i) bytes ≡ total
    → (front ++ record { number = cast_signed w32 (number 4 bytes); target = far_landing place (drop 4 bytes) } ∷ [])
    ++ lookup_cases place (n - (i + 1)) (drop 8 bytes) ≡ total
unfolding lookup_cases
lookup_more front place n i bytes total lt so_far =
    let here : Case = record { number = cast_signed w32 (number 4 bytes); target = far_landing place (drop 4 bytes) } in
    let more = lookup_cases place (n - (i + 1)) (drop 8 bytes) in
    let one : front ++ lookup_cases place (n - i) bytes ≡ (front ++ here ∷ []) ++ more =
    rw (one_less n i lt) (sym (append_assoc front (here ∷ []) more)) in
    sym one ∙ so_far

pub lookup_done : (front : List Case) (place n i : ℕ) (bytes : List ℕ) (total : List Case) → n ≤ i →
    front ++ lookup_cases place (n - i) bytes ≡ total → front ≡ total
unfolding lookup_cases
lookup_done front place n i bytes total le so_far =
    let one : front ++ lookup_cases place (n - i) bytes ≡ front = rw (none_left n i le) (append-nil front) in
    sym one ∙ so_far
