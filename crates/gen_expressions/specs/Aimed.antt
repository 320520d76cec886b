-- Jumps to labels as jumps to the instructions at which the labels are.
use Rattle.std.specs.Prelude.{ℕ, List, map, get_or}
use Rattle.gen_rules.specs.Symbolic.{Operand, Jump, Table, Instr}

abbrev pub place_of : (labels : List ℕ) → (label : ℕ) → ℕ
place_of labels l = get_or labels l 0

abbrev pub aimed_operand : (labels : List ℕ) → Operand → Operand
aimed_operand labels (Jump l) = Jump (place_of labels l)
aimed_operand labels (Table default targets) = Table (place_of labels default) (map (place_of labels) targets)
aimed_operand labels o = o

abbrev pub aimed : (labels : List ℕ) → Instr → Instr
aimed labels i = record { op = i.op; operand = aimed_operand labels i.operand }
