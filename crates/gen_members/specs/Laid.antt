-- Instructions with the numbers of their constants, the places at which they start, and how many bytes they take.
use Rattle.std.specs.Prelude.{ℕ, ◌+◌, pos, List, [], ◌∷◌, length, map, nat_lt, if◌then◌else◌}
use Rattle.cls_tree.specs.declared.opcodes.TheConstants.{LDC, LDC_W}
use Rattle.cls_tree.specs.Tree as file
use Rattle.cls_tree.specs.Layout.{instr_bytes}
use Rattle.cls_tree.specs.Emitted.{Pooled, ◌>>=◌, give, push_const}
use Rattle.gen_rules.specs.Symbolic.{Operand, Nothing, Number, Constant, Local, Jump, Table, Class, Field, Method, Instr}
use Rattle.gen_rules.specs.Assembled.{file_instr, distance}
use Rattle.gen_members.specs.Constants.{constant_of}

-- an instruction whose constant has this number; the distances of its jumps are 0 so far
abbrev pub with_number : (op : ℕ) → Operand → (number : ℕ) → file.Instr
with_number op Nothing k = file_instr op file.None
with_number op (Number n) k = file_instr op (file.Number n)
with_number op (Constant c) k = push_const k
with_number op (Local n) k = file_instr op (file.Local n)
with_number op (Jump target) k = file_instr op (file.Jump (pos 0))
with_number op (Table default targets) k = file_instr op (file.Table (pos 0) (pos 0) (map (λ t. pos 0) targets))
with_number op (Class name) k = file_instr op (file.Pool k)
with_number op (Field r) k = file_instr op (file.Pool k)
with_number op (Method r) k = file_instr op (file.Pool k)

-- how many bytes it takes at a place
abbrev pub size_at : (place op : ℕ) → Operand → (number : ℕ) → ℕ
size_at place op operand k = length (instr_bytes place (with_number op operand k))

pub record Laid : Type 0 where
  -- the numbers of constants, 0 for an instruction that has none
  pub numbers : List ℕ
  -- the place of each instruction
  pub starts : List ℕ
  -- the place behind them
  pub end : ℕ

-- instructions from this place on
abbrev pub laid : (place : ℕ) → List Instr → Pooled Laid
laid place [] = give (record { numbers = []; starts = []; end = place })
laid place (i ∷ is) = do
  k ← constant_of i.operand
  more ← laid (place + size_at place i.op i.operand k) is
  give (record { numbers = k ∷ more.numbers; starts = place ∷ more.starts; end = more.end })

-- the opcode, and what stands behind it, of an instruction at a place whose constant has this number

abbrev pub final_op : (op : ℕ) → Operand → (number : ℕ) → ℕ
final_op op (Constant c) k = if nat_lt k 256 then LDC else LDC_W
final_op op _ k = op

abbrev pub final_args : (starts : List ℕ) → (here : ℕ) → Operand → (number : ℕ) → file.Args
final_args starts here Nothing k = file.None
final_args starts here (Number n) k = file.Number n
final_args starts here (Constant c) k = file.Pool k
final_args starts here (Local n) k = file.Local n
final_args starts here (Jump target) k = file.Jump (distance starts here target)
final_args starts here (Table default targets) k = file.Table (distance starts here default) (pos 0) (map (distance starts here) targets)
final_args starts here (Class name) k = file.Pool k
final_args starts here (Field r) k = file.Pool k
final_args starts here (Method r) k = file.Pool k

abbrev pub final : (starts : List ℕ) → (here : ℕ) → Instr → (number : ℕ) → file.Instr
final starts here i k = file_instr (final_op i.op i.operand k) (final_args starts here i.operand k)

-- those that stand at these places and have these numbers
abbrev pub finals : (starts places : List ℕ) → List Instr → (numbers : List ℕ) → List file.Instr
finals starts (here ∷ places) (i ∷ is) (k ∷ ks) = final starts here i k ∷ finals starts places is ks
finals starts _ _ _ = []
