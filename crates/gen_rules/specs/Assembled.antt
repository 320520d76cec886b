-- From the instructions of a method to those of a class file. The constants get their numbers in the pool in the order of the code;
-- then each instruction has its place in bytes, and each jump its distance.
use Rattle.std.specs.Prelude.{ℕ, ℤ, pos, ◌-ℤ◌, List, [], ◌∷◌, map, get_or}
use Rattle.cls_tree.specs.declared.class.Const.TheVariants.{Integer}
use Rattle.cls_tree.specs.Pool.{Int, Letters}
use Rattle.cls_tree.specs.Tree as file
use Rattle.cls_tree.specs.Jumps.{starts_from}
use Rattle.cls_tree.specs.Emitted.{Pooled, ◌>>=◌, give, number_of, class_const, text_const, field_const, method_const, push_const}
use Rattle.gen_rules.specs.Symbolic.{Operand, Nothing, Number, Constant, Local, Jump, Table, Class, Field, Method, Instr}

abbrev pub file_instr : ℕ → file.Args → file.Instr
file_instr op args = record { op = op; args = args }

-- With the numbers of its constants: ldc is ldc_w for a number over 255. The distances of jumps are 0 so far,
-- and the size of an instruction doesn't depend on them.
abbrev pub numbered_by : ℕ → Operand → Pooled file.Instr
numbered_by op Nothing = give (file_instr op file.None)
numbered_by op (Number n) = give (file_instr op (file.Number n))
numbered_by op (Constant (Int n)) = do
  k ← number_of (Integer n)
  give (push_const k)
numbered_by op (Constant (Letters text)) = do
  k ← text_const text
  give (push_const k)
numbered_by op (Local n) = give (file_instr op (file.Local n))
numbered_by op (Jump target) = give (file_instr op (file.Jump (pos 0)))
numbered_by op (Table default targets) = give (file_instr op (file.Table (pos 0) (pos 0) (map (λ t. pos 0) targets)))
numbered_by op (Class name) = do
  k ← class_const name
  give (file_instr op (file.Pool k))
numbered_by op (Field r) = do
  k ← field_const r.class r.member.name r.member.descriptor
  give (file_instr op (file.Pool k))
numbered_by op (Method r) = do
  k ← method_const r.class r.member.name r.member.descriptor
  give (file_instr op (file.Pool k))

abbrev pub numbered : Instr → Pooled file.Instr
numbered i = numbered_by i.op i.operand

-- one after another
abbrev pub all_numbered : List Instr → Pooled (List file.Instr)
all_numbered [] = give []
all_numbered (i ∷ is) = do
  j ← numbered i
  js ← all_numbered is
  give (j ∷ js)

-- how many bytes it is from a place to the instruction of a number, where the instructions start at these places
abbrev pub distance : (starts : List ℕ) → (here target : ℕ) → ℤ
distance starts here target = pos (get_or starts target 0) -ℤ pos here

-- an instruction at a place, with the distances of its jumps
abbrev pub aimed_by : (starts : List ℕ) → (here : ℕ) → Operand → file.Instr → file.Instr
aimed_by starts here (Jump target) j = file_instr j.op (file.Jump (distance starts here target))
aimed_by starts here (Table default targets) j =
    file_instr j.op (file.Table (distance starts here default) (pos 0) (map (distance starts here) targets))
aimed_by starts here _ j = j

-- all of them, where they stand at these places
abbrev pub all_aimed : (starts places : List ℕ) → List Instr → List file.Instr → List file.Instr
all_aimed starts (here ∷ places) (i ∷ is) (j ∷ js) = aimed_by starts here i.operand j ∷ all_aimed starts places is js
all_aimed starts _ _ _ = []

abbrev pub aimed : List Instr → List file.Instr → List file.Instr
aimed is js = let starts = starts_from 0 js in all_aimed starts starts is js

-- the instructions of a code in a class file
abbrev pub assembled : List Instr → Pooled (List file.Instr)
assembled is = do
  js ← all_numbered is
  give (aimed is js)
