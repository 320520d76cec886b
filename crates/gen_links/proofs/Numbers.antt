-- What the numbers of an instruction's constants name, in the pool that it left and in each larger one.
use Rattle.std.proofs.Common.{◌≡◌, ℕ, suc, pos, List, [], ◌∷◌, length, map, refl, ap}
use Rattle.cls_tree.specs.declared.class.Const.{Const}
use Rattle.cls_tree.specs.declared.class.Const.TheVariants.{Integer}
use Rattle.cls_tree.specs.Pool.{Int, Letters}
use Rattle.cls_tree.specs.Tree as file
use Rattle.cls_tree.specs.Emitted.{push_const}
use Rattle.gen_rules.specs.Symbolic.{Operand, Nothing, Number, Constant, Local, Jump, Table, Class, Field, Method, Instr}
use Rattle.gen_rules.specs.Assembled.{file_instr, numbered_by, all_numbered}
use Rattle.gen_rules.proofs.Pool.{Grows, Gives, gives_then, gives_now}
use Rattle.gen_rules.proofs.Pool.{Is, is-grown, IsPushed, push-grown, IsClassNamed, class-grown}
use Rattle.gen_rules.proofs.Pool.{IsField, field-grown, IsMethod, method-grown}
use Rattle.gen_rules.proofs.Pool.{number_of-gives, text_const-gives, class_const-gives, field_const-gives, method_const-gives}

-- an instruction whose constants have these numbers, its distances still to come
abbrev pub Numbers : List Const → (op : ℕ) → Operand → file.Instr → Type 0
Numbers pool op Nothing j = j ≡ file_instr op file.None
Numbers pool op (Number n) j = j ≡ file_instr op (file.Number n)
Numbers pool op (Constant (Int n)) j = (k : ℕ) × (j ≡ push_const k) × Is pool k (Integer n)
Numbers pool op (Constant (Letters text)) j = (k : ℕ) × (j ≡ push_const k) × IsPushed pool k text
Numbers pool op (Local n) j = j ≡ file_instr op (file.Local n)
Numbers pool op (Jump target) j = j ≡ file_instr op (file.Jump (pos 0))
Numbers pool op (Table default targets) j = j ≡ file_instr op (file.Table (pos 0) (pos 0) (map (λ t. pos 0) targets))
Numbers pool op (Class name) j = (k : ℕ) × (j ≡ file_instr op (file.Pool k)) × IsClassNamed pool k name
Numbers pool op (Field r) j = (k : ℕ) × (j ≡ file_instr op (file.Pool k)) × IsField pool k r.class r.member.name r.member.descriptor
Numbers pool op (Method r) j = (k : ℕ) × (j ≡ file_instr op (file.Pool k)) × IsMethod pool k r.class r.member.name r.member.descriptor

pub numbers-grown : {pool larger : List Const} → Grows pool larger → (op : ℕ) (o : Operand) (j : file.Instr) →
    Numbers pool op o j → Numbers larger op o j
numbers-grown g op Nothing j h = h
numbers-grown g op (Number n) j h = h
numbers-grown g op (Constant (Int n)) j h = (h.0, h.1, is-grown g h.0 (Integer n) h.2)
numbers-grown g op (Constant (Letters text)) j h = (h.0, h.1, push-grown g h.0 text h.2)
numbers-grown g op (Local n) j h = h
numbers-grown g op (Jump target) j h = h
numbers-grown g op (Table default targets) j h = h
numbers-grown g op (Class name) j h = (h.0, h.1, class-grown g h.0 name h.2)
numbers-grown g op (Field r) j h = (h.0, h.1, field-grown g h.0 r.class r.member.name r.member.descriptor h.2)
numbers-grown g op (Method r) j h = (h.0, h.1, method-grown g h.0 r.class r.member.name r.member.descriptor h.2)

numbered_by-gives : (op : ℕ) (o : Operand) (pool : List Const) → Gives (λ p j. Numbers p op o j) pool (numbered_by op o)
numbered_by-gives op Nothing pool = gives_now (file_instr op file.None) refl
numbered_by-gives op (Number n) pool = gives_now (file_instr op (file.Number n)) refl
numbered_by-gives op (Constant (Int n)) pool =
    gives_then (number_of-gives (Integer n) pool) (λ k p g h. gives_now (push_const k) (k, refl, h))
numbered_by-gives op (Constant (Letters text)) pool =
    gives_then (text_const-gives text pool) (λ k p g h. gives_now (push_const k) (k, refl, h))
numbered_by-gives op (Local n) pool = gives_now (file_instr op (file.Local n)) refl
numbered_by-gives op (Jump target) pool = gives_now (file_instr op (file.Jump (pos 0))) refl
numbered_by-gives op (Table default targets) pool =
    gives_now (file_instr op (file.Table (pos 0) (pos 0) (map (λ t. pos 0) targets))) refl
numbered_by-gives op (Class name) pool =
    gives_then (class_const-gives name pool) (λ k p g h. gives_now (file_instr op (file.Pool k)) (k, refl, h))
numbered_by-gives op (Field r) pool =
    gives_then (field_const-gives r.class r.member.name r.member.descriptor pool) (λ k p g h. gives_now (file_instr op
    (file.Pool k)) (k, refl, h))
numbered_by-gives op (Method r) pool =
    gives_then (method_const-gives r.class r.member.name r.member.descriptor pool) (λ k p g h. gives_now (file_instr op
    (file.Pool k)) (k, refl, h))

-- one instruction for each
abbrev pub AllNumbers : List Const → List Instr → List file.Instr → Type 0
AllNumbers pool [] [] = Unit {0}
AllNumbers pool (i ∷ is) (j ∷ js) = Numbers pool i.op i.operand j × AllNumbers pool is js
AllNumbers pool [] (j ∷ js) = ⊥
AllNumbers pool (i ∷ is) [] = ⊥

pub all_numbers-grown : {pool larger : List Const} → Grows pool larger → (is : List Instr) (js : List file.Instr) →
    AllNumbers pool is js → AllNumbers larger is js
all_numbers-grown g [] [] h = tt
all_numbers-grown g [] (j ∷ js) h = absurd h
all_numbers-grown g (i ∷ is) [] h = absurd h
all_numbers-grown g (i ∷ is) (j ∷ js) h = (numbers-grown g i.op i.operand j h.0, all_numbers-grown g is js h.1)

pub all_numbered-gives : (is : List Instr) (pool : List Const) → Gives (λ p js. AllNumbers p is js) pool (all_numbered is)
all_numbered-gives [] pool = gives_now [] tt
all_numbered-gives (i ∷ is) pool = gives_then (numbered_by-gives i.op i.operand pool)
    (λ j p g one. gives_then (all_numbered-gives is p)
    (λ js q f all. gives_now (j ∷ js) (numbers-grown f i.op i.operand j one, all)))

pub as_many : (pool : List Const) (is : List Instr) (js : List file.Instr) → AllNumbers pool is js → length js ≡ length is
as_many pool [] [] h = refl
as_many pool [] (j ∷ js) h = absurd h
as_many pool (i ∷ is) [] h = absurd h
as_many pool (i ∷ is) (j ∷ js) h = ap suc (as_many pool is js h.1)
