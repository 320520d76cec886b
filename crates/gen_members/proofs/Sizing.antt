-- How many bytes an instruction takes, by the form of its opcode.
use Rattle.std.proofs.Common.{◌≡◌, ℕ, ℤ, zero, suc, pos, ◌*◌, List, [], ◌∷◌, ◌++◌, length, map, replicate, Bool, true, false, nat_lt}
use Rattle.std.proofs.Common.{if◌then◌else◌}
use Rattle.std.proofs.Common.{Option, Some, None, refl, ap, ◌∙◌, arith, length-append}
use Rattle.std.specs.List.{flat_map}
use Rattle.std.specs.Int.{cast_unsigned}
use mir.Syntax.{w8, w16, w32}
use Rattle.byteorder.specs.Numbers.{length-bytes_high_first}
use Rattle.cls_tree.specs.declared.instr.Form.{Form}
use Rattle.cls_tree.specs.declared.instr.Form.TheVariants as forms
use Rattle.cls_tree.specs.Opcodes.{form_of}
use Rattle.cls_tree.specs.Tree as file
use Rattle.cls_tree.specs.Layout.{pad, s4, highest, args_bytes, instr_bytes}
use Rattle.vm_model.specs.declared.linked.Built.{Built}
use Rattle.gen_rules.specs.Symbolic.{Operand, Nothing, Number, Constant, Local, Jump, Table, Class, Field, Method}
use Rattle.gen_expressions.specs.View.{built_in_of}
use Rattle.gen_expressions.proofs.BuiltIns.{of_members}
use Rattle.gen_members.specs.Laid.{size_at}
use Rattle.gen_members.specs.Sizes.{number_size, local_size, jump_size, table_size, pool_size, sized}

number_takes : (place : ℕ) (form : Option Form) (n : ℤ) → length (args_bytes place form (file.Number n)) ≡ number_size form
number_takes place (Some forms.Byte) n = length-bytes_high_first 1 (cast_unsigned w8 n)
number_takes place (Some forms.Short) n = length-bytes_high_first 2 (cast_unsigned w16 n)
number_takes place (Some forms.Nothing) n = refl
number_takes place (Some forms.Local) n = refl
number_takes place (Some forms.Increment) n = refl
number_takes place (Some forms.Jump) n = refl
number_takes place (Some forms.Table) n = refl
number_takes place (Some forms.NearConstant) n = refl
number_takes place (Some forms.Constant) n = refl
number_takes place (Some forms.Field) n = refl
number_takes place (Some forms.Method) n = refl
number_takes place (Some forms.Class) n = refl
number_takes place None n = refl

local_takes : (place : ℕ) (form : Option Form) (n : ℕ) → length (args_bytes place form (file.Local n)) ≡ local_size form
local_takes place (Some forms.Local) n = length-bytes_high_first 1 n
local_takes place (Some forms.Nothing) n = refl
local_takes place (Some forms.Byte) n = refl
local_takes place (Some forms.Short) n = refl
local_takes place (Some forms.Increment) n = refl
local_takes place (Some forms.Jump) n = refl
local_takes place (Some forms.Table) n = refl
local_takes place (Some forms.NearConstant) n = refl
local_takes place (Some forms.Constant) n = refl
local_takes place (Some forms.Field) n = refl
local_takes place (Some forms.Method) n = refl
local_takes place (Some forms.Class) n = refl
local_takes place None n = refl

jump_takes : (place : ℕ) (form : Option Form) (d : ℤ) → length (args_bytes place form (file.Jump d)) ≡ jump_size form
jump_takes place (Some forms.Jump) d = length-bytes_high_first 2 (cast_unsigned w16 d)
jump_takes place (Some forms.Nothing) d = refl
jump_takes place (Some forms.Byte) d = refl
jump_takes place (Some forms.Short) d = refl
jump_takes place (Some forms.Local) d = refl
jump_takes place (Some forms.Increment) d = refl
jump_takes place (Some forms.Table) d = refl
jump_takes place (Some forms.NearConstant) d = refl
jump_takes place (Some forms.Constant) d = refl
jump_takes place (Some forms.Field) d = refl
jump_takes place (Some forms.Method) d = refl
jump_takes place (Some forms.Class) d = refl
jump_takes place None d = refl

pool_takes : (place : ℕ) (form : Option Form) (n : ℕ) → length (args_bytes place form (file.Pool n)) ≡ pool_size form
pool_takes place (Some forms.NearConstant) n = length-bytes_high_first 1 n
pool_takes place (Some forms.Constant) n = length-bytes_high_first 2 n
pool_takes place (Some forms.Field) n = length-bytes_high_first 2 n
pool_takes place (Some forms.Method) n = length-bytes_high_first 2 n
pool_takes place (Some forms.Class) n = length-bytes_high_first 2 n
pool_takes place (Some forms.Nothing) n = refl
pool_takes place (Some forms.Byte) n = refl
pool_takes place (Some forms.Short) n = refl
pool_takes place (Some forms.Local) n = refl
pool_takes place (Some forms.Increment) n = refl
pool_takes place (Some forms.Jump) n = refl
pool_takes place (Some forms.Table) n = refl
pool_takes place None n = refl

four : (z : ℤ) → length (s4 z) ≡ 4
four z = length-bytes_high_first 4 (cast_unsigned w32 z)

zeros : (n : ℕ) → length {A = ℕ} (replicate n 0) ≡ n
zeros zero = refl
zeros (suc n) = ap suc (zeros n)

offsets_take : (X : Type 0) (f : X → ℤ) (xs : List X) → length (flat_map s4 (map f xs)) ≡ 4 * length xs
offsets_take X f [] = refl
offsets_take X f (x ∷ xs) = length-append (s4 (f x)) (flat_map s4 (map f xs)) ∙ omega (arith, four (f x), offsets_take X f xs)

table_takes : (place : ℕ) (form : Option Form) (d low : ℤ) (targets : List ℕ) (f : ℕ → ℤ) →
    length (args_bytes place form (file.Table d low (map f targets))) ≡ table_size form place (length targets)
table_takes place (Some forms.Table) d low targets f =
    let offsets = map f targets in
    let a = length-append (replicate (pad place) 0) (s4 d ++ (s4 low ++ (s4 (highest low offsets) ++ flat_map s4 offsets))) in
    let b = length-append (s4 d) (s4 low ++ (s4 (highest low offsets) ++ flat_map s4 offsets)) in
    let c = length-append (s4 low) (s4 (highest low offsets) ++ flat_map s4 offsets) in
    let e = length-append (s4 (highest low offsets)) (flat_map s4 offsets) in
    omega (arith, a, b, c, e, four d, four low, four (highest low offsets), offsets_take ℕ f targets, zeros (pad place))
table_takes place (Some forms.Nothing) d low targets f = refl
table_takes place (Some forms.Byte) d low targets f = refl
table_takes place (Some forms.Short) d low targets f = refl
table_takes place (Some forms.Local) d low targets f = refl
table_takes place (Some forms.Increment) d low targets f = refl
table_takes place (Some forms.Jump) d low targets f = refl
table_takes place (Some forms.NearConstant) d low targets f = refl
table_takes place (Some forms.Constant) d low targets f = refl
table_takes place (Some forms.Field) d low targets f = refl
table_takes place (Some forms.Method) d low targets f = refl
table_takes place (Some forms.Class) d low targets f = refl
table_takes place None d low targets f = refl

push_takes : (place k : ℕ) (near : Bool) →
    length (instr_bytes place (record { op = if near then 18 else 19; args = file.Pool k })) ≡ suc (if near then 1 else 2)
unfolding form_of
push_takes place k true = ap suc (pool_takes place (Some forms.NearConstant) k)
push_takes place k false = ap suc (pool_takes place (Some forms.Constant) k)

nothing_takes : (place : ℕ) (form : Option Form) → length (args_bytes place form file.None) ≡ 0
nothing_takes place (Some forms.Nothing) = refl
nothing_takes place (Some forms.Byte) = refl
nothing_takes place (Some forms.Short) = refl
nothing_takes place (Some forms.Local) = refl
nothing_takes place (Some forms.Increment) = refl
nothing_takes place (Some forms.Jump) = refl
nothing_takes place (Some forms.Table) = refl
nothing_takes place (Some forms.NearConstant) = refl
nothing_takes place (Some forms.Constant) = refl
nothing_takes place (Some forms.Field) = refl
nothing_takes place (Some forms.Method) = refl
nothing_takes place (Some forms.Class) = refl
nothing_takes place None = refl

-- an opcode, and what stands behind it
pub takes : (place op : ℕ) (o : Operand) (k : ℕ) → size_at place op o k ≡ suc (sized (form_of op) place k o)
takes place op Nothing k = ap suc (nothing_takes place (form_of op))
takes place op (Number n) k = ap suc (number_takes place (form_of op) n)
takes place op (Constant c) k = push_takes place k (nat_lt k 256)
takes place op (Local n) k = ap suc (local_takes place (form_of op) n)
takes place op (Jump target) k = ap suc (jump_takes place (form_of op) (pos 0))
takes place op (Table default targets) k = ap suc (table_takes place (form_of op) (pos 0) (pos 0) targets (λ t. pos 0))
takes place op (Class name) k = ap suc (pool_takes place (form_of op) k)
takes place op (Field r) k = ap suc (pool_takes place (form_of op) k)
takes place op (Method r) k = ap suc (pool_takes place (form_of op) k)

-- each member of a built-in class is a constant
pub built_in_takes : (b : Built) (form : Option Form) (place k : ℕ) → sized form place k (built_in_of b) ≡ pool_size form
built_in_takes b form place k = of_members (λ o. sized form place k o ≡ pool_size form) (λ r. refl) (λ r. refl) b

pub ruleset sizing = (built_in_takes)
