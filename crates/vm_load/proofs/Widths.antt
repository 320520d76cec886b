-- An instruction takes as many bytes as it is laid out in.
use Rattle.std.proofs.Common.{◌≡◌, ℕ, ℤ, suc, ◌+◌, ◌*◌, List, [], ◌∷◌, ◌++◌, length, Option, Some, None, replicate, refl, ap, arith}
use Rattle.std.proofs.Common.{length-append}
use Rattle.std.proofs.lemmas.List.{length-replicate}
use Rattle.std.specs.List.{flat_map}
use Rattle.std.specs.Int.{cast_unsigned}
use mir.Syntax.{w8, w16, w32}
use Rattle.byteorder.specs.Numbers.{length-bytes_high_first}
use Rattle.cls_tree.specs.declared.instr.Form.{Form}
use Rattle.cls_tree.specs.declared.instr.Form.TheVariants as forms
use Rattle.cls_tree.specs.Opcodes.{form_of}
use Rattle.cls_tree.specs.Layout.{pad, u1, s1, s4, highest, form_bytes, args_bytes, instr_bytes}
use Rattle.cls_tree.specs.Tree.{Args, Number, Local, Pool, Jump, Add, Table, Instr}
use Rattle.cls_tree.specs.Tree as tree
use Rattle.vm_load.specs.Width.{form_width, args_width, width}

offsets_width : (offsets : List ℤ) → length (flat_map s4 offsets) ≡ 4 * length offsets
offsets_width [] = refl
offsets_width (d ∷ offsets) =
    let e = length-append (s4 d) (flat_map s4 offsets) in
    let four = length-bytes_high_first 4 (cast_unsigned w32 d) in
    let rest = offsets_width offsets in
    omega arith

zeros : (n : ℕ) → length {A = ℕ} (replicate n 0) ≡ n
zeros n = length-replicate n 0

table_width : (place : ℕ) (default low : ℤ) (offsets : List ℤ) →
    length (form_bytes place forms.Table (Table default low offsets)) ≡ pad place + (12 + 4 * length offsets)
table_width place default low offsets =
    let a = length-append (replicate (pad place) 0) (s4 default ++ (s4 low ++ (s4 (highest low offsets) ++ flat_map s4 offsets))) in
    let b = length-append (s4 default) (s4 low ++ (s4 (highest low offsets) ++ flat_map s4 offsets)) in
    let c = length-append (s4 low) (s4 (highest low offsets) ++ flat_map s4 offsets) in
    let d = length-append (s4 (highest low offsets)) (flat_map s4 offsets) in
    let e = length-bytes_high_first 4 (cast_unsigned w32 default) in
    let f = length-bytes_high_first 4 (cast_unsigned w32 low) in
    let g = length-bytes_high_first 4 (cast_unsigned w32 (highest low offsets)) in
    let h = zeros (pad place) in
    let k = offsets_width offsets in
    omega arith

two : (a b : List ℕ) (m n : ℕ) → length a ≡ m → length b ≡ n → length (a ++ b) ≡ m + n
two a b m n e f = let h = length-append a b in omega arith

is_form_width : (place : ℕ) (form : Form) (args : Args) → length (form_bytes place form args) ≡ form_width place form args
is_form_width place forms.Nothing args = refl
is_form_width place forms.Byte (Number n) = length-bytes_high_first 1 (cast_unsigned w8 n)
is_form_width place forms.Byte tree.None = refl
is_form_width place forms.Byte (Local n) = refl
is_form_width place forms.Byte (Pool n) = refl
is_form_width place forms.Byte (Jump n) = refl
is_form_width place forms.Byte (Add a b) = refl
is_form_width place forms.Byte (Table a b c) = refl
is_form_width place forms.Short (Number n) = length-bytes_high_first 2 (cast_unsigned w16 n)
is_form_width place forms.Short tree.None = refl
is_form_width place forms.Short (Local n) = refl
is_form_width place forms.Short (Pool n) = refl
is_form_width place forms.Short (Jump n) = refl
is_form_width place forms.Short (Add a b) = refl
is_form_width place forms.Short (Table a b c) = refl
is_form_width place forms.Local (Local n) = length-bytes_high_first 1 n
is_form_width place forms.Local tree.None = refl
is_form_width place forms.Local (Number n) = refl
is_form_width place forms.Local (Pool n) = refl
is_form_width place forms.Local (Jump n) = refl
is_form_width place forms.Local (Add a b) = refl
is_form_width place forms.Local (Table a b c) = refl
is_form_width place forms.Increment (Add local n) =
    two (u1 local) (s1 n) 1 1 (length-bytes_high_first 1 local) (length-bytes_high_first 1 (cast_unsigned w8 n))
is_form_width place forms.Increment tree.None = refl
is_form_width place forms.Increment (Number n) = refl
is_form_width place forms.Increment (Local n) = refl
is_form_width place forms.Increment (Pool n) = refl
is_form_width place forms.Increment (Jump n) = refl
is_form_width place forms.Increment (Table a b c) = refl
is_form_width place forms.Jump (Jump d) = length-bytes_high_first 2 (cast_unsigned w16 d)
is_form_width place forms.Jump tree.None = refl
is_form_width place forms.Jump (Number n) = refl
is_form_width place forms.Jump (Local n) = refl
is_form_width place forms.Jump (Pool n) = refl
is_form_width place forms.Jump (Add a b) = refl
is_form_width place forms.Jump (Table a b c) = refl
is_form_width place forms.Table (Table default low offsets) = table_width place default low offsets
is_form_width place forms.Table tree.None = refl
is_form_width place forms.Table (Number n) = refl
is_form_width place forms.Table (Local n) = refl
is_form_width place forms.Table (Pool n) = refl
is_form_width place forms.Table (Jump n) = refl
is_form_width place forms.Table (Add a b) = refl
is_form_width place forms.NearConstant (Pool n) = length-bytes_high_first 1 n
is_form_width place forms.NearConstant tree.None = refl
is_form_width place forms.NearConstant (Number n) = refl
is_form_width place forms.NearConstant (Local n) = refl
is_form_width place forms.NearConstant (Jump n) = refl
is_form_width place forms.NearConstant (Add a b) = refl
is_form_width place forms.NearConstant (Table a b c) = refl
is_form_width place forms.Constant (Pool n) = length-bytes_high_first 2 n
is_form_width place forms.Constant tree.None = refl
is_form_width place forms.Constant (Number n) = refl
is_form_width place forms.Constant (Local n) = refl
is_form_width place forms.Constant (Jump n) = refl
is_form_width place forms.Constant (Add a b) = refl
is_form_width place forms.Constant (Table a b c) = refl
is_form_width place forms.Field (Pool n) = length-bytes_high_first 2 n
is_form_width place forms.Field tree.None = refl
is_form_width place forms.Field (Number n) = refl
is_form_width place forms.Field (Local n) = refl
is_form_width place forms.Field (Jump n) = refl
is_form_width place forms.Field (Add a b) = refl
is_form_width place forms.Field (Table a b c) = refl
is_form_width place forms.Method (Pool n) = length-bytes_high_first 2 n
is_form_width place forms.Method tree.None = refl
is_form_width place forms.Method (Number n) = refl
is_form_width place forms.Method (Local n) = refl
is_form_width place forms.Method (Jump n) = refl
is_form_width place forms.Method (Add a b) = refl
is_form_width place forms.Method (Table a b c) = refl
is_form_width place forms.Class (Pool n) = length-bytes_high_first 2 n
is_form_width place forms.Class tree.None = refl
is_form_width place forms.Class (Number n) = refl
is_form_width place forms.Class (Local n) = refl
is_form_width place forms.Class (Jump n) = refl
is_form_width place forms.Class (Add a b) = refl
is_form_width place forms.Class (Table a b c) = refl

is_args_width : (place : ℕ) (form : Option Form) (args : Args) → length (args_bytes place form args) ≡ args_width place form args
is_args_width place None args = refl
is_args_width place (Some form) args = is_form_width place form args

pub is_width : (place : ℕ) (i : Instr) → length (instr_bytes place i) ≡ width place i
is_width place i = ap suc (is_args_width place (form_of i.op) i.args)

pub ruleset widths = (is_width)
