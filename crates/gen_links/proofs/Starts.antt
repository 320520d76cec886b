-- Where instructions start: distances change no size, and each instruction is found at its start.
use Rattle.std.proofs.Common.{◌≡◌, ℕ, ℤ, zero, suc, pos, ◌+◌, ◌*◌, ◌<◌, ◌≤◌, ◌+ℤ◌, ◌-ℤ◌, List, [], ◌∷◌, ◌++◌, length}
use Rattle.std.proofs.Common.{get_or, replicate, Bool, true, false, Option, Some}
use Rattle.std.proofs.Common.{None, refl, sym, ap, ◌∙◌, subst, arith, length-append, one-add}
use Rattle.std.specs.List.{flat_map}
use Rattle.std.specs.Int.{cast_unsigned}
use Rattle.std.specs.Ordering.{int_eq}
use Rattle.std.proofs.lemmas.Bool.Decides.{Decides-int_eq}
use mir.Syntax.{w16, w32}
use Rattle.byteorder.specs.Numbers.{length-bytes_high_first}
use Rattle.cls_tree.specs.declared.instr.Form.{Form}
use Rattle.cls_tree.specs.declared.instr.Form.TheVariants as forms
use Rattle.cls_tree.specs.Opcodes.{form_of}
use Rattle.cls_tree.specs.Layout.{pad, s4, highest, form_bytes, args_bytes, instr_bytes}
use Rattle.cls_tree.specs.Tree as file
use Rattle.cls_tree.specs.Jumps.{starts_from}
use Rattle.vm_model.specs.Links.{started}

-- Sizes.

jump_alike : (place : ℕ) (form : Option Form) (d e : ℤ) →
    length (args_bytes place form (file.Jump d)) ≡ length (args_bytes place form (file.Jump e))
jump_alike place (Some forms.Jump) d e = length-bytes_high_first 2 (cast_unsigned w16 d)
    ∙ sym (length-bytes_high_first 2 (cast_unsigned w16 e))
jump_alike place (Some forms.Nothing) d e = refl
jump_alike place (Some forms.Byte) d e = refl
jump_alike place (Some forms.Short) d e = refl
jump_alike place (Some forms.Local) d e = refl
jump_alike place (Some forms.Increment) d e = refl
jump_alike place (Some forms.Table) d e = refl
jump_alike place (Some forms.NearConstant) d e = refl
jump_alike place (Some forms.Constant) d e = refl
jump_alike place (Some forms.Field) d e = refl
jump_alike place (Some forms.Method) d e = refl
jump_alike place (Some forms.Class) d e = refl
jump_alike place None d e = refl

pub jump_size : (place op : ℕ) (d e : ℤ) →
    length (instr_bytes place (record { op = op; args = file.Jump d })) ≡ length (instr_bytes place (record {
      op = op;
      args
          = file.Jump e;
    }))
jump_size place op d e = ap suc (jump_alike place (form_of op) d e)

four : (z : ℤ) → length (s4 z) ≡ 4
four z = length-bytes_high_first 4 (cast_unsigned w32 z)

offsets_size : (offsets : List ℤ) → length (flat_map s4 offsets) ≡ 4 * length offsets
offsets_size [] = refl
offsets_size (d ∷ offsets) = length-append (s4 d) (flat_map s4 offsets) ∙ omega (arith, four d, offsets_size offsets)

table_size_is : (place : ℕ) (d low : ℤ) (offsets : List ℤ) →
    length (form_bytes place forms.Table (file.Table d low offsets)) ≡ length {A
    = ℕ} (replicate (pad place) 0) + (12 + 4 * length offsets)
table_size_is place d low offsets =
    let a = length-append (replicate (pad place) 0) (s4 d ++ (s4 low ++ (s4 (highest low offsets) ++ flat_map s4 offsets))) in
    let b = length-append (s4 d) (s4 low ++ (s4 (highest low offsets) ++ flat_map s4 offsets)) in
    let c = length-append (s4 low) (s4 (highest low offsets) ++ flat_map s4 offsets) in
    let e = length-append (s4 (highest low offsets)) (flat_map s4 offsets) in
    omega (arith, a, b, c, e, four d, four low, four (highest low offsets), offsets_size offsets)

table_alike : (place : ℕ) (form : Option Form) (d e low : ℤ) (xs ys : List ℤ) → length xs ≡ length ys →
    length (args_bytes place form (file.Table d low xs)) ≡ length (args_bytes place form (file.Table e low ys))
table_alike place (Some forms.Table) d e low xs ys h = omega (arith, table_size_is place d low xs, table_size_is place e low ys, h)
table_alike place (Some forms.Nothing) d e low xs ys h = refl
table_alike place (Some forms.Byte) d e low xs ys h = refl
table_alike place (Some forms.Short) d e low xs ys h = refl
table_alike place (Some forms.Local) d e low xs ys h = refl
table_alike place (Some forms.Increment) d e low xs ys h = refl
table_alike place (Some forms.Jump) d e low xs ys h = refl
table_alike place (Some forms.NearConstant) d e low xs ys h = refl
table_alike place (Some forms.Constant) d e low xs ys h = refl
table_alike place (Some forms.Field) d e low xs ys h = refl
table_alike place (Some forms.Method) d e low xs ys h = refl
table_alike place (Some forms.Class) d e low xs ys h = refl
table_alike place None d e low xs ys h = refl

pub table_size : (place op : ℕ) (d e low : ℤ) (xs ys : List ℤ) → length xs ≡ length ys →
    length (instr_bytes place (record { op = op; args = file.Table d low xs }))
    ≡ length (instr_bytes place (record { op = op; args = file.Table e low ys }))
table_size place op d e low xs ys h = ap suc (table_alike place (form_of op) d e low xs ys h)

-- Starts.

some_size : (place : ℕ) (i : file.Instr) → 0 < length (instr_bytes place i)
some_size place i = omega arith

pub length-starts : (place : ℕ) (js : List file.Instr) → length (starts_from place js) ≡ length js
unfolding starts_from
length-starts place [] = refl
length-starts place (j ∷ js) = ap suc (length-starts (place + length (instr_bytes place j)) js)

-- nothing starts before the first
not_before : (place : ℕ) (js : List file.Instr) (n : ℕ) → n < length js → place ≤ get_or (starts_from place js) n 0
unfolding starts_from
not_before place [] n h = absurd (omega arith)
not_before place (j ∷ js) zero h = omega arith
not_before place (j ∷ js) (suc n) h = omega (arith, not_before (place + length (instr_bytes place j)) js n (omega arith))

different : (s t : ℕ) → s < t → int_eq (pos s) (pos t) ≡ false
different s t h = go (int_eq (pos s) (pos t)) refl
  where
    go : (b : Bool) → int_eq (pos s) (pos t) ≡ b → int_eq (pos s) (pos t) ≡ false
    go false e = e
    go true e =
        let same : pos s ≡ pos t = (Decides-int_eq (pos s) (pos t)).0 e in
        absurd (grind (arith, same))

-- at the start of instruction n it is the first
pub started_at : (place : ℕ) (js : List file.Instr) (n : ℕ) → n < length js →
    started (starts_from place js) (pos (get_or (starts_from place js) n 0)) ≡ n
unfolding starts_from
started_at place [] n h = absurd (omega arith)
started_at place (j ∷ js) zero h = rw ((Decides-int_eq (pos place) (pos place)).1 refl) refl
started_at place (j ∷ js) (suc n) h =
    let next = place + length (instr_bytes place j) in
    let later = not_before next js n (omega arith) in
    let apart = different place (get_or (starts_from next js) n 0) (omega (arith, later, some_size place j)) in
    rw apart (one-add (started (starts_from next js) (pos (get_or (starts_from next js) n 0)))
    ∙ ap suc (started_at next js n (omega arith)))

-- from a place to the start of an instruction, and back to its number
pub reached : (starts : List ℕ) (js : List file.Instr) (here n : ℕ) → starts ≡ starts_from 0 js → n < length js →
    started starts (pos here +ℤ (pos (get_or starts n 0) -ℤ pos here)) ≡ n
reached starts js here n e h =
    let there = get_or starts n 0 in
    let back : pos here +ℤ (pos there -ℤ pos here) ≡ pos there = grind arith in
    ap (started starts) back ∙ subst (λ xs. started xs (pos (get_or xs n 0)) ≡ n) (sym e) (started_at 0 js n h)
