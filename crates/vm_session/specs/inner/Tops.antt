-- Operands by how far they stand from the top.
use Rattle.std.specs.Prelude.{ℕ, ◌+◌, ◌-◌, ℤ, List, length, slice_get, Option, Some, None}
use Rattle.vm_model.specs.declared.value.Value.{Value}
use Rattle.vm_model.specs.declared.value.Value.TheVariants as values

-- the element so many below the last
abbrev pub at_top : {A : Type 0} → List A → ℕ → Option A
at_top vs k = slice_get vs (length vs - (k + 1))

abbrev pub int_in : Option Value → Option ℤ
int_in (Some (values.Int x)) = Some x
int_in _ = None

abbrev pub text_in : Option Value → Option (List ℕ)
text_in (Some (values.Text text)) = Some text
text_in _ = None

-- the int that a local holds
abbrev pub int_of_local : Option (Option Value) → Option ℤ
int_of_local (Some (Some (values.Int x))) = Some x
int_of_local _ = None
