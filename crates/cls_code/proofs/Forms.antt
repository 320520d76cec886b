-- Forms other than a table's.
use Rattle.std.proofs.Common.{◌≡◌, ℕ, ◌+◌, ◌<◌, ◌≤◌, List, [], ◌∷◌, length, false, refl}
use Rattle.cls_tree.specs.declared.instr.Form.{Form}
use Rattle.cls_tree.specs.declared.instr.Form.TheVariants as forms
use Rattle.cls_code.specs.Code.{offsets, is_bad_switch}

pub no_offsets : (place : ℕ) (form : Form) (rest : List ℕ) → (form ≡ forms.Table → ⊥) → offsets place form rest ≡ 0
no_offsets place forms.Nothing rest no_table = refl
no_offsets place forms.Byte rest no_table = refl
no_offsets place forms.Short rest no_table = refl
no_offsets place forms.Local rest no_table = refl
no_offsets place forms.Increment rest no_table = refl
no_offsets place forms.Jump rest no_table = refl
no_offsets place forms.Table rest no_table = absurd (no_table refl)
no_offsets place forms.NearConstant rest no_table = refl
no_offsets place forms.Constant rest no_table = refl
no_offsets place forms.Field rest no_table = refl
no_offsets place forms.Method rest no_table = refl
no_offsets place forms.Class rest no_table = refl

pub no_switch : (place : ℕ) (form : Form) (rest : List ℕ) → (form ≡ forms.Table → ⊥) → is_bad_switch place form rest ≡ false
no_switch place forms.Nothing rest no_table = refl
no_switch place forms.Byte rest no_table = refl
no_switch place forms.Short rest no_table = refl
no_switch place forms.Local rest no_table = refl
no_switch place forms.Increment rest no_table = refl
no_switch place forms.Jump rest no_table = refl
no_switch place forms.Table rest no_table = absurd (no_table refl)
no_switch place forms.NearConstant rest no_table = refl
no_switch place forms.Constant rest no_table = refl
no_switch place forms.Field rest no_table = refl
no_switch place forms.Method rest no_table = refl
no_switch place forms.Class rest no_table = refl
