-- No plain type is that of an enum or of objects.
use Rattle.std.proofs.Common.{◌≡◌, ℕ}
use Rattle.jv_tree.specs.declared.built_in.PlainType.{PlainType}
use Rattle.jv_tree.specs.declared.built_in.PlainType.TheVariants as plain
use Rattle.jv_core.specs.declared.program.CoreType.TheVariants as types
use Rattle.jv_core.specs.Types.{plain_type}

pub no_enum : (t : PlainType) (n : ℕ) → plain_type t ≡ types.Enum n → ⊥
no_enum plain.Void n e = cc
no_enum plain.Int n e = cc
no_enum plain.Boolean n e = cc
no_enum plain.Text n e = cc

pub no_object : (t : PlainType) (n : ℕ) → plain_type t ≡ types.Object n → ⊥
no_object plain.Void n e = cc
no_object plain.Int n e = cc
no_object plain.Boolean n e = cc
no_object plain.Text n e = cc
