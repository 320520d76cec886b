-- Attributes (JVMS 4.7): where each lies, and how it is named.
use Rattle.std.specs.Prelude.{ℕ, ◌-◌, List, length, get_or, Result, Ok, Bool, false, nat_lt, ◌==◌, ◌||◌}
use Rattle.std.specs.Prelude.{if◌then◌else◌}
use Rattle.std.specs.Str.{bytes_eq}
use Rattle.jcf_tree.specs.declared.class.Const.{Const}
use Rattle.jcf_tree.specs.declared.class.Const.TheVariants as consts
use Rattle.jcf_tree.specs.declared.kind.Kind.TheVariants as needs
use Rattle.jcf_read.specs.declared.fault.FaultKind.TheVariants as kinds
use Rattle.jcf_read.specs.declared.fault.Fault.{Fault}
use Rattle.jcf_read.specs.declared.attributes.Attribute.{Attribute}
use Rattle.jcf_read.specs.Answer.{◌>>=◌, wrong}
use Rattle.jcf_read.specs.Front.{Front, number_at, run_at}
use Rattle.jcf_read.specs.Pool.{Pool, named_at}

-- the attribute at a place: its name, its length, and so many bytes
unfoldable pub attribute_at : Pool → Front → ℕ → Result Attribute Fault
attribute_at pool front at = do
  name ← named_at pool needs.Text front at
  size ← number_at 4 front name.1
  run ← run_at size.0 front size.1
  Ok (record { name = name.0; from = size.1; to = run.1 })

-- what was read up to a place ends where its attribute does
unfoldable pub ends_at : ℕ → ℕ → Result ℕ Fault
ends_at at to = if at == to then Ok to else wrong kinds.BadAttribute at

abbrev pub is_text : Const → List ℕ → Bool
is_text (consts.Text bytes) text = bytes_eq bytes text
is_text other text = false

-- whether the constant of this number is this text
unfoldable pub is_named : List Const → ℕ → List ℕ → Bool
is_named constants n text =
    if n == 0 || nat_lt (length constants) n then false else is_text (get_or constants (n - 1) consts.Unused) text
