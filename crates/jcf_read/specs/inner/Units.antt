-- The unit at the front of a text, by its first three bytes: how many it takes.
use Rattle.std.specs.Prelude.{ℕ, Option, Some, None, if◌then◌else◌}
use Rattle.jcf_read.specs.Letters.{is_one, are_two, are_three}

abbrev pub unit_of : ℕ → ℕ → ℕ → Option ℕ
unit_of a b c = if is_one a then Some 1 else if are_two a b then Some 2 else if are_three a b c then Some 3 else None
