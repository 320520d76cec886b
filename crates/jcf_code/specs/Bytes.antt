-- Numbers at the front of some bytes, the highest byte first.
use Rattle.std.specs.Prelude.{ℕ, List, length, nat_lt, if◌then◌else◌}
use Rattle.byteorder.specs.Endian.{big_number}

-- a number of so many bytes, or 0 where they aren't there
unfoldable pub number : ℕ → List ℕ → ℕ
number n bytes = if nat_lt (length bytes) n then 0 else big_number n bytes
