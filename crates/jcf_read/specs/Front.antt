-- Numbers and runs of bytes at a place, and the place behind them.
use Rattle.std.specs.Prelude.{ℕ, ◌+◌, List, take, drop, length, Result, Ok, nat_lt, if◌then◌else◌}
use Rattle.byteorder.specs.Endian.{big_number}
use Rattle.jcf_read.specs.declared.fault.FaultKind.{FaultKind}
use Rattle.jcf_read.specs.declared.fault.FaultKind.TheVariants as kinds
use Rattle.jcf_read.specs.declared.fault.Fault.{Fault}
use Rattle.jcf_read.specs.declared.front.Front.{Front as KeptFront}
use Rattle.jcf_read.specs.Answer.{wrong}

-- the bytes of a file, or those up to the end of an attribute, and what a field is in which they end
pub record Front : Type 0 where
  pub bytes : List ℕ
  pub cut : FaultKind

abbrev pub front_of : KeptFront → Front
front_of f = record { bytes = f.bytes.now; cut = f.cut }

abbrev pub file : List ℕ → Front
file bytes = record { bytes = bytes; cut = kinds.Short }

-- the content of an attribute, whose end is this place
abbrev pub content : ℕ → Front → Front
content to front = record { bytes = take to front.bytes; cut = kinds.BadAttribute }

-- what stands at a place, and the place behind it
abbrev pub Reader : Type 0 → Type 0
Reader A = Front → ℕ → Result (A × ℕ) Fault

-- a number of so many bytes
unfoldable pub number_at : ℕ → Reader ℕ
number_at n front at =
    if nat_lt (length (drop at front.bytes)) n then wrong front.cut at else Ok (big_number n (drop at front.bytes), at + n)

-- so many bytes
unfoldable pub run_at : ℕ → Reader (List ℕ)
run_at n front at = if nat_lt (length (drop at front.bytes)) n then wrong front.cut at else Ok (take n (drop at front.bytes), at + n)
