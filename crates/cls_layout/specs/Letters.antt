-- Reading modified UTF-8 (JVMS 4.4.7): units of one to three bytes, and characters of one unit or of two surrogates.
use Rattle.std.specs.Prelude.{ℕ, ◌+◌, ◌-◌, ◌*◌, List, [], ◌∷◌, Option, Some, None, Bool, true, false, nat_lt, ◌==◌, ◌&&◌, encode_utf8_all}
use Rattle.std.specs.Prelude.{if◌then◌else◌}
use Rattle.mg_read.specs.Reader.{Reader, ◌>>=◌, all_of}

-- whether a byte goes on a unit
abbrev pub is_tail : ℕ → Bool
is_tail b = nat_lt 127 b && nat_lt b 192

-- a unit, unless fewer bytes would do
abbrev pub unless_long : Bool → ℕ → List ℕ → Option (ℕ × List ℕ)
unless_long true n rest = None
unless_long false n rest = Some (n, rest)

abbrev pub unit_of_two : ℕ → ℕ → ℕ
unit_of_two a b = (a - 192) * 64 + (b - 128)

abbrev pub unit_of_three : ℕ → ℕ → ℕ → ℕ
unit_of_three a b c = (a - 224) * 4096 + (b - 128) * 64 + (c - 128)

-- a unit of two bytes, behind the first of them
unfoldable pub two_at : ℕ → Reader ℕ ℕ
two_at a [] = None
two_at a (b ∷ rest) = if is_tail b then unless_long (nat_lt 0 (unit_of_two a b) && nat_lt (unit_of_two a b) 128) (unit_of_two a b) rest else
    None

-- a unit of three bytes, behind the first of them
unfoldable pub three_at : ℕ → Reader ℕ ℕ
three_at a [] = None
three_at a (b ∷ []) = None
three_at a (b ∷ c ∷ rest) =
    if is_tail b && is_tail c then unless_long (nat_lt (unit_of_three a b c) 2048) (unit_of_three a b c) rest else None

-- a unit of one to three bytes
unfoldable pub unit_at : Reader ℕ ℕ
unit_at [] = None
unit_at (a ∷ bytes) =
    if nat_lt a 128 then unless_long (a == 0) a bytes
    else if nat_lt a 192 then None
    else if nat_lt a 224 then two_at a bytes
    else if nat_lt a 240 then three_at a bytes
    else None

-- whether a unit is the first or the second of two surrogates
abbrev pub is_high : ℕ → Bool
is_high u = nat_lt 55295 u && nat_lt u 56320

abbrev pub is_low : ℕ → Bool
is_low u = nat_lt 56319 u && nat_lt u 57344

abbrev pub char_of_two : ℕ → ℕ → ℕ
char_of_two u v = 65536 + (u - 55296) * 1024 + (v - 56320)

-- the character whose second surrogate follows the first
unfoldable pub second_at : ℕ → Reader ℕ ℕ
second_at u bytes = do
  v ← unit_at bytes
  if is_low v.0 then Some (char_of_two u v.0, v.1) else None

unfoldable pub char_at : Reader ℕ ℕ
char_at bytes = do
  u ← unit_at bytes
  if is_high u.0 then second_at u.0 u.1 else if is_low u.0 then None else Some (u.0, u.1)

abbrev pub some_left : List ℕ → Bool
some_left [] = false
some_left (b ∷ bytes) = true

-- the text that all of the bytes spell
unfoldable pub letters : List ℕ → Option (List ℕ)
letters bytes = do
  cs ← all_of some_left char_at bytes
  Some (encode_utf8_all cs.0)

-- whether a byte is a character of its own
abbrev pub is_plain : ℕ → Bool
is_plain b = nat_lt 0 b && nat_lt b 128
