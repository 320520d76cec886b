-- Texts in modified UTF-8 (JVMS 4.4.7).
use Rattle.std.specs.Prelude.{ℕ, ◌+◌, ◌-◌, ◌/◌, ◌%◌, List, [], ◌∷◌, ◌++◌, nat_lt, if◌then◌else◌, ◌==◌}
use Rattle.std.specs.List.{flat_map}
use Rattle.std.specs.Str.{chars}

-- a number below 2^11 in two bytes
abbrev pub two_bytes : ℕ → List ℕ
two_bytes n = (192 + n / 64) ∷ (128 + n % 64) ∷ []

-- a number below 2^16 in three bytes
abbrev pub three_bytes : ℕ → List ℕ
three_bytes n = (224 + n / 4096) ∷ (128 + n / 64 % 64) ∷ (128 + n % 64) ∷ []

-- a character: from U+0001 to U+007F one byte, U+0000 and up to U+07FF two, up to U+FFFF three,
-- and above two surrogates of three bytes each
abbrev pub modified_char : ℕ → List ℕ
modified_char c =
    if c == 0 then two_bytes 0
    else if nat_lt c 128 then c ∷ []
    else if nat_lt c 2048 then two_bytes c
    else if nat_lt c 65536 then three_bytes c
    else three_bytes (55296 + (c - 65536) / 1024) ++ three_bytes (56320 + c % 1024)

-- a text, which is given by its bytes in UTF-8
unfoldable pub modified : List ℕ → List ℕ
modified text = flat_map modified_char (chars text)
