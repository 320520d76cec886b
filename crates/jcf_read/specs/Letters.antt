-- Modified UTF-8 (JVMS 4.4.7): a row of units, each of one to three bytes, and none longer than it must be.
-- A unit is one of UTF-16, so surrogates may stand alone.
use Rattle.std.specs.Prelude.{ℕ, List, [], ◌∷◌, Bool, true, false, nat_le, ◌==◌, ◌&&◌, ◌||◌, if◌then◌else◌}

abbrev pub is_between : ℕ → ℕ → ℕ → Bool
is_between low high byte = nat_le low byte && nat_le byte high

-- the units 1 to 127
abbrev pub is_one : ℕ → Bool
is_one a = is_between 1 127 a

-- the unit 0, and those from 128 to 2047
abbrev pub are_two : ℕ → ℕ → Bool
are_two a b = (a == 192 && b == 128) || (is_between 194 223 a && is_between 128 191 b)

-- the units from 2048 to 65535: behind 224 the next byte is 160 or more, since two bytes would do for what lies below
abbrev pub are_three : ℕ → ℕ → ℕ → Bool
are_three a b c = ((a == 224 && is_between 160 191 b) || (is_between 225 239 a && is_between 128 191 b)) && is_between 128 191 c

-- whether bytes are units, one behind the other
unfoldable pub is_modified : List ℕ → Bool
is_modified [] = true
is_modified (a ∷ []) = is_one a
is_modified (a ∷ b ∷ []) = if is_one a then is_modified (b ∷ []) else are_two a b
is_modified (a ∷ b ∷ c ∷ rest) =
    if is_one a then is_modified (b ∷ c ∷ rest)
    else if are_two a b then is_modified (c ∷ rest)
    else if are_three a b c then is_modified rest
    else false
