-- The bytes of names, of texts between quotes, and of what separates tokens.
use Rattle.std.specs.Prelude.{ℕ, Bool, ◌||◌, ◌&&◌, ◌==◌, nat_lt, not}
use Rattle.std.specs.Char.{is_ascii_alphabetic, is_ascii_digit}

-- space, tab, line feed and carriage return separate tokens
abbrev pub is_blank : ℕ → Bool
is_blank c = c == 32 || (c == 9 || (c == 10 || c == 13))

-- letters are those of ASCII
abbrev pub is_name_start : ℕ → Bool
is_name_start c = is_ascii_alphabetic c || c == 95

abbrev pub is_name_byte : ℕ → Bool
is_name_byte c = is_name_start c || is_ascii_digit c

-- printable ASCII but for the quote
abbrev pub is_quotable : ℕ → Bool
is_quotable c = nat_lt 31 c && (nat_lt c 127 && not (c == 34))

-- only a line feed ends a line
abbrev pub not_line_end : ℕ → Bool
not_line_end c = not (c == 10)
