-- The bytes of what separates tokens, of names, numbers and texts.
use Rattle.std.specs.Prelude.{ℕ, Bool, ◌||◌, ◌==◌, not, if◌then◌else◌}
use Rattle.std.specs.Char.{is_ascii_digit}
use Rattle.mg_read.specs.Letters.{is_name_start, is_blank as is_plain_blank}

-- space, tab, line feed, carriage return and form feed separate tokens
abbrev pub is_blank : ℕ → Bool
is_blank c = is_plain_blank c || c == 12

-- a letter of ASCII, "_" or "$"
abbrev pub is_word_start : ℕ → Bool
is_word_start c = is_name_start c || c == 36

abbrev pub is_word_byte : ℕ → Bool
is_word_byte c = is_word_start c || is_ascii_digit c

-- what may not follow a number directly: what may stand in a word, and a dot
abbrev pub is_number_tail : ℕ → Bool
is_number_tail c = is_word_byte c || c == 46

-- a line feed or a carriage return ends a line, and with it a text or a comment
abbrev pub is_line_end : ℕ → Bool
is_line_end c = c == 10 || c == 13

abbrev pub is_in_line : ℕ → Bool
is_in_line c = not (is_line_end c)

-- what stands for itself in a text
abbrev pub is_plain : ℕ → Bool
is_plain c = not (c == 34 || (c == 92 || is_line_end c))

-- what may follow a backslash: b, t, n, f, r, the quote, the apostrophe and the backslash
abbrev pub is_escape : ℕ → Bool
is_escape c = c == 98 || (c == 116 || (c == 110 || (c == 102 || (c == 114 || (c == 34 || (c == 39 || c == 92))))))

-- what a backslash and this byte stand for: backspace, tab, line feed, form feed, carriage return, or the byte itself
abbrev pub escaped_byte : ℕ → ℕ
escaped_byte c =
    if c == 98 then 8
    else (if c == 116 then 9
    else (if c == 110 then 10
    else (if c == 102 then 12
    else (if c == 114 then 13
    else c))))
