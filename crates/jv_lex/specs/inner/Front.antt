-- The piece at the front of the bytes and what follows it, or why none stands there.
use Rattle.std.specs.Prelude.{ℕ, ◌+◌, ◌-◌, ◌≤◌, List, [], ◌∷◌, length, take, drop, map, Option, Some, None, option_map, Result, Ok, Err}
use Rattle.std.specs.Prelude.{if◌then◌else◌, ◌==◌, ◌&&◌, ◌||◌, nat_lt, not, Bool, true, false, slice_index}
use Rattle.std.specs.Char.{is_ascii_digit}
use Rattle.std.specs.Str.{IsAscii, IsUtf8}
use Rattle.std.specs.Str.Parse.{digits_value}
use Rattle.mg_text.specs.declared.place.Place.{Place}
use Rattle.mg_read.specs.Passes.{span}
use Rattle.mg_read.specs.inner.Fronts.{close_at}
use Rattle.jv_tree.specs.declared.token.Sign.{Sign}
use Rattle.jv_tree.specs.declared.token.Sign.TheVariants as signs
use Rattle.jv_tree.specs.declared.token.Token.{Token}
use Rattle.jv_tree.specs.Tokens as tokens
use Rattle.jv_lex.specs.declared.fault.Cause.{Cause}
use Rattle.jv_lex.specs.declared.fault.Cause.TheVariants as causes
use Rattle.jv_lex.specs.declared.front.PieceKind.{PieceKind}
use Rattle.jv_lex.specs.declared.front.PieceKind.TheVariants as kinds
use Rattle.jv_lex.specs.declared.front.FrontPiece.{FrontPiece}
use Rattle.jv_lex.specs.declared.front.Stop.{Stop}
use Rattle.jv_lex.specs.Letters.{is_blank, is_word_start, is_word_byte, is_number_tail, is_line_end, is_in_line, is_escape}
use Rattle.jv_lex.specs.Written.{Written, plain, escaped, meant}
use Rattle.jv_lex.specs.Pieces.{Piece, blank, line, block, word, number, text, sign, spell}

-- a piece and what follows it, or the cause and how far behind the front it stands
abbrev pub Front : Type 0
Front = Result (Piece × List ℕ) (Cause × ℕ)

-- ---- texts; the test says whether a backslash stands before the bytes

-- where the closing quote is, on the same line
abbrev pub closing_at : Bool → List ℕ → Option ℕ
closing_at after_backslash [] = None
closing_at after_backslash (c ∷ cs) =
    if is_line_end c then None
    else (if after_backslash then option_map (λ n. n + 1) (closing_at false cs)
    else (if c == 34 then Some 0
    else option_map (λ n. n + 1) (closing_at (c == 92) cs)))

-- where the first byte is that follows a backslash and is no escape
abbrev pub bad_at : Bool → List ℕ → Option ℕ
bad_at after_backslash [] = None
bad_at after_backslash (c ∷ cs) =
    if after_backslash && not (is_escape c) then Some 0
    else option_map (λ n. n + 1) (bad_at (not after_backslash && c == 92) cs)

-- the written characters
abbrev pub characters : Bool → List ℕ → List Written
characters after_backslash [] = []
characters after_backslash (c ∷ cs) =
    if after_backslash then escaped c ∷ characters false cs
    else (if c == 92 then characters true cs
    else plain c ∷ characters false cs)

abbrev pub whole_text : List ℕ → List ℕ → Option ℕ → Front
whole_text body after None = Ok (text (characters false body), after)
whole_text body after (Some k) = Err (causes.BadEscape, k)

abbrev pub closed_text : List ℕ → Option ℕ → Front
closed_text cs None = Err (causes.OpenText, 0)
closed_text cs (Some n) = whole_text (take n cs) (drop (n + 1) cs) (bad_at false (take n cs))

-- the text whose first quote stands before these bytes
abbrev pub text_at : List ℕ → Front
text_at cs = closed_text cs (closing_at false cs)

-- ---- numbers

abbrev pub is_tailed : List ℕ → Bool
is_tailed [] = false
is_tailed (c ∷ cs) = is_number_tail c

abbrev pub has_leading_zero : List ℕ → Bool
has_leading_zero digits = slice_index digits 0 == 48 && nat_lt 1 (length digits)

-- the number that these digits are, if it may be as large
abbrev pub small : ℕ → Option ℕ
small n = if nat_lt 2147483648 n then None else Some n

abbrev pub number_of : List ℕ → List ℕ → Option ℕ
number_of digits after = if is_tailed after || has_leading_zero digits then None else small (digits_value 10 digits)

abbrev pub numbered : List ℕ → Option ℕ → Front
numbered after None = Err (causes.BadNumber, 0)
numbered after (Some n) = Ok (number n, after)

abbrev pub number_at : List ℕ → Front
number_at bytes =
    numbered (drop (span is_ascii_digit bytes) bytes) (number_of (take (span is_ascii_digit bytes) bytes)
    (drop (span is_ascii_digit bytes) bytes))

-- ---- comments

-- where "u" stands behind the first backslash that begins an escape of Unicode; the test says whether a backslash stands before the bytes
-- that may begin one
abbrev pub unicode_at : Bool → List ℕ → Option ℕ
unicode_at after_backslash [] = None
unicode_at after_backslash (c ∷ cs) =
    if after_backslash && c == 117 then Some 0
    else option_map (λ n. n + 1) (unicode_at (not after_backslash && c == 92) cs)

-- the comment, unless an escape of Unicode begins in it; its body stands two bytes behind the front
abbrev pub comment : Piece → List ℕ → Option ℕ → Front
comment p after None = Ok (p, after)
comment p after (Some n) = Err (causes.BadByte, n + 1)

abbrev pub closed_block : List ℕ → Option ℕ → Front
closed_block cs None = Err (causes.OpenComment, 0)
closed_block cs (Some n) = comment (block (take n cs)) (drop (n + 2) cs) (unicode_at false (take n cs))

abbrev pub line_at : List ℕ → Front
line_at cs =
    comment (line (take (span is_in_line cs) cs)) (drop (span is_in_line cs) cs) (unicode_at false (take (span is_in_line cs) cs))

-- ---- signs

-- the sign that a byte is
abbrev pub bracket : ℕ → Option Sign
bracket c =
    if c == 123 then Some signs.OpenBrace
    else (if c == 125 then Some signs.CloseBrace
    else (if c == 40 then Some signs.OpenParen
    else (if c == 41 then Some signs.CloseParen
    else (if c == 91 then Some signs.OpenBracket
    else (if c == 93 then Some signs.CloseBracket
    else (if c == 59 then Some signs.Semicolon
    else (if c == 44 then Some signs.Comma
    else (if c == 46 then Some signs.Dot
    else None))))))))

abbrev pub operator : ℕ → Option Sign
operator c =
    if c == 61 then Some signs.Assign
    else (if c == 60 then Some signs.Less
    else (if c == 62 then Some signs.Greater
    else (if c == 43 then Some signs.Plus
    else (if c == 45 then Some signs.Minus
    else (if c == 42 then Some signs.Star
    else (if c == 47 then Some signs.Slash
    else (if c == 37 then Some signs.Percent
    else (if c == 33 then Some signs.Bang
    else None))))))))

abbrev pub mark : ℕ → Option Sign
mark c =
    if c == 58 then Some signs.Colon
    else (if c == 64 then Some signs.At
    else (if c == 63 then Some signs.Question
    else (if c == 38 then Some signs.Ampersand
    else (if c == 124 then Some signs.Bar
    else (if c == 94 then Some signs.Caret
    else (if c == 126 then Some signs.Tilde
    else None))))))

abbrev pub or_else : Option Sign → Option Sign → Option Sign
or_else (Some s) other = Some s
or_else None other = other

abbrev pub single : ℕ → Option Sign
single c = or_else (bracket c) (or_else (operator c) (mark c))

-- the longer sign that a sign and the byte behind it are
abbrev pub with_equals : Sign → Option Sign
with_equals signs.Assign = Some signs.Equal
with_equals signs.Bang = Some signs.NotEqual
with_equals signs.Less = Some signs.LessEqual
with_equals signs.Greater = Some signs.GreaterEqual
with_equals signs.Plus = Some signs.PlusAssign
with_equals signs.Minus = Some signs.MinusAssign
with_equals signs.Star = Some signs.StarAssign
with_equals signs.Slash = Some signs.SlashAssign
with_equals signs.Percent = Some signs.PercentAssign
with_equals s = None

abbrev pub doubled : ℕ → Option Sign
doubled c =
    if c == 43 then Some signs.PlusPlus
    else (if c == 45 then Some signs.MinusMinus
    else (if c == 38 then Some signs.AndAnd
    else (if c == 124 then Some signs.OrOr
    else None)))

abbrev pub pair : Sign → ℕ → ℕ → Option Sign
pair s c d = if d == 61 then with_equals s else (if c == d then doubled c else None)

abbrev pub or_alone : Sign → List ℕ → Option Sign → Piece × List ℕ
or_alone s cs None = (sign s, cs)
or_alone s cs (Some t) = (sign t, drop 1 cs)

abbrev pub longest : Sign → ℕ → List ℕ → Piece × List ℕ
longest s c [] = (sign s, [])
longest s c (d ∷ ds) = or_alone s (d ∷ ds) (pair s c d)

abbrev pub sign_from : ℕ → List ℕ → Option Sign → Front
sign_from c cs None = Err (causes.BadByte, 0)
sign_from c cs (Some s) = Ok (longest s c cs)

abbrev pub sign_at : ℕ → List ℕ → Front
sign_at c cs = sign_from c cs (single c)

-- what begins with "/"
abbrev pub slash_at : List ℕ → Front
slash_at [] = sign_at 47 []
slash_at (d ∷ ds) = if d == 47 then line_at ds else (if d == 42 then closed_block ds (close_at ds) else sign_at 47 (d ∷ ds))

abbrev pub the_word : List ℕ → Piece × List ℕ
the_word bytes = (word (take (span is_word_byte bytes) bytes), drop (span is_word_byte bytes) bytes)

abbrev pub front_at : List ℕ → Front
front_at [] = Err (causes.BadByte, 0)
front_at (c ∷ cs) =
    if is_blank c then Ok (blank c, cs)
    else (if is_word_start c then Ok (the_word (c ∷ cs))
    else (if is_ascii_digit c then number_at (c ∷ cs)
    else (if c == 34 then text_at cs
    else (if c == 47 then slash_at cs
    else sign_at c cs))))

-- ---- what the code is told

abbrev pub kind_of : Piece → PieceKind
kind_of (blank c) = kinds.Gap
kind_of (line body) = kinds.Gap
kind_of (block body) = kinds.Gap
kind_of (word name) = kinds.Word
kind_of (number n) = kinds.Number n
kind_of (text body) = kinds.Text
kind_of (sign s) = kinds.Sign s

-- a piece by its kind and its length
abbrev pub shows : Piece × List ℕ → FrontPiece
shows x = record { kind = kind_of x.0; len = length (spell x.0) }

abbrev pub shown : Front → Result FrontPiece Stop
shown (Ok x) = Ok (shows x)
shown (Err e) = Err (record { cause = e.0; at = e.1 })

-- a comment of this length, or the escape of Unicode in it
abbrev pub comment_shown : ℕ → Option ℕ → Result FrontPiece Stop
comment_shown len None = Ok (record { kind = kinds.Gap; len = len })
comment_shown len (Some n) = Err (record { cause = causes.BadByte; at = n + 1 })

-- what stands between the first byte and the last
abbrev pub inner : List ℕ → List ℕ
inner bytes = take (length bytes - 2) (drop 1 bytes)

-- what the text between quotes means
abbrev pub meaning : List ℕ → List ℕ
meaning body = map meant (characters false body)

-- whether the text of a piece of this kind can be kept
abbrev pub IsReadable : PieceKind → List ℕ → Type 0
IsReadable kinds.Gap bytes = Unit {0}
IsReadable kinds.Word bytes = IsAscii bytes
IsReadable (kinds.Number n) bytes = Unit {0}
IsReadable kinds.Text bytes = (2 ≤ length bytes) × IsUtf8 (meaning (inner bytes))
IsReadable (kinds.Sign s) bytes = Unit {0}

-- the token that a piece of this kind is that is spelled so
abbrev pub tokens_shown : Place → PieceKind → List ℕ → List Token
tokens_shown place kinds.Gap bytes = []
tokens_shown place kinds.Word bytes = tokens.word place bytes ∷ []
tokens_shown place (kinds.Number n) bytes = tokens.number place n ∷ []
tokens_shown place kinds.Text bytes = tokens.quoted place (meaning (inner bytes)) ∷ []
tokens_shown place (kinds.Sign s) bytes = tokens.sign place s ∷ []
