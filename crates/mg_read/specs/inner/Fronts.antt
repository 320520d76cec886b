-- The piece at the front of the bytes, and what follows it.
use Rattle.std.specs.Prelude.{ℕ, ◌+◌, ◌-◌, ◌≤◌, min, List, [], ◌∷◌, length, take, drop, Option, Some, None, option_map, if◌then◌else◌, ◌==◌}
use Rattle.std.specs.Prelude.{◌&&◌, nat_lt, Bool, false}
use Rattle.std.specs.Str.{IsAscii}
use Rattle.mg_read.specs.declared.front.PieceKind.{PieceKind}
use Rattle.mg_read.specs.declared.front.PieceKind.TheVariants as kinds
use Rattle.mg_read.specs.declared.front.FrontPiece.{FrontPiece}
use Rattle.mg_read.specs.Letters.{is_blank, is_name_start, is_name_byte, is_quotable, not_line_end}
use Rattle.mg_read.specs.Passes.{span}
use Rattle.mg_read.specs.Pieces.{Table, is_sign, Piece, blank, line, block, word, quote, sign, spell, Content, worded, texted, signed}
use Rattle.mg_read.specs.Reader.{◌>>=◌}

-- whether the bytes begin with "*/"
abbrev pub is_close : List ℕ → Bool
is_close [] = false
is_close (c ∷ []) = false
is_close (c ∷ d ∷ cs) = c == 42 && d == 47

-- where the first "*/" begins
abbrev pub close_at : List ℕ → Option ℕ
close_at [] = None
close_at (c ∷ cs) = if is_close (c ∷ cs) then Some 0 else option_map (λ n. n + 1) (close_at cs)

-- the comment whose first "/" stands before these bytes
abbrev pub comment_at : List ℕ → Option (Piece × List ℕ)
comment_at [] = None
comment_at (d ∷ ds) =
    if d == 47 then Some (line (take (span not_line_end ds) ds), drop (span not_line_end ds) ds)
    else (if d == 42 then (close_at ds >>= λ n. Some (block (take n ds), drop (n + 2) ds))
    else None)

-- the sign that a byte is
abbrev pub sign_at : List ℕ → ℕ → List ℕ → Option (Piece × List ℕ)
sign_at signs c cs = if is_sign signs c then Some (sign c, cs) else None

-- the word at the front, unless it is too long for a name
abbrev pub word_at : List ℕ → Option (Piece × List ℕ)
word_at bytes =
    if nat_lt 255 (span is_name_byte bytes) then None
    else Some (word (take (span is_name_byte bytes) bytes), drop (span is_name_byte bytes) bytes)

-- the quoted text of this body, if a quote follows
abbrev pub closed_quote : List ℕ → List ℕ → Option (Piece × List ℕ)
closed_quote body [] = None
closed_quote body (c ∷ cs) = if c == 34 then Some (quote body, cs) else None

-- the quoted text whose first quote stands before these bytes
abbrev pub quote_at : List ℕ → Option (Piece × List ℕ)
quote_at bytes = closed_quote (take (span is_quotable bytes) bytes) (drop (span is_quotable bytes) bytes)

-- the piece at the front, and what follows it
abbrev pub piece_at : Table → List ℕ → Option (Piece × List ℕ)
piece_at t [] = None
piece_at t (c ∷ cs) =
    if is_blank c then Some (blank c, cs)
    else (if is_name_start c then word_at (c ∷ cs)
    else (if c == 47 then comment_at cs
    else (if t.has_texts && c == 34 then quote_at cs
    else sign_at t.signs c cs)))

-- what the code is told of a piece
abbrev pub kind_of : Piece → PieceKind
kind_of (blank c) = kinds.Gap
kind_of (line body) = kinds.Gap
kind_of (block body) = kinds.Gap
kind_of (word text) = kinds.Word
kind_of (quote body) = kinds.Quote
kind_of (sign c) = kinds.Sign c

-- a piece by its kind and its length
abbrev pub shows : Piece × List ℕ → FrontPiece
shows x = record { kind = kind_of x.0; len = length (spell x.0) }

-- what stands between the first byte and the last
abbrev pub inner : List ℕ → List ℕ
inner text = take (length text - 2) (drop 1 text)

-- whether the text of a piece of this kind can be kept
abbrev pub IsReadable : PieceKind → List ℕ → Type 0
IsReadable kinds.Gap text = Unit {0}
IsReadable kinds.Word text = IsAscii text
IsReadable kinds.Quote text = (2 ≤ length text) × IsAscii text
IsReadable (kinds.Sign c) text = Unit {0}

-- what a piece of this kind says that is spelled so
abbrev pub content_shown : PieceKind → List ℕ → Option Content
content_shown kinds.Gap text = None
content_shown kinds.Word text = Some (worded text)
content_shown kinds.Quote text = Some (texted (inner text))
content_shown (kinds.Sign c) text = Some (signed c)

-- the first of an offset and, where there is one, another
abbrev pub first_of : ℕ → Option ℕ → ℕ
first_of offset None = offset
first_of offset (Some k) = min offset k
