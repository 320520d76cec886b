-- Tokens of typestate files, as definitions speak of them, and which tokens the bytes of a file are.
use Rattle.std.specs.Prelude.{ℕ, List, [], ◌∷◌, map, Option, Some, None, false, if◌then◌else◌, ◌==◌, codes}
use Rattle.std.specs.Str.{bytes_eq}
use Rattle.mg_text.specs.Call.{Name}
use Rattle.mg_text.specs.declared.place.Place.{Place}
use Rattle.mg_read.specs.Pieces.{Table, Content, worded, texted, signed, HasTokens, IsBadAt as IsBadIn}
use Rattle.ts_parse.specs.declared.token.Mark.{Mark}
use Rattle.ts_parse.specs.declared.token.Mark.TheVariants as marks
use Rattle.ts_parse.specs.declared.token.TokenKind.{TokenKind}
use Rattle.ts_parse.specs.declared.token.TokenKind.TheVariants as kinds
use Rattle.ts_parse.specs.declared.token.Token.{Token}

-- a token at a place: a name, or a reserved word or sign
pub data Tok : Type 0 where
  named : Place → Name → Tok
  marked : Place → Mark → Tok

abbrev pub tok_at : Place → TokenKind → Tok
tok_at place (kinds.Name text) = named place text
tok_at place (kinds.Mark mark) = marked place mark

abbrev pub tok : Token → Tok
tok token = tok_at token.place token.kind

abbrev pub toks : List Token → List Tok
toks tokens = map tok tokens

-- the mark that a word is, if it is reserved
abbrev pub reserved : Name → Option Mark
reserved text =
    if bytes_eq text (codes "typestate") then Some marks.Typestate
    else (if bytes_eq text (codes "package") then Some marks.Package
    else (if bytes_eq text (codes "import") then Some marks.Import
    else None))

abbrev pub sign_of : ℕ → Option Mark
sign_of c =
    if c == 123 then Some marks.OpenBrace
    else (if c == 125 then Some marks.CloseBrace
    else (if c == 40 then Some marks.OpenParen
    else (if c == 41 then Some marks.CloseParen
    else (if c == 60 then Some marks.Less
    else (if c == 62 then Some marks.Greater
    else (if c == 61 then Some marks.Equals
    else (if c == 44 then Some marks.Comma
    else (if c == 58 then Some marks.Colon
    else (if c == 59 then Some marks.Semicolon
    else (if c == 46 then Some marks.Dot
    else (if c == 42 then Some marks.Star
    else None)))))))))))

-- the signs of typestate files, which have no texts between quotes
abbrev pub typestates : Table
typestates = record { signs = codes "{}()<>=,:;.*"; has_texts = false }

-- a word is a name, or the mark that it is reserved for
abbrev pub word_tok : Place → Name → Option Mark → Tok
word_tok place text (Some mark) = marked place mark
word_tok place text None = named place text

abbrev pub sign_toks : Place → Option Mark → List Tok
sign_toks place (Some mark) = marked place mark ∷ []
sign_toks place None = []

-- the token that stands at a place, as the bytes there say
abbrev pub tok_said : Place → Content → List Tok
tok_said place (worded text) = word_tok place text (reserved text) ∷ []
tok_said place (texted body) = []
tok_said place (signed c) = sign_toks place (sign_of c)

-- These are the tokens of the bytes of a file, which are UTF-8 and cut whole.
abbrev pub AreTokens : ℕ → List Tok → List ℕ → Type 0
AreTokens = HasTokens typestates tok_said

-- This is the first offset at which no piece begins, or where the bytes stop to be UTF-8.
abbrev pub IsBadAt : ℕ → List ℕ → Type 0
IsBadAt k bytes = IsBadIn typestates bytes k
