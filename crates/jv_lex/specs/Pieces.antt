-- How the bytes of a Java source are cut into pieces, and which tokens the pieces are.
use Rattle.std.specs.Prelude.{◌≡◌, ℕ, ◌≤◌, List, [], ◌∷◌, ◌++◌, map, true}
use Rattle.std.specs.List.{AllByRecursion}
use Rattle.std.specs.Fmt.{decimal}
use Rattle.std.specs.Str.{IsUtf8}
use Rattle.mg_text.specs.Call.{Name}
use Rattle.mg_text.specs.Places.{start_of, place_after}
use Rattle.mg_text.specs.declared.place.Place.{Place}
use Rattle.mg_read.specs.Passes.{AllPasses, StopsAt, StartsWith}
use Rattle.mg_read.specs.Pieces.{HasNoClose}
use Rattle.jv_tree.specs.declared.token.Sign.{Sign}
use Rattle.jv_tree.specs.declared.token.Token.{Token}
use Rattle.jv_tree.specs.Tokens as tokens
use Rattle.jv_lex.specs.Letters.{is_blank, is_word_start, is_word_byte, is_number_tail, is_in_line}
use Rattle.jv_lex.specs.Comments.{HasNoUnicode}
use Rattle.jv_lex.specs.Signs.{written, goes_on}
use Rattle.jv_lex.specs.Written.{Written, spelled, meant, IsCharacter}

-- A source is a row of pieces: what separates tokens, comments to the line's end and between "/*" and "*/", words, numbers, texts between
-- quotes, and signs.
pub data Piece : Type 0 where
  blank : ℕ → Piece
  line : List ℕ → Piece
  block : List ℕ → Piece
  word : Name → Piece
  number : ℕ → Piece
  text : List Written → Piece
  sign : Sign → Piece

-- a number is written in decimal, with no zero in front
abbrev pub spell : Piece → List ℕ
spell (blank c) = c ∷ []
spell (line body) = 47 ∷ 47 ∷ body
spell (block body) = 47 ∷ 42 ∷ (body ++ 42 ∷ 47 ∷ [])
spell (word name) = name
spell (number n) = decimal n
spell (text body) = 34 ∷ (spelled body ++ 34 ∷ [])
spell (sign s) = written s

-- Whether the piece may stand in front of rest. A comment runs to the end of its line, or to the first "*/", and no escape of Unicode
-- begins in it. A word, a number and a sign are as long as they can be.
abbrev pub MayStand : Piece → List ℕ → Type 0
MayStand (blank c) rest = is_blank c ≡ true
MayStand (line body) rest = AllPasses is_in_line body × StopsAt is_in_line rest × HasNoUnicode body
MayStand (block body) rest = HasNoClose body × HasNoUnicode body
MayStand (word name) rest = StartsWith is_word_start name × AllPasses is_word_byte name × StopsAt is_word_byte rest
MayStand (number n) rest = (n ≤ 2147483648) × StopsAt is_number_tail rest
MayStand (text body) rest = AllByRecursion IsCharacter body
MayStand (sign s) rest = StopsAt (goes_on s) rest

-- bytes are these pieces, and then rest
abbrev pub Cut : List Piece → List ℕ → List ℕ → Type 0
Cut [] bytes rest = bytes ≡ rest
Cut (p ∷ ps) bytes rest = (after : List ℕ) × (bytes ≡ spell p ++ after) × MayStand p after × Cut ps after rest

-- the token that a piece at a place is, if it is no gap; a text's escapes are read
abbrev pub tokens_of : Place → Piece → List Token
tokens_of place (blank c) = []
tokens_of place (line body) = []
tokens_of place (block body) = []
tokens_of place (word name) = tokens.word place name ∷ []
tokens_of place (number n) = tokens.number place n ∷ []
tokens_of place (text body) = tokens.quoted place (map meant body) ∷ []
tokens_of place (sign s) = tokens.sign place s ∷ []

-- the tokens among the pieces, the first of which stands at place
abbrev pub tokens_from : Place → List Piece → List Token
tokens_from place [] = []
tokens_from place (p ∷ ps) = tokens_of place p ++ tokens_from (place_after place (spell p)) ps

-- these are the tokens of the bytes of a file, which are UTF-8 and cut whole
pub record AreTokens (file : ℕ) (ts : List Token) (bytes : List ℕ) : Type 0 where
  pub pieces : List Piece
  pub cut : Cut pieces bytes []
  pub utf8 : IsUtf8 bytes
  pub tokens : ts ≡ tokens_from (start_of file) pieces
