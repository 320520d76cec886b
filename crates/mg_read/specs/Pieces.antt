-- How the bytes of a file are cut into pieces, and which tokens the pieces are.
use Rattle.std.specs.Prelude.{◌≡◌, ℕ, ◌+◌, ◌<◌, ◌≤◌, List, [], ◌∷◌, ◌++◌, length, Option, Some, None, ◌==◌, Bool, true}
use Rattle.std.specs.List.{list_any}
use Rattle.std.specs.Str.{IsUtf8, IsValidUpTo}
use Rattle.mg_text.specs.Call.{Name}
use Rattle.mg_text.specs.Places.{start_of, place_after}
use Rattle.mg_text.specs.declared.place.Place.{Place}
use Rattle.mg_read.specs.Letters.{is_blank, is_name_start, is_name_byte, is_quotable, not_line_end}
use Rattle.mg_read.specs.Passes.{AllPasses, StopsAt, StartsWith}

-- What a language brings: the bytes that are its signs, and whether it has texts between quotes. Names, blanks and comments are the same in
-- all.
pub record Table : Type 0 where
  pub signs : List ℕ
  pub has_texts : Bool

abbrev pub is_sign : List ℕ → ℕ → Bool
is_sign signs c = list_any (λ s. s == c) signs

-- A file is a row of pieces: what separates tokens, comments to the line's end and between "/*" and "*/", words, texts between quotes, and
-- signs.
pub data Piece : Type 0 where
  blank : ℕ → Piece
  line : List ℕ → Piece
  block : List ℕ → Piece
  word : Name → Piece
  quote : List ℕ → Piece
  sign : ℕ → Piece

abbrev pub spell : Piece → List ℕ
spell (blank c) = c ∷ []
spell (line body) = 47 ∷ 47 ∷ body
spell (block body) = 47 ∷ 42 ∷ (body ++ 42 ∷ 47 ∷ [])
spell (word text) = text
spell (quote body) = 34 ∷ (body ++ 34 ∷ [])
spell (sign c) = c ∷ []

-- the body of a comment, behind which the first "*/" follows
abbrev pub HasNoClose : List ℕ → Type 0
HasNoClose body = (u v : List ℕ) → body ++ 42 ∷ [] ≡ u ++ 42 ∷ 47 ∷ v → ⊥

-- Whether the piece may stand in front of rest. A comment runs to the end of its line, or to the first "*/". A word is as long as it can
-- be, and of at most 255 bytes.
abbrev pub MayStand : Table → Piece → List ℕ → Type 0
MayStand t (blank c) rest = is_blank c ≡ true
MayStand t (line body) rest = AllPasses not_line_end body × StopsAt not_line_end rest
MayStand t (block body) rest = HasNoClose body
MayStand t (word text) rest = StartsWith is_name_start text × AllPasses is_name_byte text × StopsAt is_name_byte rest × (length text ≤ 255)
MayStand t (quote body) rest = (t.has_texts ≡ true) × AllPasses is_quotable body
MayStand t (sign c) rest = is_sign t.signs c ≡ true

-- bytes are these pieces, and then rest
abbrev pub Cut : Table → List Piece → List ℕ → List ℕ → Type 0
Cut t [] bytes rest = bytes ≡ rest
Cut t (p ∷ ps) bytes rest = (after : List ℕ) × (bytes ≡ spell p ++ after) × MayStand t p after × Cut t ps after rest

-- what a piece says, if it is no gap between tokens
pub data Content : Type 0 where
  worded : Name → Content
  texted : List ℕ → Content
  signed : ℕ → Content

abbrev pub content_of : Piece → Option Content
content_of (blank c) = None
content_of (line body) = None
content_of (block body) = None
content_of (word text) = Some (worded text)
content_of (quote body) = Some (texted body)
content_of (sign c) = Some (signed c)

-- the tokens of a content at a place, if there is one
abbrev pub tokens_of : {T : Type 0} → (Place → Content → List T) → Place → Option Content → List T
tokens_of of place None = []
tokens_of of place (Some content) = of place content

-- the tokens among the pieces, the first of which stands at place
abbrev pub tokens_from : {T : Type 0} → (Place → Content → List T) → Place → List Piece → List T
tokens_from of place [] = []
tokens_from of place (p ∷ ps) = tokens_of of place (content_of p) ++ tokens_from of (place_after place (spell p)) ps

-- These are the tokens of the bytes of a file, where a content at a place is the tokens that `of` says.
pub record HasTokens {T : Type 0} (t : Table) (of : Place → Content → List T) (file : ℕ) (ts : List T) (bytes : List ℕ) : Type 0 where
  pub pieces : List Piece
  pub cut : Cut t pieces bytes []
  pub utf8 : IsUtf8 bytes
  pub tokens : ts ≡ tokens_from of (start_of file) pieces

-- up to this offset the bytes are pieces, and none stands there
pub record IsUncutAt (t : Table) (bytes : List ℕ) (k : ℕ) : Type 0 where
  pub pieces : List Piece
  pub rest : List ℕ
  pub cut : Cut t pieces bytes rest
  pub long : 0 < length rest
  pub here : k + length rest ≡ length bytes
  pub uncut : (p : Piece) (after : List ℕ) → rest ≡ spell p ++ after → MayStand t p after → ⊥

-- at this offset no piece begins, or the first sequence that is no UTF-8
pub data IsBad (t : Table) (bytes : List ℕ) (k : ℕ) : Type 0 where
  no_piece : IsUncutAt t bytes k → IsBad t bytes k
  ill_formed : IsValidUpTo bytes k → IsBad t bytes k

-- the first such offset
pub record IsBadAt (t : Table) (bytes : List ℕ) (k : ℕ) : Type 0 where
  pub bad : IsBad t bytes k
  pub first : (j : ℕ) → IsBad t bytes j → k ≤ j
