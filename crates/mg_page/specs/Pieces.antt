-- Words and files in bytes: pieces one behind another, each behind its length.
use Rattle.std.specs.Prelude.{◌≡◌, ◌≤◌, ◌<◌, ◌^◌, ℕ, List, [], ◌∷◌, ◌++◌, length, drop}
use Rattle.std.specs.List.{flat_map}
use Rattle.std.specs.Str.{IsUtf8}
use Rattle.byteorder.specs.Endian.{big_number, big_bytes}
use Rattle.mg_page.specs.Told.{Told}

-- The bytes begin with a piece: its length in four bytes, the highest first, and its own bytes. The rest stands behind it.
pub record IsPiece (bytes piece rest : List ℕ) : Type 0 where
  pub long : 4 ≤ length bytes
  pub count : big_number 4 bytes ≡ length piece
  pub parts : drop 4 bytes ≡ piece ++ rest

-- the bytes begin with a piece that is a text
pub record IsText (bytes text rest : List ℕ) : Type 0 where
  pub piece : IsPiece bytes text rest
  pub utf8 : IsUtf8 text

-- The bytes begin with a file: its name, which is a text, and then what it holds. The rest stands behind both.
pub record IsFile (bytes : List ℕ) (file : Told) (rest : List ℕ) : Type 0 where
  pub middle : List ℕ
  pub name : IsPiece bytes file.name middle
  pub content : IsPiece middle file.content rest
  pub utf8 : IsUtf8 file.name

-- the bytes are these, one behind another, where one and the rest behind it are told by the relation
abbrev pub AreAll : {X : Type 0} → (List ℕ → X → List ℕ → Type 0) → List ℕ → List X → Type 0
AreAll begins bytes [] = bytes ≡ []
AreAll begins bytes (x ∷ xs) = (rest : List ℕ) × begins bytes x rest × AreAll begins rest xs

-- the bytes begin with nothing that the relation tells
abbrev pub BeginWithNone : {X : Type 0} → (List ℕ → X → List ℕ → Type 0) → List ℕ → Type 0
BeginWithNone {X} begins bytes = (x : X) (rest : List ℕ) → begins bytes x rest → ⊥

-- the bytes aren't such things one behind another
abbrev pub AreNone : {X : Type 0} → (List ℕ → X → List ℕ → Type 0) → List ℕ → Type 0
AreNone {X} begins bytes = (xs : List X) → AreAll begins bytes xs → ⊥

-- a piece behind its length
abbrev pub piece_bytes : List ℕ → List ℕ
piece_bytes piece = big_bytes 4 (length piece) ++ piece

-- pieces one behind another
abbrev pub pieces_bytes : List (List ℕ) → List ℕ
pieces_bytes pieces = flat_map piece_bytes pieces

-- a file: its name, and then what it holds
abbrev pub file_bytes : Told → List ℕ
file_bytes file = piece_bytes file.name ++ piece_bytes file.content

-- files one behind another
abbrev pub files_bytes : List Told → List ℕ
files_bytes files = flat_map file_bytes files

-- a text whose length four bytes hold, and a file whose parts have such lengths
pub record IsShort (text : List ℕ) : Type 0 where
  pub short : length text < 2 ^ 32
  pub utf8 : IsUtf8 text

pub record IsShortFile (file : Told) : Type 0 where
  pub name : IsShort file.name
  pub content : length file.content < 2 ^ 32

-- it holds of each
abbrev pub Each : {X : Type 0} → (X → Type 0) → List X → Type 0
Each P [] = Unit {0}
Each P (x ∷ xs) = P x × Each P xs
