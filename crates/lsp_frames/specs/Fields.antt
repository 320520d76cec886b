-- Fields of a head, and what each says.
use Rattle.std.specs.Prelude.{◌≡◌, ℕ, ◌<◌, ◌≤◌, List, [], ◌∷◌, ◌++◌, length, Bool, ◌==◌, codes, map, ⊤}
use Rattle.std.specs.Char.{to_ascii_lowercase}
use Rattle.std.specs.Str.{NonePass, IsTrimAscii}
use Rattle.std.specs.Str.Parse.{IsNumeral, digits_value}
use Rattle.lsp_frames.specs.declared.lines.Said.{Said}
use Rattle.lsp_frames.specs.declared.lines.Said.TheVariants.{Empty, NoColon, Other, BadLength, Long}

abbrev pub is_feed : ℕ → Bool
is_feed b = b == 10

abbrev pub is_colon : ℕ → Bool
is_colon b = b == 58

-- a name, and a value behind the first colon
pub record IsField (line name value : List ℕ) : Type 0 where
  pub spells : line ≡ name ++ 58 ∷ value
  pub plain : NonePass is_colon name

-- the name of the field that tells how long the body is, whether its letters are small or capital
abbrev pub IsLengthName : List ℕ → Type 0
IsLengthName name = map to_ascii_lowercase name ≡ codes "content-length"

-- between white space the value is digits, and they write this number, which is within the limit
pub record Numbers (limit : ℕ) (value : List ℕ) (n : ℕ) : Type 0 where
  pub digits : List ℕ
  pub trimmed : IsTrimAscii value digits
  pub numeral : IsNumeral 10 digits
  pub number : n ≡ digits_value 10 digits
  pub within : n ≤ limit

-- what a line says: nothing, for it is empty; nothing, for it has no colon; something else than a length; a length that is no number
-- within the limit; or a length
abbrev pub IsSaid : ℕ → List ℕ → Said → Type 0
IsSaid limit line Empty = line ≡ []
IsSaid limit line NoColon = (0 < length line) × NonePass is_colon line
IsSaid limit line Other = (name : List ℕ) × (value : List ℕ) × IsField line name value × ¬ IsLengthName name
IsSaid limit line BadLength =
    (name : List ℕ) × (value : List ℕ) × IsField line name value × IsLengthName name × ((n : ℕ) → ¬ Numbers limit value n)
IsSaid limit line (Long n) = (name : List ℕ) × (value : List ℕ) × IsField line name value × IsLengthName name × Numbers limit value n

-- a line of a head, and what it says
pub record Field : Type 0 where
  pub line : List ℕ
  pub said : Said

-- what stands before the head's end says something
abbrev pub SaysSomething : Said → Type 0
SaysSomething Empty = ⊥
SaysSomething NoColon = ⊥
SaysSomething Other = ⊤
SaysSomething BadLength = ⊥
SaysSomething (Long n) = ⊤

-- each line has no line feed and says what stands beside it
abbrev pub AreFields : ℕ → List Field → Type 0
AreFields limit [] = ⊤
AreFields limit (f ∷ fs) = NonePass is_feed f.line × IsSaid limit f.line f.said × SaysSomething f.said × AreFields limit fs

-- each line ends with a carriage return and a line feed
abbrev pub spell : List Field → List ℕ
spell [] = []
spell (f ∷ fs) = f.line ++ (13 ∷ 10 ∷ spell fs)

abbrev pub told : Said → List ℕ
told Empty = []
told NoColon = []
told Other = []
told BadLength = []
told (Long n) = n ∷ []

-- the lengths that are told
abbrev pub lengths : List Field → List ℕ
lengths [] = []
lengths (f ∷ fs) = told f.said ++ lengths fs
