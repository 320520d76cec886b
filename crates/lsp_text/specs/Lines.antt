-- Lines as the protocol has them: each ends with a line feed, a carriage return, or both in this order.
use Rattle.std.specs.Prelude.{◌≡◌, ℕ, zero, suc, List, [], ◌∷◌, ◌++◌, Bool, true, false, ◌==◌, ◌||◌, ⊤}
use Rattle.std.specs.Str.{NonePass}

-- a byte of a line's end
abbrev pub is_line_end : ℕ → Bool
is_line_end b = b == 10 || b == 13

pub data End : Type 0 where
  feed : End
  carriage : End
  both : End

abbrev pub spell : End → List ℕ
spell feed = 10 ∷ []
spell carriage = 13 ∷ []
spell both = 13 ∷ 10 ∷ []

-- no line feed stands in front
abbrev pub HasNoFeed : List ℕ → Type 0
HasNoFeed [] = ⊤
HasNoFeed (b ∷ bs) = (b == 10) ≡ false

-- a carriage return alone is an end where no line feed follows it
abbrev pub MayStand : End → List ℕ → Type 0
MayStand feed after = ⊤
MayStand carriage after = HasNoFeed after
MayStand both after = ⊤

-- the text begins with this line and its end, and behind them stands after
pub record IsFirstLine (text line after : List ℕ) : Type 0 where
  pub ending : End
  pub spells : text ≡ line ++ (spell ending ++ after)
  pub plain : NonePass is_line_end line
  pub stands : MayStand ending after

-- behind so many lines of the text stands rest
abbrev pub IsBehind : ℕ → List ℕ → List ℕ → Type 0
IsBehind zero text rest = text ≡ rest
IsBehind (suc n) text rest = (line : List ℕ) × (after : List ℕ) × IsFirstLine text line after × IsBehind n after rest

-- the bytes begin with a line's end, or are none
abbrev pub StopsLine : List ℕ → Type 0
StopsLine [] = ⊤
StopsLine (b ∷ bs) = is_line_end b ≡ true

-- this is the text up to its first line end, or to its own end
pub record IsLineOf (text line : List ℕ) : Type 0 where
  pub more : List ℕ
  pub spells : text ≡ line ++ more
  pub plain : NonePass is_line_end line
  pub stops : StopsLine more
