-- When each conversation of a global protocol can be brought to an end.
use Rattle.std.specs.Prelude.{◌⊎◌, List}
use Rattle.mg_text.specs.Call.{Name}
use Rattle.scr_global.specs.Global.{Global, Nothing, Says, Choice, Rec, Continue, Branches, NoBranch, Branch}
use Rattle.scr_global.specs.Validity.{IsValid}
use Rattle.scr_faithful.specs.Faithful.{CanEnd}

abbrev mutual
  -- the end of the statements can be reached
  pub Falls : Global → Type 0
  Falls Nothing = Unit {0}
  Falls (Says m rest) = Falls rest
  Falls (Choice at branches rest) = SomeFalls branches × Falls rest
  Falls (Rec name body rest) = Falls body × Falls rest
  Falls (Continue name rest) = ⊥

  pub SomeFalls : Branches → Type 0
  SomeFalls NoBranch = ⊥
  SomeFalls (Branch b more) = Falls b ⊎ SomeFalls more

abbrev mutual
  -- the end of the body of each rec can be reached
  pub CanBeLeft : Global → Type 0
  CanBeLeft Nothing = Unit {0}
  CanBeLeft (Says m rest) = CanBeLeft rest
  CanBeLeft (Choice at branches rest) = CanBeLeftIn branches × CanBeLeft rest
  CanBeLeft (Rec name body rest) = Falls body × CanBeLeft body × CanBeLeft rest
  CanBeLeft (Continue name rest) = CanBeLeft rest

  pub CanBeLeftIn : Branches → Type 0
  CanBeLeftIn NoBranch = Unit {0}
  CanBeLeftIn (Branch b more) = CanBeLeft b × CanBeLeftIn more

-- where each rec can be left, each conversation can be brought to an end
abbrev pub LeftCanEnd : Type 0
LeftCanEnd = (roles : List Name) (g : Global) → IsValid roles g → CanBeLeft g → CanEnd g
