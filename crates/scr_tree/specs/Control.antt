-- How control goes through statements.
use Rattle.std.specs.Prelude.{List, [], ◌∷◌, Bool, true, false, ◌&&◌, ◌||◌, IsTrue}
use Rattle.mg_text.specs.Call.{Name}
use Rattle.scr_tree.specs.Tree.{Statements, Nothing, Says, Choice, Rec, Continue, Do, Branches, NoBranch, Branch}
use Rattle.scr_tree.specs.Spots.{Way, Past, Opens, Enters}

abbrev mutual
  -- the end of the statements can be reached
  pub falls : Statements → Bool
  falls Nothing = true
  falls (Says m rest) = falls rest
  falls (Choice p at branches rest) = some_falls branches && falls rest
  falls (Rec p name body rest) = falls body && falls rest
  falls (Continue p name rest) = false
  falls (Do p name rest) = false

  pub some_falls : Branches → Bool
  some_falls NoBranch = false
  some_falls (Branch b more) = falls b || some_falls more

abbrev mutual
  -- the end of the statements can be reached with no message
  pub passes : Statements → Bool
  passes Nothing = true
  passes (Says m rest) = false
  passes (Choice p at branches rest) = some_passes branches && passes rest
  passes (Rec p name body rest) = passes body && passes rest
  passes (Continue p name rest) = false
  passes (Do p name rest) = false

  pub some_passes : Branches → Bool
  some_passes NoBranch = false
  some_passes (Branch b more) = passes b || some_passes more

-- control can come here from the opening of a rec of this name with no message on its path
pub data Quietly (name : Name) : Way → Type 0 where
  opened : {way : Way} → Quietly name (Opens name ∷ way)
  past : {s : Statements} {way : Way} → IsTrue (passes s) → Quietly name way → Quietly name (Past s ∷ way)
  opening : {other : Name} {way : Way} → Quietly name way → Quietly name (Opens other ∷ way)
  entering : {at : Name} {earlier : List Statements} {way : Way} → Quietly name way → Quietly name (Enters at earlier ∷ way)

-- control can come here from the opening of the protocol with no message on its path
pub data AtOnce : Way → Type 0 where
  starting : AtOnce []
  passing : {s : Statements} {way : Way} → IsTrue (passes s) → AtOnce way → AtOnce (Past s ∷ way)
  into_rec : {name : Name} {way : Way} → AtOnce way → AtOnce (Opens name ∷ way)
  into_branch : {at : Name} {earlier : List Statements} {way : Way} → AtOnce way → AtOnce (Enters at earlier ∷ way)
