-- The places of a text at which conditions are judged, in the order of the text, each with the way to it.
use Rattle.std.specs.Prelude.{List, [], ◌∷◌, ◌++◌, map, Option, Some, None}
use Rattle.mg_text.specs.Call.{Name}
use Rattle.mg_text.specs.declared.place.Place.{Place}
use Rattle.scr_tree.specs.Tree.{Statements, Nothing, Says, Choice, Rec, Continue, Do, Branches, NoBranch, Branch}

-- what lies on the way to a statement
pub data Passage : Type 0 where
  -- a statement in front of it, in the same list
  Past : Statements → Passage
  -- the opening of a rec
  Opens : (name : Name) → Passage
  -- the opening of a branch, of a choice made at a role, behind earlier branches, the nearest first
  Enters : (at : Name) → (earlier : List Statements) → Passage

-- the way from the start of the text, the nearest first
abbrev pub Way : Type 0
Way = List Passage

-- a statement, with the way to it and with those that stand behind it
pub data Spot : Type 0 where
  spot : Way → Statements → Spot

abbrev mutual
  -- the statements, in the order of the text
  pub spots : Way → Statements → List Spot
  spots way Nothing = []
  spots way (Says m rest) = spot way (Says m rest) ∷ spots (Past (Says m Nothing) ∷ way) rest
  spots way (Choice p at branches rest) =
      spot way (Choice p at branches rest) ∷ (branch_spots way at [] branches ++ spots (Past (Choice p at branches Nothing) ∷ way) rest)
  spots way (Rec p name body rest) =
      spot way (Rec p name body rest) ∷ (spots (Opens name ∷ way) body ++ spots (Past (Rec p name body Nothing) ∷ way) rest)
  spots way (Continue p name rest) = spot way (Continue p name rest) ∷ spots (Past (Continue p name Nothing) ∷ way) rest
  spots way (Do p name rest) = spot way (Do p name rest) ∷ spots (Past (Do p name Nothing) ∷ way) rest

  pub branch_spots : Way → Name → List Statements → Branches → List Spot
  branch_spots way at earlier NoBranch = []
  branch_spots way at earlier (Branch b more) = spots (Enters at earlier ∷ way) b ++ branch_spots way at (b ∷ earlier) more

-- the statements of protocols, one protocol after another
abbrev pub all_spots : List Statements → List Spot
all_spots [] = []
all_spots (body ∷ bodies) = spots [] body ++ all_spots bodies

-- what several hold, one after another, each with what it is held by
abbrev pub each_of : {P X : Type 0} → (P → List X) → List P → List (P × X)
each_of f [] = []
each_of f (p ∷ ps) = map (λ x. (p, x)) (f p) ++ each_of f ps

-- the statements of protocols, each with its protocol
abbrev pub spots_of : {P : Type 0} → (P → Statements) → List P → List (P × Spot)
spots_of body = each_of (λ p. spots [] (body p))

-- where a list of statements begins
abbrev pub head_place : Statements → Option Place
head_place Nothing = None
head_place (Says m rest) = Some m.place
head_place (Choice place at branches rest) = Some place
head_place (Rec place name body rest) = Some place
head_place (Continue place name rest) = Some place
head_place (Do place name rest) = Some place
