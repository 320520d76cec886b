-- The states of a file's text, in its order: `State0` is the first.
use Rattle.std.specs.Prelude.{◌≡◌, ◌<◌, ℕ, List, [], ◌∷◌, ◌++◌, length, filter, Bool, true, false, not}
use Rattle.std.specs.Str.{bytes_eq}
use Rattle.mg_text.specs.Call.{Name}
use Rattle.mg_text.specs.Places.{start_of}
use Rattle.mg_read.specs.Culprit.{Culprit, culprit}
use Rattle.scr_tree.specs.Tree.{Statements, Says, Choice}
use Rattle.scr_tree.specs.Spots.{Spot, spot, spots, Way, Enters}

-- the first statement of a branch of a choice at self
abbrev pub begins : Name → Way → Bool
begins me (Enters at earlier ∷ way) = bytes_eq at me
begins me _ = false

-- one for each choice, one for each message that isn't the first of a branch of a choice at self
abbrev pub is_state : Name → Spot → Bool
is_state me (spot way (Choice place at branches rest)) = true
is_state me (spot way (Says m rest)) = not (begins me way)
is_state me _ = false

abbrev pub states : Name → Statements → List Spot
states me body = filter (is_state me) (spots [] body)

-- those of protocols, one after another, each of the role that it is of
abbrev pub all_states : {P : Type 0} → (P → Name) → (P → Statements) → List P → List Spot
all_states me body [] = []
all_states me body (p ∷ ps) = states (me p) (body p) ++ all_states me body ps

-- TooManyStates: more than 1,000 of them; the file is at fault
abbrev pub TooManyStates : ℕ → List Spot → Culprit → Type 0
TooManyStates file found c = (c ≡ culprit (start_of file) []) × (1000 < length found)
