-- What is seen at each place, as the code keeps it: where nothing is kept, no element is seen.
use Rattle.std.specs.Prelude.{◌≡◌, List, [], Option, Some, None, if◌then◌else◌}
use Rattle.mg_text.specs.declared.place.Place.{Place}
use Rattle.use_rules.specs.Elements.{Set, union}
use Rattle.use_rules.specs.State.{Sight}
use Rattle.use_sights.specs.Sights.{same_place, sights_at, together}
use Rattle.mg_shown.specs.declared.seen.PlaceKey.{PlaceKey}

abbrev pub key_of : Place → PlaceKey
key_of q = record { file = q.file; line = q.line; column = q.column }

abbrev pub set_or_none : Option Set → Set
set_or_none None = []
set_or_none (Some s) = s

-- what is kept of a place
abbrev pub at_place : (PlaceKey → Option Set) → Place → Set
at_place find q = set_or_none (find (key_of q))

-- it is what these sights have there
pub record AreSeen (sights : List Sight) (find : PlaceKey → Option Set) : Type 0 where
  pub each : (q : Place) → at_place find q ≡ together (sights_at q sights)

-- one sight more
pub record IsSeen (s : Sight) (old new : PlaceKey → Option Set) : Type 0 where
  pub each : (q : Place) → at_place new q ≡ (if same_place q s.place then union (at_place old q) s.set else at_place old q)
