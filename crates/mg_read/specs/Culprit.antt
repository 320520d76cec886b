-- What is at fault in a file: a place, and a name, which is empty where nothing is named.
use Rattle.mg_text.specs.Call.{Name}
use Rattle.mg_text.specs.declared.place.Place.{Place}

pub data Culprit : Type 0 where
  culprit : Place → Name → Culprit
