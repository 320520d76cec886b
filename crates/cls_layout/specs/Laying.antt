-- What laying out one part does to a layout. The parts that are due stand in a stack, whose last is next.
use Rattle.std.specs.Prelude.{◌≡◌, ℕ, ◌+◌, ◌≤◌, List, [], ◌∷◌, ◌++◌, reverse, length, Bool, true, false, Result, Ok, Err}
use Rattle.cls_layout.specs.declared.format.Part.{Part}
use Rattle.cls_layout.specs.declared.format.Field.{Field}
use Rattle.cls_layout.specs.declared.format.Layout.{Layout}
use Rattle.cls_layout.specs.Parts.{size, whole}
use Rattle.cls_layout.specs.Row.{stops, entered, due_behind}

abbrev pub field : ℕ → Part → Field
field at part = record { at = at; part = part }

-- One field more was laid out.
pub record Went (bytes : List ℕ) (part : Part) (old new : Layout) : Type 0 where
  pub row : new.row.items ≡ old.row.items ++ field old.at part ∷ []
  pub goes_on : stops bytes old.places.items (field old.at part) ≡ false
  pub places : new.places.items ≡ entered part old.at old.places.items
  pub at : new.at ≡ old.at + size part
  pub due : reverse new.due.items ≡ due_behind bytes old.places.items (field old.at part) ++ reverse old.due.items
  pub within : new.at ≤ length bytes

-- One field more was laid out, and it ends the row.
pub record Stopped (bytes : List ℕ) (part : Part) (old new : Layout) : Type 0 where
  pub row : new.row.items ≡ old.row.items ++ field old.at part ∷ []
  pub ends : stops bytes old.places.items (field old.at part) ≡ true
  pub places : new.places.items ≡ old.places.items

abbrev pub Laid : {E : Type 0} → List ℕ → Part → Layout → Layout → Result Bool E → Type 0
Laid bytes part old new (Ok true) = Went bytes part old new
Laid bytes part old new (Ok false) = Stopped bytes part old new
Laid bytes part old new (Err e) = Unit {0}

-- nothing is laid out, and a class file is due
pub record Empty (l : Layout) : Type 0 where
  pub row : l.row.items ≡ []
  pub at : l.at ≡ 0
  pub places : l.places.items ≡ []
  pub due : reverse l.due.items ≡ whole
