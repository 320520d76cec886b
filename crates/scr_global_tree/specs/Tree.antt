-- The tree of a global protocol: its parts, beside the statements of `scr_global`.
use Rattle.std.specs.Prelude.{ℕ, List}
use Rattle.mg_text.specs.Call.{Name}
use Rattle.mg_text.specs.declared.place.Place.{Place}
use Rattle.scr_global.specs.Tree.{Statements}

-- a global protocol: the number of its file, its name, its roles, the places of their names in the header, and what they do
pub record GlobalTree : Type 0 where
  pub file : ℕ
  pub name : Name
  pub roles : List Name
  pub places : List Place
  pub body : Statements
