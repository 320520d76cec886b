-- Refusals, and when two are alike.
use Rattle.std.specs.Prelude.{◌≡◌, ◌⊎◌, ℕ, [], ◌∷◌, codes, Option, Some, None}
use Rattle.mg_text.specs.Call.{Name}
use Rattle.mg_text.specs.declared.place.Place.{Place}
use Rattle.mg_refusal.specs.declared.refusal.Spot.{Spot}
use Rattle.mg_refusal.specs.declared.refusal.Spot.TheVariants as spots

-- its kind in a word, where it stands, and what is named, if anything is
pub record Refusal : Type 0 where
  pub kind : Name
  pub spot : Spot
  pub name : Option Name

-- an empty name names nothing
abbrev pub unless_empty : Name → Option Name
unless_empty [] = None
unless_empty (c ∷ cs) = Some (c ∷ cs)

abbrev pub name_or_none : Option Name → Name
name_or_none (Some name) = name
name_or_none None = []

-- at a place of a text, with a name that is empty where nothing is named
abbrev pub refusal_at : (kind : Name) → Place → (name : Name) → Refusal
refusal_at kind place name = record { kind = kind; spot = spots.Text place; name = unless_empty name }

-- at an offset of a class file
abbrev pub refusal_in_bytes : (kind : Name) (file offset : ℕ) → Refusal
refusal_in_bytes kind file offset = record { kind = kind; spot = spots.Bytes file offset; name = None }

-- in no file
abbrev pub refusal_nowhere : (kind name : Name) → Refusal
refusal_nowhere kind name = record { kind = kind; spot = spots.Nowhere; name = Some name }

abbrev pub spot_in : (file : ℕ) → Spot → Spot
spot_in file (spots.Text place) = spots.Text (record place { file = file })
spot_in file spots.Nowhere = spots.Nowhere
spot_in file (spots.Bytes other offset) = spots.Bytes other offset

-- the same at that place of the text of this number
abbrev pub in_file : (file : ℕ) → Refusal → Refusal
in_file file r = record r { spot = spot_in file r.spot }

-- two say Syntax, at places of one file that are left open
pub record SaySyntax (r q : Refusal) : Type 0 where
  pub first : Place
  pub second : Place
  pub one_file : first.file ≡ second.file
  pub says : r ≡ refusal_at (codes "Syntax") first []
  pub also : q ≡ refusal_at (codes "Syntax") second []

-- one refusal, but for the place of Syntax
abbrev pub AreAlike : Refusal → Refusal → Type 0
AreAlike r q = (r ≡ q) ⊎ SaySyntax r q
