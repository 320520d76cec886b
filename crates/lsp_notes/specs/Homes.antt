-- In which file a refusal is told, and where there.
use Rattle.std.specs.Prelude.{ℕ, List, filter, nat_eq, nat_lt, if◌then◌else◌}
use Rattle.mg_text.specs.Places.{start_of}
use Rattle.mg_text.specs.declared.place.Place.{Place}
use Rattle.mg_refusal.specs.Refusals.{Refusal}
use Rattle.mg_refusal.specs.declared.refusal.Spot.{Spot}
use Rattle.mg_refusal.specs.declared.refusal.Spot.TheVariants as spots

-- what stands at no place of a text is told where the first file begins
abbrev pub place_of : Spot → Place
place_of (spots.Text place) = place
place_of spots.Nowhere = start_of 0
place_of (spots.Bytes file offset) = start_of 0

-- and so is what stands in none of so many files
abbrev pub place_among : (count : ℕ) → Place → Place
place_among count place = if nat_lt place.file count then place else start_of 0

-- where a refusal is told, of so many files
abbrev pub place_in : (count : ℕ) → Refusal → Place
place_in count r = place_among count (place_of r.spot)

-- the refusals that are told in a file, in their order
abbrev pub told_in : (count file : ℕ) → List Refusal → List Refusal
told_in count file rs = filter (λ r. nat_eq (place_in count r).file file) rs
