-- Places of a file.
use Rattle.std.specs.Prelude.{◌≡◌, ◌≤◌, ℕ, List, length, take}
use Rattle.mg_text.specs.Places.{start_of, place_after}
use Rattle.mg_text.specs.declared.place.Place.{Place}

-- the place behind some of the bytes of a file
pub record IsWithin (file : ℕ) (bytes : List ℕ) (place : Place) : Type 0 where
  pub behind : ℕ
  pub there : behind ≤ length bytes
  pub is : place ≡ place_after (start_of file) (take behind bytes)
