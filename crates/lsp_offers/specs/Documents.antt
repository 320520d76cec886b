-- The files of a program with another text in place of a document, and where in it a variable is named.
use Rattle.std.specs.Prelude.{ℕ, ◌+◌, List, ◌∷◌, ◌++◌, drop, take}
use Rattle.mg_text.specs.declared.place.Place.{Place}
use Rattle.mg_text.specs.Places.{start_of, place_after}
use Rattle.lsp_offers.specs.declared.spots.Spot.{Spot}

-- the contents of files, where that of the file of this number is another
abbrev pub with_document : (contents : List (List ℕ)) → (file : ℕ) → (text : List ℕ) → List (List ℕ)
with_document contents file text = take file contents ++ text ∷ drop (file + 1) contents

-- the place of the path of a spot
abbrev pub place_of : (file : ℕ) → (text : List ℕ) → Spot → Place
place_of file text spot = place_after (start_of file) (take spot.start text)
