-- Bytes ask one thing at most, and all that is short can be asked.
use Rattle.std.specs.Prelude.{◌≡◌, ℕ, List}
use Rattle.mg_text.specs.Call.{Name}
use Rattle.mg_page.specs.Told.{Told}
use Rattle.mg_page.specs.Pieces.{Each, IsShort, IsShortFile, pieces_bytes, files_bytes}
use Rattle.mg_page.specs.Answer.{Asks}

-- two rows of bytes ask one row of words and one of files
abbrev pub AsksOnce : Type 0
AsksOnce = (words files : List ℕ) (meant others : List Name) (told those : List Told)
    → Asks words files meant told → Asks words files others those → (meant ≡ others) × (told ≡ those)

-- words and files behind their lengths ask themselves
abbrev pub AreAsked : Type 0
AreAsked = (words : List Name) (files : List Told) → Each IsShort words → Each IsShortFile files
    → Asks (pieces_bytes words) (files_bytes files) words files
