-- What is read of files, one after another.
use Rattle.std.specs.Prelude.{◌≡◌, ℕ, List, [], ◌∷◌, ◌++◌, Option, Result, Ok, Err}
use Rattle.mg_text.specs.Call.{Name}
use Rattle.mg_text.specs.Row.{Row}
use Rattle.mg_io.specs.Outside.{Files}
use Rattle.mg_delivery.specs.declared.reading.Unread.{Unread}
use Rattle.mg_delivery.specs.declared.reading.Unread.TheVariants as unread
use Rattle.mg_delivery.specs.Outside.{Outside, IsRead}

-- these contents were read of the files, in their order, of each at most so many bytes
abbrev pub AreRead : (limit : ℕ) → Option Files → List Name → List (List ℕ) → Type 0
AreRead limit files [] [] = Unit {0}
AreRead limit files [] (bytes ∷ more) = ⊥
AreRead limit files (name ∷ names) [] = ⊥
AreRead limit files (name ∷ names) (bytes ∷ more) = IsRead limit files name bytes × AreRead limit files names more

-- the outside after a read that failed
abbrev pub after_read : Outside → Name → Outside
after_read before name = record before { failed_reads = before.failed_reads ++ name ∷ [] }

-- what was read of the files, of each at most so many bytes, or which of them is the first that can't be read
abbrev pub AreContents : (limit : ℕ) → List Name → Outside → Result (Row (List ℕ)) Unread → Outside → Type 0
AreContents limit names before (Ok contents) after = AreRead limit before.files names contents.items × (after ≡ before)
AreContents limit names before (Err (unread.Failed name)) after =
    (front rest : List Name) × (contents : List (List ℕ)) × (names ≡ front ++ name.now ∷ rest) × AreRead limit before.files front contents
    × (after ≡ after_read before name.now)
AreContents limit names before (Err unread.Memory) after = after ≡ before
