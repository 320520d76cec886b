-- What stands outside the program at a moment.
use Rattle.std.specs.Prelude.{◌≡◌, ◌≤◌, ℕ, List, length, take, Option, Some, IfSome, option_map}
use Rattle.std.specs.FinMap as map
use Rattle.mg_io.specs.Outside.{Files}
use Rattle.mg_text.specs.Call.{Name}

-- a sink: its bytes, where it tells them, and how many calls failed
pub record Stream : Type 0 where
  pub bytes : Option (List ℕ)
  pub faults : ℕ

-- the folder's files, where it tells them, and the names of its failed reads and writes; standard output and standard error
pub record Outside : Type 0 where
  pub files : Option Files
  pub failed_reads : List Name
  pub failed_writes : List Name
  pub out : Stream
  pub err : Stream

abbrev pub stream : Option (List ℕ) → ℕ → Stream
stream bytes faults = record { bytes = bytes; faults = faults }

abbrev pub outside : Option Files → List Name → List Name → Stream → Stream → Outside
outside files failed_reads failed_writes out err =
    record { files = files; failed_reads = failed_reads; failed_writes = failed_writes; out = out; err = err }

-- These bytes were read of a file, of which at most so many are read: they are no more, and where the files are told, the file is
-- there, and they are its first so many bytes, or all of it.
abbrev pub IsRead : (limit : ℕ) → Option Files → Name → List ℕ → Type 0
IsRead limit files file bytes =
    (length bytes ≤ limit) × IfSome files (λ m. (content : List ℕ) × (map.get m file ≡ Some content) × (bytes ≡ take limit content))

-- what a file holds, where the folder tells its files
abbrev pub held : Outside → Name → Option (Option (List ℕ))
held at name = option_map (λ m. map.get m name) at.files
