-- What the fakes in memory hold, and which of their calls fail.
use Rattle.std.specs.Prelude.{◌≡◌, ℕ, ◌+◌, ◌-◌, ◌^◌, ◌⊎◌, min, List, Contains, None, Result, Ok, Err, String, string_bytes, refl}
use Rattle.std.specs.Prelude.{map as list_map}
use Rattle.std.specs.declared.alloc.Global.{Global}
use Rattle.std.specs.Coded.{Coded, code_by, coded×, coded_list, coded_ℕ}
use Rattle.std.specs.FinMap as map
use Rattle.mg_io.specs.Outside.{Files}
use Rattle.mg_io.specs.declared.fault.IoFault.{IoFault}
use Rattle.mg_io.specs.declared.fault.IoFault.TheVariants.{Failed, Memory}

-- A folder in memory: its files, how many calls of `read` and `write` there were, the numbers of the calls that fail, and the names that
-- failed.
pub record MemoryFolder : Type 0 where
  pub files : Files
  pub calls : ℕ
  pub failing : List ℕ
  pub failed_reads : List (List ℕ)
  pub failed_writes : List (List ℕ)

-- a sink in memory: its bytes, how many calls there were, the numbers of those that fail, and how many failed
pub record MemorySink : Type 0 where
  pub bytes : List ℕ
  pub calls : ℕ
  pub failing : List ℕ
  pub faults : ℕ

-- the names that failed at a folder whose files are not told
pub record FailedNames : Type 0 where
  pub reads : List (List ℕ)
  pub writes : List (List ℕ)

-- names of files are told apart by their bytes, and so are contents
abbrev pub files_code : Coded Files
files_code = map.code (coded_list coded_ℕ) (coded_list coded_ℕ)

-- and so are lists of names
abbrev pub names_code : Coded (List (List ℕ))
names_code = coded_list (coded_list coded_ℕ)

-- a folder in memory is told apart by its fields
abbrev pub folder_code : Coded MemoryFolder
folder_code =
    code_by (Files × (ℕ × (List ℕ × (List (List ℕ) × List (List ℕ)))))
    (coded× files_code (coded× coded_ℕ (coded× (coded_list coded_ℕ) (coded× names_code names_code))))
    (λ f. (f.files, (f.calls, (f.failing, (f.failed_reads, f.failed_writes)))))
    (λ p. record { files = p.0; calls = p.1.0; failing = p.1.1.0; failed_reads = p.1.1.1.0; failed_writes = p.1.1.1.1 })
    (λ _. refl)

-- one more; a count that stands at the end of its type stays there
abbrev pub counted : ℕ → ℕ
counted n = min (n + 1) (2 ^ 64 - 1)

-- the count of faults after a call: one more where it failed
abbrev pub counted_if_failed : {X : Type 0} → Result X IoFault → ℕ → ℕ
counted_if_failed (Ok _) n = n
counted_if_failed (Err Failed) n = counted n
counted_if_failed (Err Memory) n = n

-- the next call is listed as one that fails
abbrev pub IsListed : MemoryFolder → Type 0
IsListed folder = Contains folder.failing folder.calls

-- a read of this name fails: the call is listed, or no file has the name
abbrev pub RefusesRead : MemoryFolder → List ℕ → Type 0
RefusesRead folder name = IsListed folder ⊎ (map.get folder.files name ≡ None)

-- the files that a map's entries keep: bytes under strings
abbrev pub files_of : List (String Global × List ℕ) → Files
files_of entries = map.from_entries (list_map (λ e. (string_bytes e.0, e.1)) entries)
