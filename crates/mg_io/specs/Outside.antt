-- What stands outside the program: files by their names, and bytes that were put somewhere.
use Rattle.std.specs.Prelude.{◌≡◌, ℕ, ◌<◌, ◌-◌, ◌^◌, ◌⊎◌, List, [], ◌∷◌, ◌++◌, take, Option, option_map, Result, Ok, Err}
use Rattle.std.specs.Ordering.{nat_cmp}
use Rattle.std.specs.Cmp.Lexicographic.{slice_cmp}
use Rattle.std.specs.FinMap as map
use Rattle.mg_io.specs.declared.fault.IoFault.{IoFault}
use Rattle.mg_io.specs.declared.fault.IoFault.TheVariants.{Failed, Memory}

-- names of files, each with what the file holds
abbrev pub Files : Type 0
Files = map.FinMap (slice_cmp nat_cmp) (List ℕ)

-- the name that a call was asked for, where it answered that it failed
abbrev pub name_if_failed : {X : Type 0} → Result X IoFault → List ℕ → List (List ℕ)
name_if_failed (Ok x) name = []
name_if_failed (Err Failed) name = name ∷ []
name_if_failed (Err Memory) name = []

-- the files with this content under this name; a folder that doesn't tell its files still doesn't
abbrev pub with_file : List ℕ → List ℕ → Option Files → Option Files
with_file name content files = option_map (λ m. map.insert m name content) files

-- After a write that failed the named file holds what it held, or a front of what was to be written. No other file changed.
abbrev pub MayTear : List ℕ → List ℕ → Option Files → Option Files → Type 0
MayTear name content old new = (new ≡ old) ⊎ ((k : ℕ) × (new ≡ with_file name (take k content) old))

-- what files hold after a write
abbrev pub Writes : List ℕ → List ℕ → Result Unit IoFault → Option Files → Option Files → Type 0
Writes name content (Ok _) old new = new ≡ with_file name content old
Writes name content (Err Failed) old new = MayTear name content old new
Writes name content (Err Memory) old new = new ≡ old

-- the bytes with a piece at their end; a sink that doesn't tell its bytes still doesn't
abbrev pub appended : List ℕ → Option (List ℕ) → Option (List ℕ)
appended piece bytes = option_map (λ b. b ++ piece) bytes

-- what a sink's bytes are after a piece was put: all of it was appended, a front of it, or nothing
abbrev pub Puts : List ℕ → Result Unit IoFault → Option (List ℕ) → Option (List ℕ) → Type 0
Puts piece (Ok _) old new = new ≡ appended piece old
Puts piece (Err Failed) old new = (k : ℕ) × (new ≡ appended (take k piece) old)
Puts piece (Err Memory) old new = new ≡ old

-- A count of faults rose. One that stands at the end of its type stays there, and is taken as risen.
abbrev pub Rose : ℕ → ℕ → Type 0
Rose old new = (old < new) ⊎ ((old ≡ 2 ^ 64 - 1) × (new ≡ old))

-- a sink's count of faults after a call: it rises exactly where the call failed
abbrev pub Counts : Result Unit IoFault → ℕ → ℕ → Type 0
Counts (Ok _) old new = new ≡ old
Counts (Err Failed) old new = Rose old new
Counts (Err Memory) old new = new ≡ old
