-- A walk over the fields of a head.
use Rattle.std.specs.Prelude.{◌≡◌, ℕ, ◌+◌, ◌-◌, ◌<◌, ◌≤◌, List, ◌++◌, length, take, drop, Option, option_to_list, ⊤}
use Rattle.lsp_frames.specs.declared.lines.Cut.{Cut as Told}
use Rattle.lsp_frames.specs.declared.lines.Cut.TheVariants as told
use Rattle.lsp_frames.specs.declared.heads.Taken.{Taken}
use Rattle.lsp_frames.specs.declared.heads.Step.{Step}
use Rattle.lsp_frames.specs.declared.heads.Step.TheVariants.{Stop, Go}
use Rattle.lsp_frames.specs.Fields.{Field, AreFields, spell, lengths}
use Rattle.lsp_frames.specs.Reading.{head_limit, Cut, wants, over, bare, line, IsCut, Ends}

abbrev pub cut_of : List ℕ → Told → Cut
cut_of bytes told.Wants = wants
cut_of bytes told.Over = over
cut_of bytes told.Bare = bare
cut_of bytes (told.Line n) = line (take n bytes) (drop (n + 2) bytes)

-- a line and its end are within the bytes and the room
abbrev pub fits_in : ℕ → ℕ → Told → Type 0
fits_in size room told.Wants = ⊤
fits_in size room told.Over = ⊤
fits_in size room told.Bare = ⊤
fits_in size room (told.Line n) = (n + 2 ≤ size) × (n + 2 ≤ room)

-- the same as `IsRead`, behind so many bytes that tell these lengths
pub record IsReadFrom (limit at : ℕ) (ns bytes : List ℕ) (taken : Taken) : Type 0 where
  pub fields : List Field
  pub after : List ℕ
  pub cut : Cut
  pub spells : bytes ≡ spell fields ++ after
  pub are : AreFields limit fields
  pub one : length (ns ++ lengths fields) ≤ 1
  pub within : at + length (spell fields) ≤ head_limit
  pub cuts : IsCut (head_limit - (at + length (spell fields))) after cut
  pub ends : Ends limit (at + length (spell fields)) (ns ++ lengths fields) cut taken

-- what is read behind so many of these bytes, with this length told, is read of them
abbrev pub LeadsTo : ℕ → List ℕ → ℕ → Option ℕ → ℕ → Option ℕ → Type 0
LeadsTo limit bytes at told passed more =
    (taken : Taken) → IsReadFrom limit (at + passed) (option_to_list more) (drop passed bytes) taken
    → IsReadFrom limit at (option_to_list told) bytes taken

-- one line is looked at
abbrev pub Steps : ℕ → List ℕ → ℕ → Option ℕ → Step → Type 0
Steps limit bytes at told (Stop taken) = IsReadFrom limit at (option_to_list told) bytes taken
Steps limit bytes at told (Go passed more) =
    (0 < passed) × (passed ≤ length bytes) × (at + passed ≤ head_limit) × LeadsTo limit bytes at told passed more
