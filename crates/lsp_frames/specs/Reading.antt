-- What bytes are that begin with a frame, with a part of one, or with something that becomes none.
use Rattle.std.specs.Prelude.{◌≡◌, ◌≢◌, ℕ, ◌+◌, ◌-◌, ◌<◌, ◌≤◌, List, [], ◌∷◌, ◌++◌, length, take, nat_le, if◌then◌else◌}
use Rattle.std.specs.Str.{NonePass}
use Rattle.lsp_frames.specs.declared.lines.Said.{Said}
use Rattle.lsp_frames.specs.declared.lines.Said.TheVariants.{Empty, NoColon, Other, BadLength, Long}
use Rattle.lsp_frames.specs.declared.heads.Taken.{Taken}
use Rattle.lsp_frames.specs.declared.heads.Taken.TheVariants.{Frame, More, Refused}
use Rattle.lsp_frames.specs.declared.heads.Fault.TheVariants as faults
use Rattle.lsp_frames.specs.Fields.{is_feed, IsSaid, Field, AreFields, spell, lengths}

-- how many bytes a head has at most, with the empty line that ends it
abbrev pub head_limit : ℕ
head_limit = 4096

-- how bytes begin behind the fields that are passed
pub data Cut : Type 0 where
  wants : Cut
  over : Cut
  bare : Cut
  line : List ℕ → List ℕ → Cut

-- with what may become a line within the room; with more than the room and no line feed; with a line feed within the room and no
-- carriage return before it; or with a line within the room and what stands behind its end
abbrev pub IsCut : ℕ → List ℕ → Cut → Type 0
IsCut room bytes wants = NonePass is_feed bytes × (length bytes < room)
IsCut room bytes over = NonePass is_feed (take room bytes) × (room ≤ length bytes)
IsCut room bytes bare =
    (front : List ℕ) × (rest : List ℕ) × (bytes ≡ front ++ 10 ∷ rest) × NonePass is_feed front × (length front < room)
    × ((shorter : List ℕ) → front ≢ shorter ++ 13 ∷ [])
IsCut room bytes (line l rest) = (bytes ≡ l ++ (13 ∷ 10 ∷ rest)) × NonePass is_feed l × (length l + 2 ≤ room)

-- behind the head's end stands the body, or a part of it, where one length is told
abbrev pub Closes : ℕ → List ℕ → List ℕ → Taken → Type 0
Closes at [] rest taken = taken ≡ Refused faults.NoLength at
Closes at (n ∷ ns) rest taken = taken ≡ (if nat_le n (length rest) then Frame (at + 2) (at + 2 + n) else More)

-- the line at this place ends the head or is refused
abbrev pub Stops : ℕ → List ℕ → List ℕ → Said → Taken → Type 0
Stops at ns rest Empty taken = Closes at ns rest taken
Stops at ns rest NoColon taken = taken ≡ Refused faults.NoColon at
Stops at ns rest Other taken = ⊥
Stops at ns rest BadLength taken = taken ≡ Refused faults.BadLength at
Stops at ns rest (Long n) taken = (0 < length ns) × (taken ≡ Refused faults.TwoLengths at)

-- what is at this place, behind fields that tell these lengths
abbrev pub Ends : ℕ → ℕ → List ℕ → Cut → Taken → Type 0
Ends limit at ns wants taken = taken ≡ More
Ends limit at ns over taken = taken ≡ Refused faults.HeadTooLong at
Ends limit at ns bare taken = taken ≡ Refused faults.NoReturn at
Ends limit at ns (line l rest) taken = (said : Said) × IsSaid limit l said × Stops at ns rest said taken

-- The bytes are fields, which tell one length at most, and what stands behind them decides.
pub record IsRead (limit : ℕ) (bytes : List ℕ) (taken : Taken) : Type 0 where
  pub fields : List Field
  pub after : List ℕ
  pub cut : Cut
  pub spells : bytes ≡ spell fields ++ after
  pub are : AreFields limit fields
  pub one : length (lengths fields) ≤ 1
  pub within : length (spell fields) ≤ head_limit
  pub cuts : IsCut (head_limit - length (spell fields)) after cut
  pub ends : Ends limit (length (spell fields)) (lengths fields) cut taken
