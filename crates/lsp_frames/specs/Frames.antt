-- Frames: bodies behind their heads.
use Rattle.std.specs.Prelude.{◌≡◌, ℕ, ◌+◌, ◌≤◌, List, [], ◌∷◌, ◌++◌, length, codes}
use Rattle.std.specs.Fmt.{decimal}
use Rattle.lsp_frames.specs.Fields.{Field, AreFields, spell, lengths}
use Rattle.lsp_frames.specs.Reading.{head_limit}

-- the bytes are fields, one of which tells the body's length and no other any, an empty line, the body, and the rest
pub record IsFrame (limit : ℕ) (bytes body rest : List ℕ) : Type 0 where
  pub fields : List Field
  pub spells : bytes ≡ spell fields ++ (13 ∷ 10 ∷ (body ++ rest))
  pub are : AreFields limit fields
  pub long : lengths fields ≡ length body ∷ []
  pub within : length (spell fields) + 2 ≤ head_limit

-- the bytes are the frames of these bodies, one behind the other, and the rest
abbrev pub AreFrames : ℕ → List ℕ → List (List ℕ) → List ℕ → Type 0
AreFrames limit bytes [] rest = bytes ≡ rest
AreFrames limit bytes (body ∷ bodies) rest = (after : List ℕ) × IsFrame limit bytes body after × AreFrames limit after bodies rest

-- the frame that is written of a body
abbrev pub written : List ℕ → List ℕ
written body = codes "Content-Length: " ++ (decimal (length body) ++ (codes "\r\n\r\n" ++ body))
