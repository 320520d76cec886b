-- How serving ends, and what was put and read then.
use Rattle.std.specs.Prelude.{◌≡◌, ℕ, true, false, List, take, Option}
use Rattle.std.specs.Io.KnownBytes.{Consumes, IsAtEnd}
use Rattle.mg_io.specs.Outside.{appended}
use Rattle.lsp_messages.specs.declared.outgoing.Outgoing.{Outgoing}
use Rattle.lsp_frames.specs.declared.heads.Fault.{Fault}
use Rattle.lsp_frames.specs.declared.heads.Taken.TheVariants.{More, Refused}
use Rattle.lsp_frames.specs.Reading.{IsRead}
use Rattle.lsp_frames.specs.Frames.{AreFrames}
use Rattle.lsp_core.specs.declared.phase.Phase.TheVariants.{Gone}
use Rattle.lsp_core.specs.Runs.{is_gone}
use Rattle.lsp_server.specs.declared.session.Session.{Session}
use Rattle.lsp_server.specs.Turns.{Folders}
use Rattle.lsp_serving.specs.declared.ending.Ending.{Ending}
use Rattle.lsp_serving.specs.declared.ending.Ending.TheVariants.{Exit, Input, NoFrame, Unread, Unwritten, Memory}
use Rattle.lsp_serving.specs.Speaking.{spoken}
use Rattle.lsp_serving.specs.Serving.{body_limit, IsFresh, Serves}

-- the number of each, with which the program ends
abbrev pub number_of : Ending → ℕ
number_of (Exit true) = 0
number_of (Exit false) = 1
number_of Input = 1
number_of NoFrame = 2
number_of Unread = 3
number_of Unwritten = 4
number_of Memory = 5

-- no `exit` has come
abbrev pub GoesOn : Session → Type 0
GoesOn session = is_gone session.server.phase ≡ false

-- What is left of the bytes that came begins with no frame, and may become one.
abbrev pub IsPart : List ℕ → Type 0
IsPart rest = IsRead body_limit rest More

-- it never becomes one
abbrev pub IsNone : List ℕ → Type 0
IsNone rest = (fault : Fault) × (at : ℕ) × IsRead body_limit rest (Refused fault at)

-- When it ends so: by `exit`, or without one where nothing more comes, what comes is no frame, or it can't be gone on.
abbrev pub EndsSo : Ending → Session → (rest : List ℕ) → Type 0
EndsSo (Exit clean) session rest = session.server.phase ≡ Gone clean
EndsSo Input session rest = GoesOn session × IsPart rest
EndsSo NoFrame session rest = GoesOn session × IsNone rest
EndsSo Unread session rest = GoesOn session × IsPart rest
EndsSo Unwritten session rest = Unit {0}
EndsSo Memory session rest = GoesOn session

-- All bytes were put; a front of them where that failed.
abbrev pub IsPut : Ending → List ℕ → (old new : Option (List ℕ)) → Type 0
IsPut Unwritten bytes old new = (k : ℕ) × (new ≡ appended (take k bytes) old)
IsPut ending bytes old new = new ≡ appended bytes old

-- Of what came the frames at the front were served, one after the other and each whole, and what was told was put.
pub record Ends (folders : Folders) (start : Session) (came : List ℕ) (old new : Option (List ℕ)) (ending : Ending) : Type 0 where
  pub bodies : List (List ℕ)
  pub told : List Outgoing
  pub rest : List ℕ
  pub end : Session
  pub frames : AreFrames body_limit came bodies rest
  pub serves : Serves folders start bodies told end
  pub put : IsPut ending (spoken told) old new
  pub ends : EndsSo ending end rest

-- Serving from a session on: what came is what was read of the input, all of it where the input's end is the end.
pub record IsServedFrom (folders : Folders) (start : Session) (left right old new : Option (List ℕ)) (ending : Ending) : Type 0 where
  pub came : List ℕ
  pub read : Consumes left right came
  pub ends : Ends folders start came old new ending
  pub whole : ending ≡ Input → IsAtEnd right

-- serving from the start
pub record IsServed (folders : Folders) (left right old new : Option (List ℕ)) (ending : Ending) : Type 0 where
  pub start : Session
  pub fresh : IsFresh start
  pub serves : IsServedFrom folders start left right old new ending
