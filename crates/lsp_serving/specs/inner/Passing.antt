-- What the parts of a turn leave.
use Rattle.std.specs.Prelude.{◌≡◌, ℕ, ◌++◌, true, false, List, [], take, Option, Result, Ok, Err, Bool}
use Rattle.std.specs.Io.KnownBytes.{Consumes, IsAtEnd}
use Rattle.mg_io.specs.Outside.{appended}
use Rattle.lsp_messages.specs.declared.incoming.Incoming.{Incoming}
use Rattle.lsp_messages.specs.declared.outgoing.Outgoing.{Outgoing}
use Rattle.lsp_frames.specs.Frames.{AreFrames}
use Rattle.lsp_core.specs.declared.phase.Phase.TheVariants.{Gone}
use Rattle.lsp_server.specs.declared.session.Session.{Session}
use Rattle.lsp_server.specs.Turns.{Folders, Turns}
use Rattle.lsp_serving.specs.declared.ending.Ending.{Ending}
use Rattle.lsp_serving.specs.declared.ending.Ending.TheVariants.{Exit, NoFrame, Unread, Unwritten, Memory}
use Rattle.lsp_serving.specs.Hearing.{IsHeard}
use Rattle.lsp_serving.specs.Speaking.{spoken}
use Rattle.lsp_serving.specs.Serving.{body_limit, Serves}
use Rattle.lsp_serving.specs.Endings.{GoesOn, IsPart, IsNone}

-- one read: more came, or the input is at its end; or it ends here, and what was read may be lost
abbrev pub Fed : (left right : Option (List ℕ)) (old new : List ℕ) → Result Bool Ending → Type 0
Fed left right old new (Ok true) = (piece : List ℕ) × Consumes left right piece × (new ≡ old ++ piece)
Fed left right old new (Ok false) = (new ≡ old) × Consumes left right [] × IsAtEnd right
Fed left right old new (Err Unread) = (new ≡ old) × Consumes left right []
Fed left right old new (Err Memory) = (new ≡ old) × ((piece : List ℕ) × Consumes left right piece)
Fed left right old new (Err ending) = ⊥

-- the message of a body comes to what is told
pub record TurnsBody (folders : Folders) (old : Session) (body : List ℕ) (told : List Outgoing) (new : Session) : Type 0 where
  pub message : Incoming
  pub heard : IsHeard body message
  pub turns : Turns folders old message told new

-- the frames of what the message of a body comes to
pub record IsTurned (folders : Folders) (old : Session) (body : List ℕ) (bytes : List ℕ) (new : Session) : Type 0 where
  pub told : List Outgoing
  pub turns : TurnsBody folders old body told new
  pub are : bytes ≡ spoken told

-- no body is given: what comes is no frame, or memory is wanted
abbrev pub IsStopped : Ending → List ℕ → Type 0
IsStopped NoFrame rest = IsNone rest
IsStopped Memory rest = Unit {0}
IsStopped ending rest = ⊥

-- the session is at its end, by `exit`
abbrev pub IsExit : Session → Ending → Type 0
IsExit session ending = (clean : Bool) × (ending ≡ Exit clean) × (session.server.phase ≡ Gone clean)

-- a body was served, and what was told was put; or it wasn't
pub record IsAnswered (folders : Folders) (session : Session) (body : List ℕ) (new : Session) (before after : Option
    (List ℕ)) : Type 0 where
  pub told : List Outgoing
  pub turns : TurnsBody folders session body told new
  pub put : after ≡ appended (spoken told) before

pub record IsCut (folders : Folders) (session : Session) (body : List ℕ) (new : Session) (before after : Option (List ℕ)) : Type 0 where
  pub told : List Outgoing
  pub turns : TurnsBody folders session body told new
  pub cut : ℕ
  pub put : after ≡ appended (take cut (spoken told)) before

abbrev pub Answers : Folders → Session → List ℕ → Session → (before after : Option (List ℕ)) → Result Unit Ending → Type 0
Answers folders session body new before after (Ok _) = IsAnswered folders session body new before after
Answers folders session body new before after (Err Unwritten) = IsCut folders session body new before after
Answers folders session body new before after (Err Memory) = after ≡ before
Answers folders session body new before after (Err ending) = ⊥

-- the frames at the front of what came were served, what was told was put, and the server goes on
pub record Passes (folders : Folders) (start : Session) (came : List ℕ) (before : Option (List ℕ)) (session : Session) (rest : List ℕ)
    (after : Option (List ℕ)) : Type 0 where
  pub bodies : List (List ℕ)
  pub told : List Outgoing
  pub frames : AreFrames body_limit came bodies rest
  pub serves : Serves folders start bodies told session
  pub put : after ≡ appended (spoken told) before
  pub goes : GoesOn session

-- so far: what came is what was read, and what is left of it may become a frame
pub record SoFar (folders : Folders) (start : Session) (left right : Option (List ℕ)) (before : Option (List ℕ)) (session : Session)
    (rest : List ℕ) (after : Option (List ℕ)) : Type 0 where
  pub came : List ℕ
  pub read : Consumes left right came
  pub passes : Passes folders start came before session rest after
  pub part : IsPart rest
