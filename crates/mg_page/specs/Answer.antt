-- What the program answers of words and told files.
use Rattle.std.specs.Prelude.{◌≡◌, ℕ, List, [], ◌∷◌, ◌++◌, Some}
use Rattle.mg_text.specs.Call.{Name}
use Rattle.mg_delivery.specs.Numbers.{number_of}
use Rattle.mg_delivery.specs.Outside.{Outside, outside, stream}
use Rattle.mg_top.specs.Promises.{Promises}
use Rattle.mg_page.specs.declared.answering.Outcome.{Outcome}
use Rattle.mg_page.specs.Told.{Told, files_in}
use Rattle.mg_page.specs.Pieces.{IsText, IsFile, AreAll, piece_bytes, files_bytes}

-- The outside before a run: the files are told, nothing was put, and nothing failed.
abbrev pub before : List Told → Outside
before files = outside (Some (files_in files)) [] [] (stream (Some []) 0) (stream (Some []) 0)

-- The outside behind it: the files that then stand, and what was put on the two streams. A name may have been asked for that isn't
-- there; no write failed, and no put.
abbrev pub behind : Outcome → List Name → Outside
behind answer unread =
    outside (Some (files_in answer.files.items)) unread [] (stream (Some answer.out) 0) (stream (Some answer.err) 0)

-- the program promises this answer of these words and files
pub record Answers (words : List Name) (files : List Told) (answer : Outcome) : Type 0 where
  pub unread : List Name
  pub promised : Promises words (before files) answer.status (behind answer unread)

-- an answer in bytes: the number of its status, standard output and standard error, and then the files
abbrev pub answer_bytes : Outcome → List ℕ
answer_bytes answer =
    number_of answer.status ∷ (piece_bytes answer.out ++ (piece_bytes answer.err ++ files_bytes answer.files.items))

-- two rows of bytes ask these words of these files
pub record Asks (words files : List ℕ) (meant : List Name) (told : List Told) : Type 0 where
  pub are_words : AreAll IsText words meant
  pub are_files : AreAll IsFile files told

-- the bytes are the answer to what two rows of bytes ask
pub record Responds (words files bytes : List ℕ) : Type 0 where
  pub meant : List Name
  pub told : List Told
  pub asks : Asks words files meant told
  pub answer : Outcome
  pub answers : Answers meant told answer
  pub spelled : bytes ≡ answer_bytes answer
