-- What the program promises of each answer.
use Rattle.std.specs.Prelude.{◌≡◌, ◌≢◌, ◌<◌, Contains, ℕ, ◌⊎◌, List, [], ◌∷◌, ◌++◌, Option, Some}
use Rattle.mg_io.specs.Outside.{Files, Rose}
use Rattle.mg_text.specs.Call.{Call}
use Rattle.ts_refine.specs.declared.verdict.Reason.{Reason}
use Rattle.mg_refined.specs.Refined.{no_text}
use Rattle.mg_delivery.specs.declared.status.Status.{Status}
use Rattle.mg_delivery.specs.declared.status.Status.TheVariants as statuses
use Rattle.mg_delivery.specs.declared.delivery.Action.{Action}
use Rattle.mg_delivery.specs.declared.delivery.Action.TheVariants.{Write, Print, Say}
use Rattle.mg_words.specs.Words.{Word, Asked, Command, Exec, files_of, IsCommand, AreWrong}
use Rattle.mg_delivery.specs.Files.{Output}
use Rattle.mg_delivery.specs.Lines.{words_line, read_line, not_offered_line}
use Rattle.mg_delivery.specs.Outside.{Outside, held}
use Rattle.mg_delivery.specs.Delivery.{AreDone, IsUnlessStopped}
use Rattle.mg_top.specs.Commands.{Yields}
use Rattle.mg_top.specs.Theorems.{Theorems}
use Rattle.mg_delivery.specs.Contents.{AreRead, after_read}
use Rattle.mg_top.specs.Ending.{read_limit, MayRead, IsUnread, Ends}

-- the statuses that say what a command yielded
abbrev pub IsYielded : Status → Type 0
IsYielded status = (status ≢ statuses.Words) × (status ≢ statuses.ReadFault) × (status ≢ statuses.WriteFault) × (status ≢ statuses.Memory)

-- what a command does about the files that were read of it
pub record Carries (words : List Word) (before : Outside) (actions : List Action) (meant : Status) : Type 0 where
  pub command : Command
  pub contents : List (List ℕ)
  pub is : IsCommand command words
  pub read : AreRead (read_limit command) before.files (files_of command) contents
  pub yields : Yields command contents actions meant

-- the command writes a file of this name
pub record MayWrite (words : List Word) (before : Outside) (name : Word) : Type 0 where
  pub actions : List Action
  pub meant : Status
  pub carries : Carries words before actions meant
  pub file : Output
  pub named : file.name ≡ name
  pub writes : Contains actions (Write file)

-- neither the folder nor a sink failed
pub record IsSmooth (before after : Outside) : Type 0 where
  pub reads : after.failed_reads ≡ before.failed_reads
  pub writes : after.failed_writes ≡ before.failed_writes
  pub out : Rose before.out.faults after.out.faults → ⊥
  pub err : Rose before.err.faults after.err.faults → ⊥

pub record Promises (words : List Word) (before : Outside) (status : Status) (after : Outside) : Type 0 where
  -- what holds of all that commands give
  pub theorems : Theorems
  -- how the run went, and what stands after it
  pub ends : Ends words before status after
  -- Words comes exactly where the words are no command, and its line alone was put
  pub words_only : status ≡ statuses.Words → (word : Option Word) × AreWrong words word × AreDone (Say (words_line word) ∷ []) before after
  pub words_where : (word : Option Word) → AreWrong words word → IsUnlessStopped statuses.Words status
  -- ReadFault comes exactly where a read failed, of a file of the words behind those that were read, and its line alone was put
  pub read_only : status ≡ statuses.ReadFault → (name : Word) × IsUnread words before name × AreDone (Say (read_line name) ∷ [])
      (after_read before name) after
  pub read_where : after.failed_reads ≢ before.failed_reads → IsUnlessStopped statuses.ReadFault status
  -- every other status but WriteFault and Memory is what the command gives of the files that were read, and all that it gives was done
  pub only : IsYielded status → (actions : List Action) × Carries words before actions status × AreDone actions before after
  -- it comes exactly where the command gives it
  pub where_yielded : (actions : List Action) (meant : Status) (m : Files) → before.files ≡ Some m → Carries words before actions meant →
      after.failed_reads ≡ before.failed_reads → IsUnlessStopped meant status
  -- after Refused one line was put on standard error, or those of all that is wrong, or on standard output that of a call that isn't
  -- offered, or the lines of a typestate that doesn't stand for another, and nothing else was done
  pub refused_only : status ≡ statuses.Refused → ((line : List ℕ) × AreDone (Say line ∷ []) before after)
      ⊎ ((n : ℕ) × AreDone (Print (not_offered_line n) ∷ []) before after)
      ⊎ ((calls : List Call) × (reason : Reason) × AreDone (Print (no_text calls reason) ∷ []) before after)
  -- no command meets a null, or code that is wrong, but the one that runs class files as they are
  pub broken_only : status ≡ statuses.Broken → (asked : Asked) × (files : List Word) × IsCommand (Exec asked files) words
  -- WriteFault comes exactly where a write of a file that the command writes failed, or a put on standard output or standard error did
  pub write_only : status ≡ statuses.WriteFault →
      ((name : Word) × MayWrite words before name × (after.failed_writes ≡ before.failed_writes ++ name ∷ []))
      ⊎ Rose before.out.faults after.out.faults ⊎ Rose before.err.faults after.err.faults
  pub write_where : after.failed_writes ≢ before.failed_writes → (status ≡ statuses.WriteFault) ⊎ (status ≡ statuses.Memory)
  pub put_where : (before.out.faults < after.out.faults) ⊎ (before.err.faults < after.err.faults) → status ≡ statuses.WriteFault
  -- a command is carried out where nothing outside fails
  pub complete : (command : Command) → IsCommand command words → IsSmooth before after →
      (status ≡ statuses.Memory) ⊎ ((actions : List Action) × Carries words before actions status)
  -- in every status a failed read is of one file of the words, and a failed write of one file that the command writes
  pub reads_grow : (after.failed_reads ≡ before.failed_reads)
      ⊎ ((name : Word) × MayRead words name × (after.failed_reads ≡ before.failed_reads ++ name ∷ []))
  pub writes_grow : (after.failed_writes ≡ before.failed_writes)
      ⊎ ((name : Word) × MayWrite words before name × (after.failed_writes ≡ before.failed_writes ++ name ∷ []))
  -- in every status a file that the command doesn't write is as before
  pub kept : (name : Word) → (MayWrite words before name → ⊥) → held after name ≡ held before name
