-- How a run of the program may end.
use Rattle.std.specs.Prelude.{◌≡◌, ℕ, List, [], ◌∷◌, ◌++◌, Contains, Option}
use Rattle.mg_delivery.specs.declared.status.Status.{Status}
use Rattle.mg_delivery.specs.declared.status.Status.TheVariants as statuses
use Rattle.mg_delivery.specs.declared.delivery.Action.{Action}
use Rattle.mg_delivery.specs.declared.delivery.Action.TheVariants.{Say}
use Rattle.mg_words.specs.Words.{Word, Command, Translate, Client, Conform, Check, Compile, Run, Exec, Refine, Project, Load, Verify, Fit}
use Rattle.mg_words.specs.Words.{Show, files_of}
use Rattle.mg_words.specs.Words.{IsCommand}
use Rattle.mg_words.specs.Words.{AreWrong}
use Rattle.mg_delivery.specs.Lines.{words_line, read_line, memory_line}
use Rattle.mg_delivery.specs.Outside.{Outside}
use Rattle.mg_delivery.specs.Contents.{AreRead, after_read}
use Rattle.mg_delivery.specs.Delivery.{Delivers}
use Rattle.mg_top.specs.Commands.{Yields}

-- How many bytes of a file a command reads: one more than such a file may have.
abbrev pub read_limit : Command → ℕ
read_limit (Translate package_name folder files) = 1048577
read_limit (Client package_name folder files) = 1048577
read_limit (Conform files) = 1048577
read_limit (Check all files) = 1048577
read_limit (Compile folder files) = 1048577
read_limit (Run asked files) = 1048577
read_limit (Refine files) = 1048577
read_limit (Project folder files) = 1048577
read_limit (Load branches seed) = 1048577
read_limit (Fit roles files) = 1048577
read_limit (Show files) = 1048577
read_limit (Exec asked files) = 16777217
read_limit (Verify files) = 16777217

-- the command reads a file of this name
abbrev pub MayRead : List Word → Word → Type 0
MayRead words name = (command : Command) × IsCommand command words × Contains (files_of command) name

-- the command reads a file of this name, and the files before it were read
pub record IsUnread (words : List Word) (before : Outside) (name : Word) : Type 0 where
  pub command : Command
  pub is : IsCommand command words
  pub front : List Word
  pub rest : List Word
  pub stands : files_of command ≡ front ++ name ∷ rest
  pub contents : List (List ℕ)
  pub read : AreRead (read_limit command) before.files front contents

-- What is to be done, the status that is meant, and what stands outside then: nothing was written or put yet.
pub data IsDue (words : List Word) (before : Outside) : List Action → Status → Outside → Type 0 where
  -- the words are no command
  wrong : (word : Option Word) → AreWrong words word → IsDue words before (Say (words_line word) ∷ []) statuses.Words before
  -- a file of the words can't be read, the first of them
  unread : (name : Word) → IsUnread words before name → IsDue words before (Say (read_line name) ∷ []) statuses.ReadFault
      (after_read before name)
  -- the command gives these
  yielded : {actions : List Action} {meant : Status} (command : Command) (contents : List (List ℕ)) → IsCommand command words →
      AreRead (read_limit command) before.files (files_of command) contents → Yields command contents actions meant →
      IsDue words before actions meant before
  -- memory lacks, or lacks to say that a file of the words can't be read
  starved : IsDue words before (Say memory_line ∷ []) statuses.Memory before
  mute : (name : Word) → IsUnread words before name → IsDue words before (Say memory_line ∷ []) statuses.Memory (after_read before name)

-- What is due is delivered.
pub record Ends (words : List Word) (before : Outside) (status : Status) (after : Outside) : Type 0 where
  pub actions : List Action
  pub meant : Status
  pub at : Outside
  pub due : IsDue words before actions meant at
  pub delivered : Delivers actions meant at status after
