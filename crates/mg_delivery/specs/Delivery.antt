-- How a command is delivered: what is done outside, and what stands there after it.
use Rattle.std.specs.Prelude.{◌≡◌, ◌⊎◌, ℕ, List, [], ◌∷◌, ◌++◌, Result, Ok, Err}
use Rattle.mg_io.specs.declared.fault.IoFault.{IoFault}
use Rattle.mg_io.specs.declared.fault.IoFault.TheVariants as io
use Rattle.mg_io.specs.Outside.{Writes, Puts, Counts, name_if_failed}
use Rattle.mg_delivery.specs.declared.status.Status.{Status}
use Rattle.mg_delivery.specs.declared.status.Status.TheVariants as statuses
use Rattle.mg_delivery.specs.declared.delivery.Action.{Action}
use Rattle.mg_delivery.specs.declared.delivery.Action.TheVariants.{Write, Print, Say}
use Rattle.mg_delivery.specs.Lines.{write_line}
use Rattle.mg_delivery.specs.Outside.{Outside}

-- what an action leaves, by the answer of the folder or the sink: a file is written, or a text is put on standard output or standard error
abbrev pub Acts : Action → Result Unit IoFault → Outside → Outside → Type 0
Acts (Write file) answer old new =
    Writes file.name file.text answer old.files new.files
    × (new ≡ record old { files = new.files; failed_writes = old.failed_writes ++ name_if_failed answer file.name })
Acts (Print text) answer old new =
    Puts text answer old.out.bytes new.out.bytes × Counts answer old.out.faults new.out.faults × (new ≡ record old { out = new.out })
Acts (Say line) answer old new =
    Puts line answer old.err.bytes new.err.bytes × Counts answer old.err.faults new.err.faults × (new ≡ record old { err = new.err })

-- these actions were done, one after another
pub data AreDone : List Action → Outside → Outside → Type 0 where
  nothing : {at : Outside} → AreDone [] at at
  first : {more : List Action} {from end : Outside} (action : Action) (to : Outside) → Acts action (Ok tt) from to → AreDone more to end →
      AreDone (action ∷ more) from end

-- the status after the line of a failed write was put, or couldn't be
abbrev pub after_line : Result Unit IoFault → Status
after_line (Ok _) = statuses.WriteFault
after_line (Err io.Failed) = statuses.WriteFault
after_line (Err io.Memory) = statuses.Memory

-- the line of a failed write is put on standard error
abbrev pub SaysFault : List ℕ → Outside → Status → Outside → Type 0
SaysFault line from status to = (answer : Result Unit IoFault) × Acts (Say line) answer from to × (status ≡ after_line answer)

-- What is said of an action that failed: the line of a write is put on standard error, and of a failed sink there is no line.
abbrev pub Tells : Action → Outside → Status → Outside → Type 0
Tells (Write file) from status to = SaysFault (write_line file.name) from status to
Tells (Print text) from status to = (status ≡ statuses.WriteFault) × (to ≡ from)
Tells (Say line) from status to = (status ≡ statuses.WriteFault) × (to ≡ from)

-- an action fails, which is told, or memory lacks for it
pub data Stops (action : Action) (from : Outside) : Status → Outside → Type 0 where
  fails : {status : Status} {to : Outside} (at : Outside) → Acts action (Err io.Failed) from at → Tells action at status to →
      Stops action from status to
  lacks : {to : Outside} → Acts action (Err io.Memory) from to → Stops action from statuses.Memory to

-- All actions are done, and the status is the one that is meant; or those before one are done, that one stops it, and the rest are never
-- begun.
pub data Delivers (actions : List Action) (meant : Status) (from : Outside) : Status → Outside → Type 0 where
  whole : {to : Outside} → AreDone actions from to → Delivers actions meant from meant to
  cut : {status : Status} {to : Outside} (front : List Action) (action : Action) (rest : List Action) (at : Outside) →
      actions ≡ front ++ action ∷ rest →
      AreDone front from at → Stops action at status to → Delivers actions meant from status to

-- the status is this one, unless an action failed or memory ran out
abbrev pub IsUnlessStopped : Status → Status → Type 0
IsUnlessStopped meant status = (status ≡ meant) ⊎ (status ≡ statuses.WriteFault) ⊎ (status ≡ statuses.Memory)
