-- What the files of a projected global protocol promise: the laws of projection speak of them.
use Rattle.std.specs.Prelude.{◌≡◌, ◌≢◌, ℕ, List, [], Contains, Some}
use Rattle.mg_text.specs.Call.{Name}
use Rattle.scr_tree.specs.Meaning.{first_of}
use Rattle.scr_tree.specs.Steps.{Act, Position, whole}
use Rattle.scr_global.specs.Alone.{Step, Run, Finished}
use Rattle.scr_global.specs.Global.{Passing}
use Rattle.scr_global.specs.Laws.{IsReached, IsComplete, messages_of, named}
use Rattle.scr_global.specs.Points.{Point, start, Goes, Complete}
use Rattle.scr_global.specs.Systems.{System, Moved, waits_for}
use Rattle.scr_global.specs.Tree.{said}
use Rattle.scr_global_tree.specs.Tree.{GlobalTree}
use Rattle.scr_global_read.specs.Outcome as reads
use Rattle.mg_projected.specs.declared.files.RoleFile.{RoleFile}
use Rattle.mg_projected.specs.Projected.{Files, Outcome, IsProjected}

-- the files that a file's global protocol is projected to are of the projections of a valid global protocol, which the file spells
abbrev pub FilesAreProjected : Type 0
FilesAreProjected =
    (file : ℕ) (bytes : List ℕ) (files : List RoleFile) → Outcome file bytes (Files files) →
    (g : GlobalTree) × reads.Outcome file bytes (reads.Protocol g) × IsProjected g files

-- Of roles that each do what its file says:

-- where next acts of a role take from or look at a list that isn't empty, one of them is a step
abbrev pub MessagesAreTaken : Type 0
MessagesAreTaken =
    (g : GlobalTree) (files : List RoleFile) (is : IsProjected g files) (c : System) → IsReached g.roles is.locals c → (me peer : Name) →
    Contains g.roles me →
    (act : Act) (to : Position) → Step (c.at me) act to → waits_for act ≡ Some peer → c.lists peer me ≢ [] →
    (other : Act) × (d : System) × (waits_for other ≡ Some peer) × Moved me c other d

-- where no role can do a step, every role is complete and every list is empty
abbrev pub NoneIsStuck : Type 0
NoneIsStuck =
    (g : GlobalTree) (files : List RoleFile) (is : IsProjected g files) (c : System) → IsReached g.roles is.locals c →
    ((me : Name) (act : Act) (d : System) → Contains g.roles me → Moved me c act d → ⊥) → IsComplete g.roles c

-- the messages of a run of the global protocol that name a role are a run of what its file says, but for looks
abbrev pub RunsAreFollowed : Type 0
RunsAreFollowed =
    (g : GlobalTree) (files : List RoleFile) (is : IsProjected g files) (messages : List Passing) (point : Point) →
    Goes (start (said g.body)) messages point → (me : Name) → Contains g.roles me →
    (acts : List Act) × (end : Position) × Run (whole (first_of (is.locals me))) acts end × (messages_of acts ≡ named me messages)

-- and where the run is complete, so is the role's
abbrev pub CompleteRunsAreFollowed : Type 0
CompleteRunsAreFollowed =
    (g : GlobalTree) (files : List RoleFile) (is : IsProjected g files) (messages : List Passing) → Complete (said g.body) messages →
    (me : Name) → Contains g.roles me →
    (acts : List Act) × (end : Position) × Run (whole (first_of (is.locals me))) acts end × Finished end
    × (messages_of acts ≡ named me messages)
