-- What projection promises of roles that do what `project` answered for them.
use Rattle.std.specs.Prelude.{◌≡◌, ◌≢◌, List, [], Contains, Some}
use Rattle.mg_text.specs.Call.{Name}
use Rattle.scr_tree.specs.Meaning.{first_of}
use Rattle.scr_tree.specs.Steps.{Act, Position, whole}
use Rattle.scr_tree.specs.Tree.{LocalTree}
use Rattle.scr_global.specs.Alone.{Step, Run, Finished}
use Rattle.scr_global.specs.Global.{Passing}
use Rattle.scr_global.specs.Laws.{IsReached, IsComplete, messages_of, named}
use Rattle.scr_global.specs.Points.{Point, start, Goes, Complete}
use Rattle.scr_global.specs.Systems.{System, Moved, waits_for}
use Rattle.scr_global.specs.Tree.{said}
use Rattle.scr_global_tree.specs.Tree.{GlobalTree}
use Rattle.scr_global_tree.specs.Valid.{IsValid}
use Rattle.scr_project.specs.Outcome.{Outcome, Protocol}

-- these local protocols are what is answered for the roles of a global protocol, which is valid by its type
pub record AreProjected (g : GlobalTree) (locals : Name → LocalTree) : Type 0 where
  pub valid : ∥ IsValid g ∥₁
  pub answered : (me : Name) → Contains g.roles me → Outcome g me (Protocol (locals me))

-- where next acts of a role take from or look at a list that isn't empty, one of them is a step
abbrev pub MessagesAreTaken : Type 0
MessagesAreTaken =
    (g : GlobalTree) (locals : Name → LocalTree) → AreProjected g locals → (c : System) → IsReached g.roles locals c → (me peer : Name) →
    Contains g.roles me →
    (act : Act) (to : Position) → Step (c.at me) act to → waits_for act ≡ Some peer → c.lists peer me ≢ [] →
    (other : Act) × (d : System) × (waits_for other ≡ Some peer) × Moved me c other d

-- where no role can do a step, every role is complete and every list is empty
abbrev pub NoneIsStuck : Type 0
NoneIsStuck =
    (g : GlobalTree) (locals : Name → LocalTree) → AreProjected g locals → (c : System) → IsReached g.roles locals c →
    ((me : Name) (act : Act) (d : System) → Contains g.roles me → Moved me c act d → ⊥) → IsComplete g.roles c

-- the messages of a run of the global protocol that name a role are a run of its projection, but for looks
abbrev pub RunsAreFollowed : Type 0
RunsAreFollowed =
    (g : GlobalTree) (locals : Name → LocalTree) → AreProjected g locals → (messages : List Passing) (point : Point) →
    Goes (start (said g.body)) messages point → (me : Name) → Contains g.roles me →
    (acts : List Act) × (end : Position) × Run (whole (first_of (locals me))) acts end × (messages_of acts ≡ named me messages)

-- and where the run is complete, so is the role's
abbrev pub CompleteRunsAreFollowed : Type 0
CompleteRunsAreFollowed =
    (g : GlobalTree) (locals : Name → LocalTree) → AreProjected g locals → (messages : List Passing) → Complete (said g.body) messages →
    (me : Name) → Contains g.roles me →
    (acts : List Act) × (end : Position) × Run (whole (first_of (locals me))) acts end × Finished end
    × (messages_of acts ≡ named me messages)
