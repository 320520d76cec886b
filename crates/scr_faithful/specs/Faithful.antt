-- What roles that follow their projections do together is a conversation of the global protocol.
use Rattle.std.specs.Prelude.{◌≡◌, List, [], ◌∷◌, ◌++◌, Contains}
use Rattle.mg_text.specs.Call.{Name}
use Rattle.scr_tree.specs.Tree.{LocalTree}
use Rattle.scr_tree.specs.Protocol.{Message}
use Rattle.scr_tree.specs.Steps.{Act, Position}
use Rattle.scr_global.specs.Alone.{Run, Finished}
use Rattle.scr_global.specs.Global.{Passing, Global}
use Rattle.scr_global.specs.Points.{Point, start, Goes, Over, Complete}
use Rattle.scr_global.specs.Tree.{Statements, said}
use Rattle.scr_global.specs.Conditions.{AreClean}
use Rattle.scr_global.specs.Systems.{System, Reaches, here, after, put}
use Rattle.scr_global.specs.Laws.{named, messages_of, AreProjections, IsReached, IsComplete}
use Rattle.scr_faithful.specs.Guarded.{IsGuarded}

-- what each role does on a path of steps, the first act first
abbrev pub acts_on : {roles : List Name} {c d : System} → Reaches roles c d → Name → List Act
acts_on here = λ me. []
acts_on (after {me = me} {act = act} path listed moved) = put me (acts_on path me ++ act ∷ []) (acts_on path)

-- a text that meets the conditions is guarded
abbrev pub CleanIsGuarded : Type 0
CleanIsGuarded = (roles : List Name) (text : Statements) → AreClean roles text → IsGuarded (said text)

-- Where every role is complete and every list is empty, there is a complete conversation of the global protocol of which each role has done
-- its part: its messages, looks left out, are those that name it.
abbrev pub CompleteIsConversation : Type 0
CompleteIsConversation =
    (roles : List Name) (g : Global) (locals : Name → LocalTree) → AreProjections roles g locals → IsGuarded g →
    (c : System) (path : IsReached roles locals c) → IsComplete roles c →
    (messages : List Passing) × Complete g messages
    × ((me : Name) → Contains roles me → messages_of (acts_on path me) ≡ named me messages)

-- whatever was said, the conversation can be brought to an end
abbrev pub CanEnd : Global → Type 0
CanEnd g = (messages : List Passing) (point : Point) → Goes (start g) messages point →
    (more : List Passing) × (end : Point) × Goes point more end × Over end

-- A role that has done some of these messages, the first ones, can do the others from where it stands, and is complete behind them.
pub record CanDoRest (at : Position) (done messages : List Message) : Type 0 where
  pub acts : List Act
  pub end : Position
  pub run : Run at acts end
  pub finished : Finished end
  pub are : messages ≡ done ++ messages_of acts

-- At each moment there is a complete conversation of which each role has done the first of its messages, and can do the others.
abbrev pub EachHasDoneItsPart : Type 0
EachHasDoneItsPart =
    (roles : List Name) (g : Global) (locals : Name → LocalTree) → AreProjections roles g locals → CanEnd g →
    (c : System) (path : IsReached roles locals c) →
    (messages : List Passing) × Complete g messages
    × ((me : Name) → Contains roles me → CanDoRest (c.at me) (messages_of (acts_on path me)) (named me messages))
