-- What roles have done so far is part of a conversation, which needn't come to an end.
use Rattle.std.specs.Prelude.{◌≡◌, ◌≢◌, ◌⊎◌, List, [], ◌++◌, Contains}
use Rattle.mg_text.specs.Call.{Name}
use Rattle.scr_tree.specs.Tree.{LocalTree}
use Rattle.scr_tree.specs.Meaning.{first_of}
use Rattle.scr_tree.specs.Protocol.{Message}
use Rattle.scr_tree.specs.Steps.{Act, Position, whole}
use Rattle.scr_global.specs.Alone.{Run, Finished}
use Rattle.scr_global.specs.Global.{Passing, Global}
use Rattle.scr_global.specs.Points.{Point, start, Goes}
use Rattle.scr_global.specs.Systems.{System}
use Rattle.scr_global.specs.Laws.{named, messages_of, AreProjections, IsReached}
use Rattle.scr_faithful.specs.Faithful.{acts_on}

-- Wherever a conversation has come to, each role can come to be named again, or has nothing more to do.
abbrev pub NoneIsForgotten : List Name → Global → (Name → LocalTree) → Type 0
NoneIsForgotten roles g locals =
    (messages : List Passing) (point : Point) → Goes (start g) messages point → (me : Name) → Contains roles me →
    ((more : List Passing) × (to : Point) × Goes point more to × (named me more ≢ []))
    ⊎ ((acts : List Act) (end : Position) → Run (whole (first_of (locals me))) acts end → messages_of acts ≡ named me messages → Finished end)

-- a role that has done some of these messages, the first ones, can do the others from where it stands
pub record CanDoMore (at : Position) (done messages : List Message) : Type 0 where
  pub acts : List Act
  pub end : Position
  pub run : Run at acts end
  pub are : messages ≡ done ++ messages_of acts

-- At each moment there is a conversation of which each role has done the first of its messages, and can do the others.
abbrev pub EachHasDoneAPart : Type 0
EachHasDoneAPart =
    (roles : List Name) (g : Global) (locals : Name → LocalTree) → AreProjections roles g locals → NoneIsForgotten roles g locals →
    (c : System) (path : IsReached roles locals c) →
    (messages : List Passing) × (point : Point) × Goes (start g) messages point
    × ((me : Name) → Contains roles me → CanDoMore (c.at me) (messages_of (acts_on path me)) (named me messages))
