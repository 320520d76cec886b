-- Worked runs: the lines that tell them, and what they print.
use Rattle.std.specs.Prelude.{◌≡◌, ℕ, List, [], ◌∷◌, ◌++◌, Some, None, pos, true, false, codes}
use Rattle.mg_text.specs.Call.{Name}
use Rattle.mg_text.specs.declared.place.Place.{Place}
use Rattle.mg_text.specs.declared.event.Event.TheVariants as seen
use Rattle.mg_text.specs.declared.event.Carried.TheVariants as carried
use Rattle.jv_core.specs.declared.program.CoreType.{CoreType}
use Rattle.jv_core.specs.declared.program.CoreType.TheVariants as types
use Rattle.jv_core.specs.declared.program.MethodKind.TheVariants as kinds
use Rattle.jv_core.specs.Tree.{NoStmt, Method, Program}
use Rattle.vm_world_law.specs.declared.role.RoleEvent.{RoleEvent}
use Rattle.vm_world_law.specs.World.{of_role}
use Rattle.mg_trace.specs.Trace.{trace, printed}

abbrev pub nowhere : Place
nowhere = record { file = 0; line = 1; column = 1 }

-- a method with this name and result
abbrev pub method : (name : ℕ) → CoreType → Method
method name result = record {
  place = nowhere;
  end = nowhere;
  class = 0;
  name = name;
  kind = kinds.Protocol;
  result = result;
  params = 0;
  slots = [];
  loops = [];
  body = NoStmt;
}

-- enum Answer { NO, YES }
-- class Counter { void stop(); int next(); boolean isLast(); Answer answer(); }
abbrev pub counters : Program
counters = record {
  classes = record { place = nowhere; name = 0; typestate = Some 0; fields = []; methods = 0 ∷ 1 ∷ 2 ∷ 3 ∷ [] } ∷ [];
  enums = record { name = 5; constants = 6 ∷ 7 ∷ [] } ∷ [];
  methods = method 1 types.Void ∷ method 2 types.Int ∷ method 3 types.Boolean ∷ method 4 (types.Enum 0) ∷ [];
  typestates = [];
  names = codes "Counter" ∷ codes "stop" ∷ codes "next" ∷ codes "isLast" ∷ codes "answer" ∷ codes "Answer" ∷ codes "NO" ∷ codes "YES" ∷ [];
}

-- one role, whose counter is stopped
abbrev pub stopped : List RoleEvent
stopped =
    of_role 0 (seen.Made 0 (codes "Counter"))
    ∷ of_role 0 (seen.Enter 0 (codes "stop"))
    ∷ of_role 0 (seen.Leave 0 None)
    ∷ []

abbrev pub IsTold : Type 0
IsTold = trace counters (codes "main" ∷ []) stopped ≡ codes "main made Counter#0\nmain enter Counter#0 stop\nmain leave Counter#0 stop\n"

-- a counter that calls itself: each method is left by its own name, with its own answer
abbrev pub nested : List RoleEvent
nested =
    of_role 0 (seen.Made 0 (codes "Counter"))
    ∷ of_role 0 (seen.Enter 0 (codes "isLast"))
    ∷ of_role 0 (seen.Enter 0 (codes "next"))
    ∷ of_role 0 (seen.Enter 0 (codes "answer"))
    ∷ of_role 0 (seen.Leave 0 (Some (pos 1)))
    ∷ of_role 0 (seen.Leave 0 (Some (pos 41)))
    ∷ of_role 0 (seen.Leave 0 (Some (pos 0)))
    ∷ []

abbrev pub AreNested : Type 0
AreNested = trace counters (codes "main" ∷ []) nested
    ≡ codes "main made Counter#0\nmain enter Counter#0 isLast\nmain enter Counter#0 next\nmain enter Counter#0 answer\n"
    ++ codes "main leave Counter#0 answer YES\nmain leave Counter#0 next 41\nmain leave Counter#0 isLast false\n"

-- two roles, each with an object of the number 0
abbrev pub apart : List RoleEvent
apart =
    of_role 0 (seen.Made 0 (codes "Counter"))
    ∷ of_role 1 (seen.Made 0 (codes "Timer"))
    ∷ of_role 1 (seen.Enter 0 (codes "wait"))
    ∷ of_role 0 (seen.Enter 0 (codes "next"))
    ∷ of_role 0 (seen.Send (codes "B") (codes "more") (carried.Int (pos 7)))
    ∷ of_role 0 (seen.Print (codes "sent"))
    ∷ of_role 1 (seen.Look (codes "A") (codes "more"))
    ∷ of_role 1 (seen.Take (codes "A") (codes "more") (carried.Int (pos 7)))
    ∷ of_role 1 (seen.Print (codes "got"))
    ∷ of_role 0 (seen.Leave 0 (Some (pos 8)))
    ∷ of_role 1 (seen.Leave 0 None)
    ∷ []

abbrev pub roles : List Name
roles = codes "A" ∷ codes "B" ∷ []

abbrev pub AreApart : Type 0
AreApart = trace counters roles apart
    ≡ codes "A made Counter#0\nB made Timer#0\nB enter Timer#0 wait\nA enter Counter#0 next\nA send B more 7\n"
    ++ codes "B look A more\nB take A more 7\nA leave Counter#0 next 8\nB leave Timer#0 wait\n"

-- what the runs print
pub record ArePrinted : Type 0 where
  pub named : printed true roles apart ≡ codes "A: sent\nB: got\n"
  pub alone : printed false roles apart ≡ codes "sent\ngot\n"
  pub nothing : printed true roles stopped ≡ []

pub record AreWorked : Type 0 where
  pub told : IsTold
  pub nested : AreNested
  pub apart : AreApart
  pub printed : ArePrinted
