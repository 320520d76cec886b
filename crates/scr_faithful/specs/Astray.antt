-- Without an end in reach, what roles do may be no part of a conversation: a whole example.
use Rattle.std.specs.Prelude.{◌≡◌, ℕ, List, [], ◌∷◌, ◌++◌, codes, Contains, Option, Some, None}
use Rattle.mg_text.specs.Call.{Name}
use Rattle.mg_text.specs.declared.place.Place.{Place}
use Rattle.scr_tree.specs.declared.syntax.Payload.TheVariants as payloads
use Rattle.scr_tree.specs.Protocol.{Message}
use Rattle.scr_tree.specs.Tree.{LocalTree}
use Rattle.scr_tree.specs.Tree as local
use Rattle.scr_global.specs.Global.{Passing}
use Rattle.scr_global.specs.Points.{Point, start, Goes}
use Rattle.scr_global.specs.Tree.{Told, Statements, Nothing, Says, Choice, Rec, Continue, NoBranch, Branch, said}
use Rattle.scr_global.specs.Texts.{projected}
use Rattle.scr_global.specs.Systems.{System}
use Rattle.scr_global.specs.Laws.{named, messages_of, AreProjections, IsReached}
use Rattle.scr_faithful.specs.Faithful.{acts_on}

abbrev place : ℕ → ℕ → Place
place line column = record { file = 0; line = line; column = column }

abbrev told : ℕ → ℕ → Name → Name → Name → Told
told line column label from to = record {
  place = place line column;
  from = from;
  to = to;
  label = label;
  payload = payloads.Nothing;
}

abbrev pub roles : List Name
roles = codes "A" ∷ codes "B" ∷ codes "C" ∷ codes "D" ∷ []

-- choice at A { m() from A to B; rec Y { k() from A to B; continue Y; } } or { n() from A to B; } l() from C to D;
-- C sends l whatever A chooses, but where A chose m, no conversation ever comes to l.
abbrev pub text : Statements
text = Choice (place 2 3) (codes "A")
    (Branch (Says (told 3 5 (codes "m") (codes "A") (codes "B")) (Rec (place 4 5) (codes "Y")
    (Says (told 4 13 (codes "k") (codes "A") (codes "B")) (Continue (place 4 29) (codes "Y") Nothing)) Nothing))
    (Branch (Says (told 6 5 (codes "n") (codes "A") (codes "B")) Nothing) NoBranch))
    (Says (told 8 3 (codes "l") (codes "C") (codes "D")) Nothing)

-- the statements, or none
abbrev body_of : Option local.Statements → local.Statements
body_of None = local.Nothing
body_of (Some s) = s

abbrev pub locals : Name → LocalTree
locals me = record { file = 0; name = codes "P"; me = me; roles = roles; body = body_of (projected me text); others = [] }

-- Steps lead to a system of which no conversation, complete or not, has what each role has done among the first of its messages.
abbrev pub SomeGoAstray : Type 0
SomeGoAstray =
    AreProjections roles (said text) locals × (c : System) × (path : IsReached roles locals c)
    × ((messages : List Passing) (point : Point) → Goes (start (said text)) messages point →
    ((me : Name) → Contains roles me → (rest : List Message) × (named me messages ≡ messages_of (acts_on path me) ++ rest)) → ⊥)
