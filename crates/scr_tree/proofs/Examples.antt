-- Protocols that go on as one another: what they may do, and where they are at fault, computed from the definitions.
use Rattle.std.proofs.Common.{◌≡◌, ℕ, List, [], ◌∷◌, codes, Some, None, refl, ap, arith}
use Rattle.mg_text.specs.Call.{Name, Call}
use Rattle.mg_text.specs.declared.place.Place.{Place}
use Rattle.mg_read.specs.Culprit.{culprit}
use Rattle.scr_tree.specs.declared.syntax.Direction.TheVariants as directions
use Rattle.scr_tree.specs.declared.syntax.Payload.TheVariants as payloads
use Rattle.scr_tree.specs.declared.syntax.Message.{Message as Said}
use Rattle.scr_tree.specs.declared.written.Role.{Role}
use Rattle.scr_tree.specs.Tree.{LocalTree, Titled, Statements, Nothing, Says, Choice, Do, NoBranch, Branch}
use Rattle.scr_tree.specs.Written.{WrittenPart, WrittenTree, local_of, parts_in, title_of}
use Rattle.scr_tree.specs.Protocol.{Send, Take}
use Rattle.scr_tree.specs.Steps.{Act, Moves, Looks}
use Rattle.scr_tree.specs.Traces.{Trace}
use Rattle.scr_tree.specs.Going.{RolesDiffer, gives}

abbrev at : (line column : ℕ) → Place
at line column = record { file = 0; line = line; column = column }

abbrev client : Name
client = codes "C"

abbrev server : Name
server = codes "S"

abbrev pong : Name
pong = codes "Pong"

abbrev ping : Name
ping = codes "Ping"

abbrev role : (line column : ℕ) → Name → Role
role line column name = record { place = at line column; name = name }

abbrev said : (line column : ℕ) → Name → Said
said line column label = record {
  place = at line column;
  direction = directions.From;
  peer = server;
  label = label;
  payload =
      payloads.Nothing;
}

-- ---- local protocol Ping at C(role C, role S) { ping() to S; do Pong(C, S); }
-- local protocol Pong at C(role C, role S) { choice at S { again() from S; do Ping(C, S); } or { stop() from S; } }

-- the first protocol, whose `do` is given these roles
abbrev first : List Name → WrittenPart
first roles = record {
  place = at 1 16;
  name = ping;
  me = role 1 24 client;
  roles = role 1 31 client ∷ role 1 39 server ∷ [];
  carries = record { place = at 2 3; types = [] } ∷ [];
  arguments = record { place = at 3 3; name = pong; roles = roles } ∷ [];
  body = Says (record { place = at 2 3; direction = directions.To; peer = server; label = codes "ping"; payload = payloads.Nothing })
      (Do (at 3 3) pong Nothing);
}

abbrev second : WrittenPart
second = record {
  place = at 5 16;
  name = pong;
  me = role 5 24 client;
  roles = role 5 31 client ∷ role 5 39 server ∷ [];
  carries = record { place = at 6 17; types = [] } ∷ record { place = at 6 55; types = [] } ∷ [];
  arguments = record { place = at 6 33; name = ping; roles = client ∷ server ∷ [] } ∷ [];
  body = Choice (at 6 3) server
      (Branch (Says (said 6 17 (codes "again")) (Do (at 6 33) ping Nothing)) (Branch (Says (said 6 55 (codes "stop")) Nothing) NoBranch))
      Nothing;
}

abbrev pinging : List Name → WrittenTree
pinging roles = record { file = 0; types = []; first = first roles; others = second ∷ [] }

abbrev local : LocalTree
local = local_of (pinging (client ∷ server ∷ []))

abbrev send_ping : Act
send_ping = Moves (Send server (codes "ping") payloads.Nothing)

abbrev look : Name → Act
look label = Looks 1 server label

abbrev take : Name → Act
take label = Moves (Take server label payloads.Nothing)

-- how the first of some names begins
abbrev first_byte : List Name → ℕ
first_byte [] = 0
first_byte ([] ∷ names) = 0
first_byte ((byte ∷ bytes) ∷ names) = byte

-- with `do Pong(S, C)`: RolesDiffer, at the `do`, with the name of the protocol behind it
roles_differ : RolesDiffer (first (server ∷ client ∷ [])) (gives (record { place = at 3 3; name = pong; roles = server ∷ client ∷ [] }))
    (culprit (at 3 3) pong)
roles_differ = (refl, λ e. let one : 83 ≡ 67 = ap first_byte e in omega (arith, one))

-- ---- local protocol P(self C, role S) { do P(C, S); }

abbrev itself : Titled
itself = record { name = codes "P"; body = Do (at 1 36) (codes "P") Nothing }
