-- The typestates of eight protocols, by computation.
use Rattle.std.proofs.Common.{◌≡◌, ℕ, List, [], ◌∷◌, refl, codes, false}
use Rattle.std.specs.Fmt.{digits}
use Rattle.mg_text.specs.Call.{Name}
use Rattle.mg_text.specs.declared.place.Place.{Place}
use Rattle.scr_tree.specs.declared.syntax.Direction.TheVariants as directions
use Rattle.scr_tree.specs.declared.syntax.Payload.{Payload}
use Rattle.scr_tree.specs.declared.syntax.Payload.TheVariants as payloads
use Rattle.scr_tree.specs.declared.syntax.Message.{Message as Said}
use Rattle.scr_tree.specs.Tree.{LocalTree, Statements, Nothing, Says, Choice, Rec, Continue, Do, NoBranch, Branch}
use Rattle.ts_tree.specs.declared.parts.TypeName.{TypeName}
use Rattle.ts_tree.specs.declared.parts.TypeName.TheVariants as types
use Rattle.ts_tree.specs.declared.parts.Branch.{Branch as Answer}
use Rattle.ts_tree.specs.declared.parts.To.{To}
use Rattle.ts_tree.specs.declared.parts.To.TheVariants as tos
use Rattle.ts_tree.specs.Typestate.{One, ByAnswer, Method, State}
use Rattle.stm_gen.specs.Numbered.{typestate_of}

-- ---- how a protocol and a typestate are written down

abbrev local : (me other : Name) → Statements → LocalTree
local me other body = record { file = 0; name = codes "P"; me = me; roles = me ∷ other ∷ []; body = body; others = [] }

abbrev method : TypeName → Name → List TypeName → To → Method
method result name params to = record { result = result; name = name; params = params; target = One to }

-- a label call, and its answers
abbrev asked : Name → Name → List Answer → Method
asked enum name answers = record { result = types.Named enum; name = name; params = []; target = ByAnswer answers }

abbrev answer : Name → ℕ → Answer
answer label k = record { label = label; to = tos.State k }

abbrev state : Name → List Method → State
state name methods = record { name = name; methods = methods; drops = false }

module _ (p : Place) where
  abbrev to : Name → Name → Payload → Said
  to peer label payload = record { place = p; direction = directions.To; peer = peer; label = label; payload = payload }

  abbrev from : Name → Name → Payload → Said
  from peer label payload = record { place = p; direction = directions.From; peer = peer; label = label; payload = payload }

  -- ---- no statement

  empty : typestate_of (local (codes "C") (codes "S") Nothing) ≡ record { name = codes "CProtocol"; states = [] }
  empty = refl

  -- ---- rec X { choice at C { add(Int) to S; total(Int) from S; continue X; } or { bye() to S; } }

  abbrev adder : Statements
  adder =
      Rec p (codes "X")
      (Choice p (codes "C")
      (Branch (Says (to (codes "S") (codes "add") payloads.Int) (Says (from (codes "S") (codes "total") payloads.Int)
      (Continue p (codes "X") Nothing)))
      (Branch (Says (to (codes "S") (codes "bye") payloads.Nothing) Nothing) NoBranch))
      Nothing)
      Nothing

  adding : typestate_of (local (codes "C") (codes "S") adder) ≡ record {
    name = codes "CProtocol";
    states = state (codes "State0") (
        method types.Void (codes "send_addIntToS") (types.Int ∷ []) (tos.State 1)
        ∷ method types.Void (codes "send_byeToS") [] tos.End
        ∷ []
        )
        ∷ state (codes "State1") (method types.Int (codes "receive_totalIntFromS") [] (tos.State 0) ∷ [])
        ∷ [];
  }
  unfolding digits
  adding = refl

  -- ---- rec X { choice at C { add(Int) from C; total(Int) to C; continue X; } or { bye() from C; } }, of S

  abbrev served : Statements
  served =
      Rec p (codes "X")
      (Choice p (codes "C")
      (Branch (Says (from (codes "C") (codes "add") payloads.Int) (Says (to (codes "C") (codes "total") payloads.Int)
      (Continue p (codes "X") Nothing)))
      (Branch (Says (from (codes "C") (codes "bye") payloads.Nothing) Nothing) NoBranch))
      Nothing)
      Nothing

  serving : typestate_of (local (codes "S") (codes "C") served) ≡ record {
    name = codes "SProtocol";
    states = state (codes "State0") (
        asked (codes "SChoice1") (codes "receive_SChoice1LabelFromC") (answer (codes "add") 1 ∷ answer (codes "bye") 3 ∷ []) ∷ []
        )
        ∷ state (codes "State1") (method types.Int (codes "receive_addIntFromC") [] (tos.State 2) ∷ [])
        ∷ state (codes "State2") (method types.Void (codes "send_totalIntToC") (types.Int ∷ []) (tos.State 0) ∷ [])
        ∷ state (codes "State3") (method types.Void (codes "receive_byeFromC") [] tos.End ∷ [])
        ∷ [];
  }
  unfolding digits
  serving = refl

  -- ---- choice at S { more(int) from S; } or { stop() from S; } ack() to S;

  abbrev acknowledged : Statements
  acknowledged =
      Choice p (codes "S")
      (Branch (Says (from (codes "S") (codes "more") payloads.Int) Nothing)
      (Branch (Says (from (codes "S") (codes "stop") payloads.Nothing) Nothing) NoBranch))
      (Says (to (codes "S") (codes "ack") payloads.Nothing) Nothing)

  acknowledging : typestate_of (local (codes "C") (codes "S") acknowledged) ≡ record {
    name = codes "CProtocol";
    states = state (codes "State0") (
        asked (codes "CChoice1") (codes "receive_CChoice1LabelFromS") (answer (codes "more") 1 ∷ answer (codes "stop") 2 ∷ []) ∷ []
        )
        ∷ state (codes "State1") (method types.Int (codes "receive_moreIntFromS") [] (tos.State 3) ∷ [])
        ∷ state (codes "State2") (method types.Void (codes "receive_stopFromS") [] (tos.State 3) ∷ [])
        ∷ state (codes "State3") (method types.Void (codes "send_ackToS") [] tos.End ∷ [])
        ∷ [];
  }
  unfolding digits
  acknowledging = refl

  -- ---- choice at C { a() to S; c() to S; } or { b() to S; c() to S; }
  -- The same text is left behind a and behind b, and yet each leads to the state of its own branch.

  abbrev alike : Statements
  alike =
      Choice p (codes "C")
      (Branch (Says (to (codes "S") (codes "a") payloads.Nothing) (Says (to (codes "S") (codes "c") payloads.Nothing) Nothing))
      (Branch (Says (to (codes "S") (codes "b") payloads.Nothing) (Says (to (codes "S") (codes "c") payloads.Nothing) Nothing)) NoBranch))
      Nothing

  each_its_own : typestate_of (local (codes "C") (codes "S") alike) ≡ record {
    name = codes "CProtocol";
    states = state (codes "State0") (
        method types.Void (codes "send_aToS") [] (tos.State 1) ∷ method types.Void (codes "send_bToS") [] (tos.State 2) ∷ []
        )
        ∷ state (codes "State1") (method types.Void (codes "send_cToS") [] tos.End ∷ [])
        ∷ state (codes "State2") (method types.Void (codes "send_cToS") [] tos.End ∷ [])
        ∷ [];
  }
  unfolding digits
  each_its_own = refl

  -- ---- rec X { a() to S; rec Y { choice at C { b() to S; continue X; } or { c() to S; continue Y; } or { d() to S; } } e() to S; }

  abbrev nested : Statements
  nested =
      Rec p (codes "X")
      (Says (to (codes "S") (codes "a") payloads.Nothing)
      (Rec p (codes "Y")
      (Choice p (codes "C")
      (Branch (Says (to (codes "S") (codes "b") payloads.Nothing) (Continue p (codes "X") Nothing))
      (Branch (Says (to (codes "S") (codes "c") payloads.Nothing) (Continue p (codes "Y") Nothing))
      (Branch (Says (to (codes "S") (codes "d") payloads.Nothing) Nothing) NoBranch)))
      Nothing)
      (Says (to (codes "S") (codes "e") payloads.Nothing) Nothing)))
      Nothing

  nesting : typestate_of (local (codes "C") (codes "S") nested) ≡ record {
    name = codes "CProtocol";
    states = state (codes "State0") (method types.Void (codes "send_aToS") [] (tos.State 1) ∷ [])
        ∷ state (codes "State1") (
        method types.Void (codes "send_bToS") [] (tos.State 0)
        ∷ method types.Void (codes "send_cToS") [] (tos.State 1)
        ∷ method types.Void (codes "send_dToS") [] (tos.State 2)
        ∷ []
        )
        ∷ state (codes "State2") (method types.Void (codes "send_eToS") [] tos.End ∷ [])
        ∷ [];
  }
  unfolding digits
  nesting = refl

  -- ---- local protocol Ping at C(role C, role S) { ping() to S; do Pong(C, S); }
  -- local protocol Pong at C(role C, role S) { choice at S { again() from S; do Ping(C, S); } or { stop() from S; } }

  abbrev ping : Statements
  ping = Says (to (codes "S") (codes "ping") payloads.Nothing) (Do p (codes "Pong") Nothing)

  abbrev pong : Statements
  pong =
      Choice p (codes "S")
      (Branch (Says (from (codes "S") (codes "again") payloads.Nothing) (Do p (codes "Ping") Nothing))
      (Branch (Says (from (codes "S") (codes "stop") payloads.Nothing) Nothing) NoBranch))
      Nothing

  abbrev both : LocalTree
  both = record {
    file = 0;
    name = codes "Ping";
    me = codes "C";
    roles = codes "C" ∷ codes "S" ∷ [];
    body = ping;
    others = record { place = p; name = codes "Pong"; body = pong } ∷ [];
  }

  going_round : typestate_of both ≡ record {
    name = codes "CProtocol";
    states = state (codes "State0") (method types.Void (codes "send_pingToS") [] (tos.State 1) ∷ [])
        ∷ state (codes "State1") (
        asked (codes "CChoice1") (codes "receive_CChoice1LabelFromS") (answer (codes "again") 2 ∷ answer (codes "stop") 3 ∷ []) ∷ []
        )
        ∷ state (codes "State2") (method types.Void (codes "receive_againFromS") [] (tos.State 0) ∷ [])
        ∷ state (codes "State3") (method types.Void (codes "receive_stopFromS") [] tos.End ∷ [])
        ∷ [];
  }
  unfolding digits
  going_round = refl

  -- ---- A goes on as B, whose body has no state: it leads where its own `do` leads, and to the end where it has none
  -- local protocol A at C(role C, role S) { choice at C { a() to S; do B(C, S); } or { b() to S; do E(C, S); } }
  -- local protocol B at C(role C, role S) { rec X { do A(C, S); } } local protocol E at C(role C, role S) { }

  abbrev leading : LocalTree
  leading = record {
    file = 0;
    name = codes "A";
    me = codes "C";
    roles = codes "C" ∷ codes "S" ∷ [];
    body = Choice p (codes "C")
        (Branch (Says (to (codes "S") (codes "a") payloads.Nothing) (Do p (codes "B") Nothing))
        (Branch (Says (to (codes "S") (codes "b") payloads.Nothing) (Do p (codes "E") Nothing)) NoBranch))
        Nothing;
    others = record { place = p; name = codes "B"; body = Rec p (codes "X") (Do p (codes "A") Nothing) Nothing }
        ∷ record { place = p; name = codes "E"; body = Nothing }
        ∷ [];
  }

  leading_on : typestate_of leading ≡ record {
    name = codes "CProtocol";
    states = state (codes "State0") (
        method types.Void (codes "send_aToS") [] (tos.State 0) ∷ method types.Void (codes "send_bToS") [] tos.End ∷ []
        )
        ∷ [];
  }
  unfolding digits
  leading_on = refl
