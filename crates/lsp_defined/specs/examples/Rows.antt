-- Worked rows: where a text says what calls do, and what is said of a word.
use Rattle.std.specs.Prelude.{◌≡◌, ℕ, [], ◌∷◌, ◌++◌, Some, None, codes, false}
use Rattle.mg_text.specs.Call.{Name}
use Rattle.mg_text.specs.declared.place.Place.{Place}
use Rattle.scr_tree.specs.declared.syntax.Direction.{Direction}
use Rattle.scr_tree.specs.declared.syntax.Direction.TheVariants as directions
use Rattle.scr_tree.specs.declared.syntax.Payload.{Payload}
use Rattle.scr_tree.specs.declared.syntax.Payload.TheVariants as payloads
use Rattle.scr_tree.specs.declared.syntax.Message.{Message}
use Rattle.scr_tree.specs.Tree.{LocalTree, Statements, Nothing, Says, Choice, Rec, Continue, NoBranch, Branch}
use Rattle.ts_tree.specs.declared.parts.To.TheVariants as tos
use Rattle.ts_tree.specs.declared.parts.TypeName.TheVariants as types
use Rattle.ts_tree.specs.Typestate.{One, Method, Typestate}
use Rattle.ts_parse.specs.declared.written.Naming.{Naming}
use Rattle.ts_parse.specs.Written.{to_one, WMethod, offer, drop_end, WFile}
use Rattle.stm_gen.specs.Numbered.{typestate_of}
use Rattle.lsp_defined.specs.Called.{places_called}
use Rattle.lsp_defined.specs.Spots.{spot, message_spots, method_spots}
use Rattle.lsp_defined.specs.Lines.{lines_of}

abbrev pub at : (line column : ℕ) → Place
at line column = record { file = 0; line = line; column = column }

abbrev message : (line column : ℕ) → Direction → (peer label : Name) → Payload → Message
message line column direction peer label payload =
    record { place = at line column; direction = direction; peer = peer; label = label; payload = payload }

abbrev local : (me peer : Name) → Statements → LocalTree
local me peer body = record { file = 0; name = codes "P"; me = me; roles = me ∷ peer ∷ []; body = body; others = [] }

-- local protocol P at S(role C, role S) {
--     rec X {
--         choice at C { add(Int) from C; total(Int) to C; continue X; }
--         or { bye() from C; }
--     }
-- }
abbrev pub server : LocalTree
server =
    local (codes "S") (codes "C")
    (Rec (at 2 5) (codes "X")
    (Choice (at 3 9) (codes "C")
    (Branch (Says (message 3 23 directions.From (codes "C") (codes "add") payloads.Int)
    (Says (message 3 40 directions.To (codes "C") (codes "total") payloads.Int) (Continue (at 3 57) (codes "X") Nothing)))
    (Branch (Says (message 4 14 directions.From (codes "C") (codes "bye") payloads.Nothing) Nothing) NoBranch))
    Nothing)
    Nothing)

-- local protocol P at C(role C, role S) {
--     m() to S;
--     m() to S;
-- }
abbrev pub twice : LocalTree
twice =
    local (codes "C") (codes "S")
    (Says (message 2 5 directions.To (codes "S") (codes "m") payloads.Nothing)
    (Says (message 3 5 directions.To (codes "S") (codes "m") payloads.Nothing) Nothing))

-- typestate T {
--     A = { void m(): B }
--     B = { void m(): end, drop: end }
-- }
abbrev naming : (line column : ℕ) → Name → Naming
naming line column text = record { place = at line column; text = text }

abbrev written_method : Naming → Naming → WMethod
written_method name target = record { result = types.Void; name = name; params = []; target = to_one target }

abbrev pub written : WFile
written = record {
  name = codes "T";
  states = record {
    name = naming 2 5 (codes "A");
    entries = offer (written_method (naming 2 16 (codes "m")) (naming 2 21 (codes "B"))) ∷ [];
  }
      ∷ record {
        name = naming 3 5 (codes "B");
        entries = offer (written_method (naming 3 16 (codes "m")) (naming 3 21 (codes "end"))) ∷ drop_end (at 3 26) ∷ [];
      }
      ∷ [];
}

abbrev to_end : Name → Method
to_end name = record { result = types.Void; name = name; params = []; target = One tos.End }

abbrev pub typestate : Typestate
typestate = record {
  name = codes "T";
  states = record {
    name = codes "A";
    methods = record { result = types.Void; name = codes "m"; params = []; target = One (tos.State 1) } ∷ [];
    drops = false;
  }
      ∷ record { name = codes "B"; methods = to_end (codes "m") ∷ []; drops = false }
      ∷ [];
}

pub record Rows : Type 0 where
  -- a call that one message stands for, the call of a choice elsewhere, a call of two messages, and one of none
  pub received : places_called server (codes "receive_addIntFromC") ≡ at 3 23 ∷ []
  pub chosen : places_called server (codes "receive_SChoice1LabelFromC") ≡ at 3 9 ∷ []
  pub both : places_called twice (codes "send_mToS") ≡ at 2 5 ∷ at 3 5 ∷ []
  pub none : places_called twice (codes "send_nToS") ≡ []
  -- words that say something
  pub messages : message_spots server ≡
      spot (at 3 9) None (codes "receive_SChoice1LabelFromC") ∷
      spot (at 3 23) None (codes "receive_addIntFromC") ∷
      spot (at 3 40) None (codes "send_totalIntToC") ∷
      spot (at 4 14) None (codes "receive_byeFromC") ∷ []
  pub methods : method_spots written ≡ spot (at 2 16) (Some (codes "A")) (codes "m") ∷ spot (at 3 16) (Some (codes "B")) (codes "m") ∷ []
  -- what they say
  pub total : lines_of (typestate_of server) (spot (at 3 40) None (codes "send_totalIntToC")) ≡ codes "State2: send_totalIntToC -> State0\n"
  pub look : lines_of (typestate_of server) (spot (at 3 9) None (codes "receive_SChoice1LabelFromC"))
      ≡ codes "State0: receive_SChoice1LabelFromC -> <add: State1, bye: State3>\n"
  pub in_two_states : lines_of (typestate_of twice) (spot (at 2 5) None (codes "send_mToS"))
      ≡ codes "State0: send_mToS -> State1\n" ++ codes "State1: send_mToS -> end\n"
  pub of_one_state : lines_of typestate (spot (at 3 16) (Some (codes "B")) (codes "m")) ≡ codes "B: m -> end\n"
