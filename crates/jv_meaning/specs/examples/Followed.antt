-- The calls of the file reader's object, and where they lead along its typestate.
use Rattle.std.specs.Prelude.{◌≡◌, List, [], ◌∷◌, false, Some, None, codes}
use Rattle.mg_text.specs.Call.{Name, Call}
use Rattle.ts_tree.specs.declared.parts.To.TheVariants as tos
use Rattle.ts_tree.specs.declared.parts.TypeName.TheVariants as types
use Rattle.ts_tree.specs.Typestate.{One, ByAnswer, State, Typestate}
use Rattle.ts_tree.specs.Calls.{initial, led}
use Rattle.jv_meaning.specs.Meaning.{mean}
use Rattle.jv_meaning.specs.Calls.{calls}
use Rattle.jv_meaning.specs.examples.Programs.{reader_program}

-- typestate FileProtocol {
--   Init = { FileStatus open(): <OK: Open, ERROR: end> }
--   Open = { BooleanEnum hasNext(): <TRUE: Read, FALSE: Close> }
--   Read = { void read(): Open }
--   Close = { void close(): end }
-- }
abbrev init : State
init = record {
  name = codes "Init";
  methods =
      record {
        result = types.Named (codes "FileStatus");
        name = codes "open";
        params = [];
        target = ByAnswer (record { label = codes "OK"; to = tos.State 1 } ∷ record { label = codes "ERROR"; to = tos.End } ∷ []);
      } ∷ [];
  drops = false;
}

abbrev open_state : State
open_state = record {
  name = codes "Open";
  methods =
      record {
        result = types.Named (codes "BooleanEnum");
        name = codes "hasNext";
        params = [];
        target = ByAnswer (record { label = codes "TRUE"; to = tos.State 2 } ∷ record { label = codes "FALSE"; to = tos.State 3 } ∷ []);
      } ∷ [];
  drops = false;
}

abbrev read_state : State
read_state = record {
  name = codes "Read";
  methods = record { result = types.Void; name = codes "read"; params = []; target = One (tos.State 1) } ∷ [];
  drops = false;
}

abbrev close_state : State
close_state = record {
  name = codes "Close";
  methods = record { result = types.Void; name = codes "close"; params = []; target = One tos.End } ∷ [];
  drops = false;
}

abbrev file_protocol : Typestate
file_protocol = record { name = codes "FileProtocol"; states = init ∷ open_state ∷ read_state ∷ close_state ∷ [] }

abbrev answers : (method label : Name) → Call
answers m l = record { method = m; answer = Some l }

abbrev returns : (method : Name) → Call
returns m = record { method = m; answer = None }

abbrev made_calls : List Call
made_calls =
    answers (codes "open") (codes "OK") ∷
    answers (codes "hasNext") (codes "TRUE") ∷ returns (codes "read") ∷
    answers (codes "hasNext") (codes "TRUE") ∷ returns (codes "read") ∷
    answers (codes "hasNext") (codes "FALSE") ∷ returns (codes "close") ∷
    []

-- the calls of the object, and that they lead from the first state to the end
pub record All : Type 0 where
  pub calls_are : calls reader_program (codes "File") 0 (mean reader_program (codes "Main") [] 3).events ≡ made_calls
  pub lead_to_the_end : led file_protocol (initial file_protocol) made_calls ≡ Some tos.End
