-- The names of the calls that stand for what a role does.
use Rattle.std.specs.Prelude.{ℕ, List, [], ◌++◌, codes, None, Some}
use Rattle.std.specs.Fmt.{decimal}
use Rattle.mg_text.specs.Call.{Name, Call}
use Rattle.scr_tree.specs.declared.syntax.Direction.{Direction}
use Rattle.scr_tree.specs.declared.syntax.Direction.TheVariants as directions
use Rattle.scr_tree.specs.Payloads.{payload_part}
use Rattle.scr_tree.specs.Protocol.{Message, Send, Take}
use Rattle.scr_tree.specs.Steps.{Act, Moves, Looks}

-- how the name of a message's method begins, and what stands before the peer in it
abbrev pub start_of : Direction → List ℕ
start_of directions.To = codes "send_"
start_of directions.From = codes "receive_"

abbrev pub way_of : Direction → List ℕ
way_of directions.To = codes "To"
way_of directions.From = codes "From"

-- the method that sends or receives a message
abbrev pub message_call : Message → Name
message_call (Send peer label kind) = start_of directions.To ++ label ++ payload_part kind ++ way_of directions.To ++ peer
message_call (Take peer label kind) = start_of directions.From ++ label ++ payload_part kind ++ way_of directions.From ++ peer

-- the method that answers which label of a numbered choice a peer has sent, of the role's object
abbrev pub label_call : Name → ℕ → Name → Name
label_call me number peer = codes "receive_" ++ me ++ codes "Choice" ++ decimal number ++ codes "LabelFrom" ++ peer

-- the call that stands for a step
abbrev pub call_of : Name → Act → Call
call_of me (Moves message) = record { method = message_call message; answer = None }
call_of me (Looks number peer label) = record { method = label_call me number peer; answer = Some label }
