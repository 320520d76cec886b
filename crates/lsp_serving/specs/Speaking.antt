-- Messages of the server as bytes.
use Rattle.std.specs.Prelude.{ℕ, List}
use Rattle.std.specs.List.{flat_map}
use Rattle.serde_json.specs.Written.{compact_text}
use Rattle.lsp_messages.specs.declared.outgoing.Outgoing.{Outgoing}
use Rattle.lsp_frames.specs.Frames.{written}
use Rattle.lsp_says.specs.Said.{said}

-- the frame of a message, whose body is its JSON
abbrev pub frame_of : Outgoing → List ℕ
frame_of message = written (compact_text (said message))

-- the frames of messages, one behind the other
abbrev pub spoken : List Outgoing → List ℕ
spoken told = flat_map frame_of told
