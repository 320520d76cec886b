-- The calls of a role that follow its protocol.
use Rattle.std.specs.Prelude.{◌≡◌, List, map}
use Rattle.mg_text.specs.Call.{Name, Call}
use Rattle.scr_tree.specs.Protocol.{Parts}
use Rattle.scr_tree.specs.Steps.{Act, Position, start, Run, Finished}
use Rattle.scr_tree.specs.CallNames.{call_of}

-- some steps from the whole protocol have these calls
abbrev pub Trace : Name → Parts → List Call → Type 0
Trace me parts calls = (acts : List Act) × (end : Position) × Run parts (start parts) acts end × (map (call_of me) acts ≡ calls)

-- some steps from the whole protocol to its end have these calls
abbrev pub Complete : Name → Parts → List Call → Type 0
Complete me parts calls =
    (acts : List Act) × (end : Position) × Run parts (start parts) acts end × Finished parts end × (map (call_of me) acts ≡ calls)
