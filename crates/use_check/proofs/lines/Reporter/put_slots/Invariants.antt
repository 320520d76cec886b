use Rattle.std.proofs.Common.{◌≡◌, ◌++◌, take, map, string_bytes}
use Rattle.std.specs.List.{flat_map}
use Rattle.jv_core.specs.View.{slot_of}
use Rattle.use_check.specs.Report.{slot_line}
use Rattle.use_check.specs.inner.Reported.{seen}
use Rattle.use_check.proofs.lines.Reporter.put_slots.Given as goal

abbrev pub invariant-loop-slot : goal.invariant-loop-slot
invariant-loop-slot l =
    string_bytes l.out ≡ string_bytes l.initial.out
    ++ flat_map (slot_line (seen l.self) l.front l.context l.loop_number (map slot_of l.slots)) (take l.slot-index l.scope)
