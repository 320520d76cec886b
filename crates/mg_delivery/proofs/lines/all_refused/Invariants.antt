use Rattle.std.proofs.Common.{◌≡◌, take}
use Rattle.std.specs.Prelude.{string_bytes}
use Rattle.std.specs.List.{flat_map}
use Rattle.mg_delivery.specs.Lines.{refusal_line}
use Rattle.mg_delivery.proofs.lines.all_refused.Given as goal

abbrev pub invariant-loop-refusal : goal.invariant-loop-refusal
invariant-loop-refusal l = string_bytes l.lines ≡ flat_map (refusal_line l.names) (take l.refusal-index l.refusals)
