use Rattle.std.proofs.Common.{◌≡◌, ◌++◌, string_bytes, take}
use Rattle.std.specs.List.{flat_map}
use Rattle.mg_delivery.proofs.lines.put.Given as goal

abbrev pub invariant-loop-part : goal.invariant-loop-part
invariant-loop-part l = string_bytes l.line ≡ string_bytes l.initial.line ++ flat_map (λ p. p.now) (take l.part-index l.parts)
