use Rattle.std.proofs.Common.{take}
use Rattle.mg_sources.specs.Files.{sources}
use Rattle.mg_faults.specs.Faults.{AreRefused}
use Rattle.mg_faults.proofs.readings.read_each.Given as goal

abbrev pub invariant-loop-number : goal.invariant-loop-number
invariant-loop-number l = AreRefused (take l.number (sources l.names l.contents)) l.refusals.items
