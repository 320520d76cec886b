use Rattle.std.proofs.Common.{map}
use Rattle.mg_sources.specs.Files.{sources}
use Rattle.mg_sources.specs.Parts.{part_of}
use Rattle.mg_sources.proofs.PartLemmas.{ReadSoFar}
use Rattle.mg_sources.proofs.parts.read_parts.Given as goal

abbrev pub invariant-loop-number : goal.invariant-loop-number
invariant-loop-number l = ReadSoFar (sources l.names l.contents) l.number (map part_of l.parts.items)
