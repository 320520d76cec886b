use Rattle.std.proofs.Common.{◌≡◌, length}
use Rattle.mg_sources.specs.Files.{HaveKinds}
use Rattle.part_cases.proofs.sources.sources_of.Given as goal

abbrev pub invariant-loop-file : goal.invariant-loop-file
invariant-loop-file l = (length l.names.items ≡ length l.contents.items) × HaveKinds l.names.items
