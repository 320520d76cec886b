use Rattle.std.proofs.Common.{◌≡◌, length}
use Rattle.mg_sources.specs.Files.{HaveKinds}
use Rattle.lsp_tests.proofs.defining.adder.Given as goal

abbrev pub invariant-loop-name : goal.invariant-loop-name
invariant-loop-name l = (length l.names.items ≡ length l.contents.items) × HaveKinds l.names.items
