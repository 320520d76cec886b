use Rattle.std.proofs.Common.{sym, subst}
use Rattle.mg_sources.specs.Files.{HaveKinds}
use Rattle.lsp_tests.proofs.defining.defined.Goals as goal

pub definitions-requires-clause-kinds : goal.definitions-requires-clause-kinds
definitions-requires-clause-kinds c = subst HaveKinds (sym c.as_slice.ensures.items) c.in_ok-sources.ensures.kinds
