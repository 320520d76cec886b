use Rattle.std.proofs.Common.{sym, subst}
use Rattle.mg_sources.specs.Files.{HaveKinds}
use Rattle.lsp_tests.proofs.defining.shown.Goals as goal

pub hover-requires-clause-kinds : goal.hover-requires-clause-kinds
hover-requires-clause-kinds c = subst HaveKinds (sym c.as_slice.ensures.items) c.in_ok-sources.ensures.kinds
