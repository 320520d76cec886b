use Rattle.std.proofs.Common.{codes}
use Rattle.mg_sources.specs.Files.{Typestates}
use Rattle.lsp_tests.proofs.diagrams.drawn.Goals as goal

pub drawing-requires : goal.drawing-requires
drawing-requires c = (Typestates, (codes "P", c.in_ok-name.ensures))
