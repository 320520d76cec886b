use Rattle.mg_sources.proofs.Endings.{kind_at}
use Rattle.lsp_answers.proofs.answers.drawn.Goals as goal

pub drawing-requires : goal.drawing-requires
drawing-requires c = kind_at _ _ _ c.as_slice.result.now c.requires.file c.index-names-number.is c.requires.kinds
