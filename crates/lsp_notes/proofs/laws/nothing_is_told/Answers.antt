use Rattle.lsp_notes.proofs.Finding.{nothing_told}
use Rattle.lsp_notes.proofs.laws.nothing_is_told.Goals as goal

pub returns : goal.returns
returns c = nothing_told
