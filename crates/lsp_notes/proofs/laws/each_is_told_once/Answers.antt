use Rattle.lsp_notes.proofs.Finding.{each_once}
use Rattle.lsp_notes.proofs.laws.each_is_told_once.Goals as goal

pub returns : goal.returns
returns c = each_once
