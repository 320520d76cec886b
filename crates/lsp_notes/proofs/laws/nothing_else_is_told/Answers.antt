use Rattle.lsp_notes.proofs.Finding.{nothing_else, as_many_told}
use Rattle.lsp_notes.proofs.laws.nothing_else_is_told.Goals as goal

pub returns : goal.returns
returns c = record { of = nothing_else; many = as_many_told }
