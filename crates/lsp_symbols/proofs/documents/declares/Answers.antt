use Rattle.std.proofs.lemmas.Result.{IfOk-weaker}
use Rattle.lsp_symbols.specs.Declares.{read}
use Rattle.lsp_symbols.proofs.Showing.{refused_none}
use Rattle.lsp_symbols.proofs.documents.declares.Goals as goal

pub returns-in-Ok : goal.returns-in-Ok
returns-in-Ok c = IfOk-weaker c.part_declares.result _ _ (λ v is. read c.in-Ok.ensures is) c.part_declares.ensures

pub returns-in-Err-Refused : goal.returns-in-Err-Refused
returns-in-Err-Refused c = refused_none _ _ _ c.new.ensures.items (rw c.in-Err-Refused.field-0-is at c.in-Err-Refused.ensures)
