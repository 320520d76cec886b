use Rattle.std.proofs.lemmas.Result.{IfOk-weaker}
use Rattle.lsp_drawing.specs.Drawings.{refused}
use Rattle.lsp_drawing.proofs.Showing.{read_drawn, nothing_drawn}
use Rattle.lsp_drawing.proofs.drawings.drawing.Goals as goal

pub returns-in-Ok : goal.returns-in-Ok
returns-in-Ok c = IfOk-weaker c.drawn_of.result _ _ (λ d is. read_drawn _ _ d c.in-Ok.ensures is) c.drawn_of.ensures

pub returns-in-Err-Refused : goal.returns-in-Err-Refused
returns-in-Err-Refused c = nothing_drawn _ (refused (rw c.in-Err-Refused.field-0-is at c.in-Err-Refused.ensures))
