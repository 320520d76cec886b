use Rattle.lsp_serving.proofs.laws.one_response_each.Goals as goal

pub returns : goal.returns
returns c = λ folders old new bodies told serves. c.one_response_each.ensures folders old new serves.messages told serves.converses
