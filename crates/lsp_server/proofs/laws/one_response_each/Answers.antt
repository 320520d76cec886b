use Rattle.lsp_server.proofs.Responses as laws
use Rattle.lsp_server.proofs.laws.one_response_each.Goals as goal

pub returns : goal.returns
returns c = laws.one_response_each c.one_response_each.ensures
