use Rattle.lsp_core.proofs.WholeRuns as laws
use Rattle.lsp_core.proofs.laws.one_response_each.Goals as goal

pub returns : goal.returns
returns c = laws.one_response_each
