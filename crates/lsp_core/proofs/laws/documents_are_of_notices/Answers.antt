use Rattle.lsp_core.proofs.WholeRuns as laws
use Rattle.lsp_core.proofs.laws.documents_are_of_notices.Goals as goal

pub returns : goal.returns
returns c = laws.documents_are_of_notices
