use Rattle.lsp_core.proofs.WholeRuns as laws
use Rattle.lsp_core.proofs.laws.nothing_after_exit.Goals as goal

pub returns : goal.returns
returns c = laws.nothing_after_exit
