use Rattle.lsp_server.proofs.Displays as laws
use Rattle.lsp_server.proofs.laws.nothing_stays.Goals as goal

pub returns : goal.returns
returns c = laws.nothing_stays
