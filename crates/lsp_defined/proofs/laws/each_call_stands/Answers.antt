use Rattle.lsp_defined.proofs.Standing.{each_stands}
use Rattle.lsp_defined.proofs.laws.each_call_stands.Goals as goal

pub returns : goal.returns
returns c = each_stands
