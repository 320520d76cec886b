use Rattle.lsp_text.proofs.Meanings.{back}
use Rattle.lsp_text.proofs.laws.there_and_back.Goals as goal

pub returns : goal.returns
returns c e text l d o p position = back e text l d o p position
