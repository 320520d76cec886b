use Rattle.lsp_text.proofs.Meanings as meanings
use Rattle.lsp_text.proofs.laws.one_meaning.Goals as goal

pub returns : goal.returns
returns c e text position o p = meanings.one_meaning e text position o p
