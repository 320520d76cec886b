use Rattle.lsp_text.proofs.Meanings as meanings
use Rattle.lsp_text.proofs.laws.one_position.Goals as goal

pub returns : goal.returns
returns c e text o p q = meanings.one_position e text o p q
