use Rattle.lsp_frames.proofs.More as laws
use Rattle.lsp_frames.proofs.laws.more_changes_nothing.Goals as goal

pub returns : goal.returns
returns c = laws.more_changes_nothing
