use Rattle.lsp_frames.proofs.Written as laws
use Rattle.lsp_frames.proofs.laws.what_is_written.Goals as goal

pub returns : goal.returns
returns c = laws.what_is_written
