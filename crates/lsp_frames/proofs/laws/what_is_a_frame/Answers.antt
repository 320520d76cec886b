use Rattle.lsp_frames.proofs.FrameLaws as laws
use Rattle.lsp_frames.proofs.laws.what_is_a_frame.Goals as goal

pub returns : goal.returns
returns c = laws.what_is_a_frame
