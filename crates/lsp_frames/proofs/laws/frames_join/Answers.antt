use Rattle.lsp_frames.proofs.More as laws
use Rattle.lsp_frames.proofs.laws.frames_join.Goals as goal

pub returns : goal.returns
returns c = laws.frames_join
