use Rattle.lsp_frames.proofs.Readings as laws
use Rattle.lsp_frames.proofs.laws.one_reading.Goals as goal

pub returns : goal.returns
returns c = laws.one_reading
