use Rattle.lsp_frames.proofs.Written.{rows}
use Rattle.lsp_frames.proofs.laws.rows_hold.Goals as goal

pub returns : goal.returns
returns c = rows
