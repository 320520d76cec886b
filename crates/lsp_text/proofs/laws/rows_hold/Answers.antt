use Rattle.lsp_text.proofs.WorkedRows.{rows}
use Rattle.lsp_text.proofs.laws.rows_hold.Goals as goal

pub returns : goal.returns
returns c = rows
