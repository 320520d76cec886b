use Rattle.lsp_says.proofs.WorkedRows.{rows}
use Rattle.lsp_says.proofs.laws.rows_hold.Goals as goal

pub returns : goal.returns
returns c = rows
