use Rattle.lsp_names.proofs.WorkedRows.{rows}
use Rattle.lsp_names.proofs.rows_hold.Goals as goal

pub returns : goal.returns
returns c = rows
