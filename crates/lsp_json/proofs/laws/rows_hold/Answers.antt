use Rattle.lsp_json.proofs.WorkedRows.{rows}
use Rattle.lsp_json.proofs.laws.rows_hold.Goals as goal

pub returns : goal.returns
returns c = rows
