use Rattle.std.proofs.Common.{refl}
use Rattle.lsp_symbols.proofs.laws.rows_hold.Goals as goal

pub returns : goal.returns
returns c = record { states = refl; each_protocol = refl; nothing = refl }
