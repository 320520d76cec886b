use Rattle.std.proofs.Common.{refl}
use Rattle.lsp_drawing.proofs.laws.rows_hold.Goals as goal

pub returns : goal.returns
returns c = record { adder_drawn = refl; asking_drawn = refl; nothing_drawn = refl }
