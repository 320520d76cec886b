use Rattle.jcf_effects.proofs.Rows.{row_at, no_row}
use Rattle.jcf_effects.proofs.row_of.Goals as goal

pub returns-then-number-lt202 : goal.returns-then-number-lt202
returns-then-number-lt202 c = row_at c.args.opcode _ c.if-number-lt202.true

pub returns-else-number-lt202 : goal.returns-else-number-lt202
returns-else-number-lt202 c = no_row c.args.opcode c.if-number-lt202.false
