use Rattle.scr_read.proofs.Unplaced.{no_place}
use Rattle.scr_read.proofs.fault_placed.Goals as goal

pub returns-in_default-clause-place : goal.returns-in_default-clause-place
returns-in_default-clause-place c = no_place c.args.file c.args.bytes.now c.args.fault c.in_default.not-Syntax
