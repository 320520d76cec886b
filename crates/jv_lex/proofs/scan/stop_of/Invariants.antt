use Rattle.std.proofs.Common.{length}
use Rattle.jv_lex.proofs.Scans.{Reached}
use Rattle.jv_lex.proofs.scan.stop_of.Given as goal

abbrev pub invariant-pieces : goal.invariant-pieces
invariant-pieces l = Reached l.bytes l.offset l.rest

abbrev pub decreases-pieces : goal.decreases-pieces
decreases-pieces l = length l.rest
