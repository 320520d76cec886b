use Rattle.std.proofs.Common.{◌≡◌, length}
use Rattle.mg_io.proofs.Written.{Written}
use Rattle.mg_io.proofs.whole.write_whole.Given as goal

abbrev pub invariant-loop-rest : goal.invariant-loop-rest
invariant-loop-rest g l = record {
  written : Written (g.W.Write.contents l.initial.writer) (g.W.Write.contents l.writer) l.bytes l.rest;
  uncounted : l.refusals ≡ l.initial.refusals;
}

abbrev pub decreases-loop-rest : goal.decreases-loop-rest
decreases-loop-rest g l = length l.rest
