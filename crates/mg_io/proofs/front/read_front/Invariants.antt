use Rattle.std.proofs.Common.{◌<◌, ◌≤◌, ◌-◌, ◌≡◌, length, vec_len}
use Rattle.mg_io.proofs.Taken.{Taken}
use Rattle.mg_io.proofs.front.read_front.Given as goal

abbrev pub invariant-loop-buffer : goal.invariant-loop-buffer
invariant-loop-buffer g l = record {
  bound : length l.bytes ≤ l.limit;
  room : 0 < l.limit → 0 < vec_len l.buffer;
  taken : Taken (g.R.Read.remaining l.initial.reader) (g.R.Read.remaining l.reader) l.bytes;
  uncounted : l.refusals ≡ l.initial.refusals;
}

abbrev pub decreases-loop-buffer : goal.decreases-loop-buffer
decreases-loop-buffer g l = l.limit - length l.bytes
