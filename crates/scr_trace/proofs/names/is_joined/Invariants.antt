use Rattle.std.proofs.Common.{◌≡◌, drop}
use Rattle.std.specs.Str.{bytes_eq}
use Rattle.scr_trace.specs.inner.Joined.{joined}
use Rattle.scr_trace.proofs.names.is_joined.Given as goal

abbrev pub invariant-loop-piece : goal.invariant-loop-piece
invariant-loop-piece l = bytes_eq l.text (joined l.pieces) ≡ bytes_eq l.rest (joined (drop l.piece-index l.pieces))
