use Rattle.std.proofs.Common.{◌≡◌, ◌+◌, length}
use Rattle.std.specs.Prelude.{option_map}
use Rattle.mg_read.specs.inner.Fronts.{close_at}
use Rattle.mg_read.proofs.front.close_of.Given as goal

abbrev pub invariant-bytes : goal.invariant-bytes
invariant-bytes l = record {
  so_far : option_map (λ k. l.n + k) (close_at l.rest) ≡ close_at l.bytes;
  in_range : l.n + length l.rest ≡
      length l.bytes;
}

abbrev pub decreases-bytes : goal.decreases-bytes
decreases-bytes l = length l.rest
