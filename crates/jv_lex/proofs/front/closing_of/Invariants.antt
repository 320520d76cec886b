use Rattle.std.proofs.Common.{◌≡◌, ◌+◌, length, false}
use Rattle.std.specs.Prelude.{option_map}
use Rattle.jv_lex.specs.inner.Front.{closing_at}
use Rattle.jv_lex.proofs.front.closing_of.Given as goal

abbrev pub invariant-bytes : goal.invariant-bytes
invariant-bytes l =
    record {
      so_far : option_map (λ k. l.n + k) (closing_at l.after_backslash l.rest) ≡ closing_at false l.bytes;
      in_range : l.n + length l.rest ≡ length l.bytes;
    }

abbrev pub decreases-bytes : goal.decreases-bytes
decreases-bytes l = length l.rest
