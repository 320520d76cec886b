use Rattle.std.proofs.Common.{◌≡◌, ◌+◌, length, false}
use Rattle.std.specs.Prelude.{option_map}
use Rattle.jv_lex.specs.inner.Front.{unicode_at}
use Rattle.jv_lex.proofs.front.unicode_of.Given as goal

abbrev pub invariant-bytes : goal.invariant-bytes
invariant-bytes l =
    record {
      so_far : option_map (λ k. l.n + k) (unicode_at l.after_backslash l.rest) ≡ unicode_at false l.body;
      in_range : l.n + length l.rest ≡ length l.body;
    }

abbrev pub decreases-bytes : goal.decreases-bytes
decreases-bytes l = length l.rest
