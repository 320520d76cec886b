use Rattle.std.proofs.Common.{ℕ, map, option_map}
use Rattle.mg_calls.specs.Answer.{call_of}
use Rattle.mg_calls.proofs.FileLemmas.{Left, left_size}
use Rattle.mg_calls.proofs.read_calls.Given as goal

abbrev pub invariant-loop-rest : goal.invariant-loop-rest
invariant-loop-rest l = Left l.file l.fn.bytes (option_map (λ b. b.now) l.rest) l.line (map call_of l.calls.items)

abbrev pub decreases-loop-rest : goal.decreases-loop-rest
decreases-loop-rest l = left_size (option_map (λ b. b.now) l.rest)
