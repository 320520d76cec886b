use Rattle.std.proofs.Common.{◌≡◌, take, map}
use Rattle.lsp_sights.proofs.behind.ends_of.Given as goal

abbrev pub invariant-loop-call : goal.invariant-loop-call
invariant-loop-call l = l.ends.items ≡ map (λ c. c.end) (take l.call-index l.calls)
