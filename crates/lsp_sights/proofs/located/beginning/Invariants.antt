use Rattle.std.proofs.Common.{◌≡◌, take}
use Rattle.std.specs.Prelude.{filter}
use Rattle.lsp_sights.specs.Located.{begins_within}
use Rattle.lsp_sights.proofs.located.beginning.Given as goal

abbrev pub invariant-loop-call : goal.invariant-loop-call
invariant-loop-call l = l.found.items ≡ filter (begins_within l.from l.to) (take l.call-index l.calls)
