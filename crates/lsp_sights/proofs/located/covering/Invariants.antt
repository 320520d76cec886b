use Rattle.std.proofs.Common.{◌≡◌, drop}
use Rattle.std.specs.Prelude.{filter}
use Rattle.lsp_sights.specs.Located.{covers}
use Rattle.lsp_sights.specs.inner.Zipped.{first}
use Rattle.lsp_sights.proofs.located.covering.Given as goal

abbrev pub invariant-loop-call : goal.invariant-loop-call
invariant-loop-call l = first (filter (covers l.offset) (drop l.call-index l.calls)) ≡ first (filter (covers l.offset) l.calls)
