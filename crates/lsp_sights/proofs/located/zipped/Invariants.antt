use Rattle.std.proofs.Common.{◌≡◌, take}
use Rattle.lsp_sights.specs.inner.Zipped.{zipped}
use Rattle.lsp_sights.proofs.located.zipped.Given as goal

abbrev pub invariant-loop-number : goal.invariant-loop-number
invariant-loop-number l = l.calls.items ≡ zipped l.text (take l.number l.sites) (take l.number l.starts)
