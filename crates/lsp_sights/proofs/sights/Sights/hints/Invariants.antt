use Rattle.std.proofs.Common.{◌≡◌, take}
use Rattle.indexmap.specs.IndexMap.{get}
use Rattle.mg_shown.proofs.Seeing.{key_eq}
use Rattle.lsp_sights.specs.inner.Hinted.{hinted}
use Rattle.lsp_sights.proofs.sights.Sights.hints.Given as goal

abbrev pub invariant-loop-number : goal.invariant-loop-number
invariant-loop-number l =
    l.hints.items ≡ hinted l.self.core.now (get key_eq l.self.seen.now) (take l.number l.calls) (take l.number l.positions)
