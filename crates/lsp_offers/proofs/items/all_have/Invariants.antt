use Rattle.std.proofs.Common.{◌≡◌, drop}
use Rattle.lsp_offers.specs.inner.Named.{all_have}
use Rattle.lsp_offers.proofs.items.all_have.Given as goal

abbrev pub invariant-loop-names : goal.invariant-loop-names
invariant-loop-names l = all_have (drop l.names-index l.tables) l.name ≡ all_have l.tables l.name
