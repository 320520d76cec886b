use Rattle.std.proofs.Common.{◌≡◌, take}
use Rattle.lsp_symbols.specs.inner.Pairs.{symbols}
use Rattle.lsp_symbols.proofs.placed.symbols_of.Given as goal

abbrev pub invariant-loop-number : goal.invariant-loop-number
invariant-loop-number l = l.list.items ≡ symbols l.document (take l.number l.things) (take l.number l.ranges)
