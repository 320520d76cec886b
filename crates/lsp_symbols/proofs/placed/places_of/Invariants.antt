use Rattle.std.proofs.Common.{◌≡◌, map, take}
use Rattle.lsp_symbols.specs.inner.Pairs.{place_of}
use Rattle.lsp_symbols.proofs.placed.places_of.Given as goal

abbrev pub invariant-loop-thing : goal.invariant-loop-thing
invariant-loop-thing l = l.places.items ≡ map place_of (take l.thing-index l.things)
