use Rattle.std.proofs.Common.{◌≡◌, map, take}
use Rattle.lsp_defined.specs.inner.Located.{location}
use Rattle.lsp_defined.proofs.locations.with_name.Given as goal

abbrev pub invariant-loop-range : goal.invariant-loop-range
invariant-loop-range l = l.locations.items ≡ map (location l.document) (take l.range-index l.ranges)
