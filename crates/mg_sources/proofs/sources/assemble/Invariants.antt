use Rattle.std.proofs.Common.{◌≡◌, map, length}
use Rattle.std.specs.Vec.Iter.{into_iter_items, into_iter_len}
use Rattle.mg_sources.specs.View.{sourced_of}
use Rattle.mg_sources.specs.Parts.{part_of}
use Rattle.mg_sources.proofs.Together.{MadeSoFar}
use Rattle.mg_sources.proofs.sources.assemble.Given as goal

abbrev pub invariant-loop-part : goal.invariant-loop-part
invariant-loop-part l = record {
  count : into_iter_len l.part-iterator ≡ length (into_iter_items l.part-iterator);
  made : MadeSoFar (map part_of l.fn.parts.items) l.number (map part_of (into_iter_items l.part-iterator)) (sourced_of l.sources);
}
