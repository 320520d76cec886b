use Rattle.std.proofs.Common.{◌≡◌, ◌++◌, map, length}
use Rattle.std.specs.Vec.Iter.{into_iter_items, into_iter_len}
use Rattle.scr_tree.specs.View.{part_of}
use Rattle.scr_read.proofs.Moved.{meant_of}
use Rattle.scr_read.proofs.verdict.parts_of.Given as goal

abbrev pub invariant-loop-part : goal.invariant-loop-part
invariant-loop-part l = record {
  count : into_iter_len l.part-iterator ≡ length (into_iter_items l.part-iterator);
  moved : map part_of l.parts.items ++ map meant_of (into_iter_items l.part-iterator) ≡ map meant_of l.fn.written.items;
}
