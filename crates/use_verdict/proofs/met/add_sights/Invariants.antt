use Rattle.std.proofs.Common.{◌≡◌, ◌++◌, length}
use Rattle.std.specs.Vec.Iter.{into_iter_items, into_iter_len}
use Rattle.use_verdict.proofs.met.add_sights.Given as goal

abbrev pub invariant-loop-sight : goal.invariant-loop-sight
invariant-loop-sight l = record {
  count : into_iter_len l.sight-iterator ≡ length (into_iter_items l.sight-iterator);
  moved : l.all.items ++ into_iter_items l.sight-iterator ≡ l.initial.all.items ++ l.fn.sights.items;
}
