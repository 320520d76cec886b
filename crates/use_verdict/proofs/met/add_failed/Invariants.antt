use Rattle.std.proofs.Common.{◌≡◌, ◌++◌, length}
use Rattle.std.specs.Vec.Iter.{into_iter_items, into_iter_len}
use Rattle.use_verdict.proofs.met.add_failed.Given as goal

abbrev pub invariant-loop-demand : goal.invariant-loop-demand
invariant-loop-demand l = record {
  count : into_iter_len l.demand-iterator ≡ length (into_iter_items l.demand-iterator);
  moved : l.all.items ++ into_iter_items l.demand-iterator ≡ l.initial.all.items ++ l.fn.failed.items;
}
