use Rattle.std.proofs.Common.{◌≡◌, ◌++◌, length}
use Rattle.std.specs.Vec.Iter.{into_iter_items, into_iter_len}
use Rattle.scr_project.proofs.part.append.Given as goal

abbrev pub invariant-loop-statement : goal.invariant-loop-statement
invariant-loop-statement l = record {
  count : into_iter_len l.statement-iterator ≡ length (into_iter_items l.statement-iterator);
  moved : l.front.items ++ into_iter_items l.statement-iterator ≡ l.fn.front.items ++ l.fn.more.items;
}
