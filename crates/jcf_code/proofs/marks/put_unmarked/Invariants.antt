use Rattle.std.proofs.Common.{◌≡◌, ◌++◌, ◌≤◌, replicate}
use Rattle.std.specs.Prelude.{false}
use Rattle.jcf_code.proofs.marks.put_unmarked.Given as goal

abbrev pub invariant-loop : goal.invariant-loop
invariant-loop l = record {
  so_far : l.marks.items ≡ l.fn.marks.items ++ replicate l.counter false;
  within : l.counter ≤ l.times;
}
