use Rattle.std.proofs.Common.{◌≡◌, ◌++◌, ◌≤◌, replicate, reverse}
use Rattle.cls_layout.proofs.layout.add_times.Given as goal

abbrev pub invariant-loop : goal.invariant-loop
invariant-loop l = record {
  so_far : reverse l.due.items ≡ replicate l.counter l.part ++ reverse l.fn.due.items;
  within : l.counter ≤ l.times;
}
