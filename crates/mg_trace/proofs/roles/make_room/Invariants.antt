use Rattle.std.proofs.Common.{◌≡◌, ℕ, ◌+◌, length}
use Rattle.mg_trace.specs.inner.Kept.{objects_at}
use Rattle.mg_trace.proofs.roles.make_room.Given as goal

abbrev pub invariant-loop : goal.invariant-loop
invariant-loop l = record {
  end : l.end ≡ l.fn.role + 1;
  long : length l.roles.items ≡ l.counter;
  same : (r : ℕ) → objects_at l.roles.items r ≡ objects_at l.fn.roles.items r;
}
